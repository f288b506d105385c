pub mod Offset
pub mod OffsetOf
pub mod Shifted
pub mod OrderOf
pub mod Configuration
pub mod ArrayToArray
pub mod Views
pub mod Laws
