pub mod BoxLaws
pub mod CountLaws
pub mod FaultLaws
pub mod NamedLaws
pub mod SelectsLaws
pub mod UpdateLaws
pub mod SliceLaws
pub mod StoredLaws
