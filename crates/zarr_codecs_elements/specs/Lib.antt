pub mod Numbers
pub mod Offset
pub mod Order
pub mod Moved
pub mod Moving
