pub mod Boxes
pub mod ArraySubset
pub mod Errors
pub mod Ravel
