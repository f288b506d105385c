pub mod Levels
pub mod Values
pub mod Chain
pub mod Regions
pub mod Building
pub mod Encoding
pub mod Answers
pub mod Prelude
