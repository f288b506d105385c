pub mod Level
pub mod Boxes
pub mod Reading
pub mod Writing
pub mod Steps
pub mod Counted
pub mod Kinds
