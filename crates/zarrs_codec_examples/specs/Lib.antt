pub mod SingleBytes
pub mod Turned
