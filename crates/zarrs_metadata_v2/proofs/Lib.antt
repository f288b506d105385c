pub mod Chunks
pub mod ArrayBack
pub mod GroupBack
pub mod Stays
pub mod Twice
