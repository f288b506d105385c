pub mod NamePattern
pub mod Registry
pub mod Error
pub mod Making
pub mod Number
