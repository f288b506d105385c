pub mod Places
pub mod Yields
pub mod Ends
pub mod Runs
pub mod Iterators
pub mod ListIterators
pub mod Lists
