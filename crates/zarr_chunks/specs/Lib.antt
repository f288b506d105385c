pub mod Fetch
pub mod Regions
pub mod Put
pub mod Update
pub mod Seen
pub mod Handle
