pub mod Elements
pub mod Shared
pub mod Given
pub mod PlaceRuns
pub mod BoxElements
pub mod Command
