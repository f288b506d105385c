pub use Rattle.zarr_cli_lines.specs as lines
pub use Rattle.zarr_array.specs as array
pub mod Generator
pub mod MadeCommands
pub mod Document
pub mod Summary
pub mod Tally
pub mod Ending
pub mod Status
pub mod Opening
pub mod Between
pub mod Commands
pub mod Job
pub mod Keys
pub mod Made
pub mod Honest
