pub use Rattle.zarr_array_boxes.specs as boxes
pub use Rattle.zarr_array_open.specs as parts
pub use Rattle.zarr_chunks.specs as stored
pub mod CommandError
pub mod Codecs
pub mod Chunk
pub mod Asked
pub mod Access
pub mod Pays
pub mod Tells
pub mod Told
pub mod Plain
pub mod RegionChunks
pub mod Fetch
pub mod Shared
pub mod Store
pub mod Read
pub mod Write
pub mod PartWay
pub mod OpenError
pub mod OpenArray
pub mod Handle
pub mod Stored
pub mod Decoded
pub mod Session
pub mod WritesUpTo
pub mod Answers
pub mod Ended
pub mod Runs
pub mod Costs
pub mod Taken
