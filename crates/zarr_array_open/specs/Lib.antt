pub use Rattle.zarr_basics.specs as basics
pub use Rattle.zarr_codecs.specs as kinds
pub mod Document
pub mod Chain
pub mod Sizes
pub mod Opening
pub mod OpenError
pub mod Parts
pub mod Codecs
pub mod ChunkLevels
pub mod Sharding
pub mod Configuration
pub mod ShardDocument
pub mod ShardOpening
pub mod Views
