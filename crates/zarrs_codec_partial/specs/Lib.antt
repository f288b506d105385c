pub use Rattle.zarrs_codec.specs as bytes
pub use Rattle.zarrs_codec_partial_elements.specs as elements
pub mod Above
pub mod Counted
pub mod Reading
pub mod Writing
