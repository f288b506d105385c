pub use Rattle.zarr_codecs_to_bytes.specs as to_bytes
pub use Rattle.zarr_codecs_array_to_array.specs as array_to_array
pub mod Plain
pub mod Laws
pub mod Views
pub mod Answers
pub mod Inner
pub mod BytesToBytes
pub mod CodecForm
