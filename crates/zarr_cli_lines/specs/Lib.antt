pub use Rattle.zarr_array_boxes.specs as boxes
pub mod ElementText
pub mod Fixed
pub mod Put
pub mod Place
pub mod Text
pub mod Parts
