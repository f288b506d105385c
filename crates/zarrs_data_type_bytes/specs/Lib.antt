pub mod Pieces
pub mod FillValue
pub mod Rounding
pub mod ByteOrder
pub mod BytesSupport
pub mod CodecSupport
