pub mod Options
pub mod CodecSpecificOptions
pub mod RecommendedConcurrency
pub mod BytesRepresentation
pub mod CodecError
