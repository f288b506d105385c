pub mod Reading
pub mod Writing
pub mod Rising
pub mod Forms
pub mod Configuration
pub mod FillValueMetadata
