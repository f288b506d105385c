pub mod ByteFacts
pub mod Boxes
pub mod Ranges
pub mod Items
pub mod RunFacts
