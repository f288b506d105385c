pub mod GroupBack
pub mod GroupFields
pub mod GroupTwice
pub mod ArrayBack
pub mod ReadFields
pub mod Twice
pub mod AnyBack
pub mod StaysKind
