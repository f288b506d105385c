pub mod BoxLaws
pub mod PartLaws
pub mod Ravels
pub mod MoveLaws
pub mod Lengths
