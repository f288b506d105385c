pub mod SizeLaws
pub mod PartLaws
pub mod OptionalLaws
pub mod InnerLaws
mod KindLaws
mod KindInnerLaws
mod ReadsBack
