pub mod ReferenceLaws
pub mod SliceLaws
pub mod ReadLaws
pub mod KeyLaws
pub mod WithinLaws
pub mod KeptLaws
pub mod ChangeLaws
pub mod SessionLaws
mod LineLaws
mod ReadsLaws
mod SaidLaws
mod AnswerLaws
