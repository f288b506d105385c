pub mod OffsetLaws
pub mod CheckLaws
pub mod RowLaws
pub mod RunLaws
pub mod MeaningLaws
pub mod ToldLaws
pub mod ExtractLaws
