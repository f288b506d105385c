pub mod MaskLaws
pub mod ClearLaws
pub mod MeanLaws
pub mod ShortLaws
pub mod CountLaws
pub mod BandLaws
pub mod SpanLaws
pub mod ProductLaws
pub mod MovedLaws
pub mod RunLaws
pub mod FailLaws
pub mod RechunkLaws
mod ProgramLaws
mod SaidLaws
mod AnswerLaws
