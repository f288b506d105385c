mod ShiftLaws
mod FillLaws
pub mod CodecLaws
