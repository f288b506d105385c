pub mod TypeOrderLaws
pub mod ReversedLaws
pub mod OrderLaws
pub mod DecodeLaws
pub mod MeansLaws
pub mod StepLaws
pub mod FillLaws
pub mod ServedLaws
pub mod TranslatedLaws
pub mod AlikeLaws
pub mod SameLaws
mod MemberLaws
mod ReadLaws
mod WrittenLaws
pub mod PositiveLaws
pub mod MeaningTextLaws
mod TextLaws
mod BuiltinLaws
mod LyingLaws
mod SaysLaws
mod LinesLaws
mod EarlyLaws
