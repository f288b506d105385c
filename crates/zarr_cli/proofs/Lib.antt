pub mod EndingLemmas
pub mod WordLemmas
pub mod InputLaws
mod LineLaws
mod NewlineLaws
mod ReadLaws
mod TakenLaws
mod AsciiLaws
mod StepLemmas
pub mod RunLemmas
mod RanLaws
pub mod StarvedLaws
pub mod ProgramLaws
pub mod Worked
mod Examples
mod Refuted
mod Shards
mod OutcomeLemmas
mod LinesLaws
mod EarlyLaws
mod MadeLemmas
