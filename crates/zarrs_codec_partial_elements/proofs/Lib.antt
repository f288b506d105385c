pub mod AbsentLaws
pub mod DenotesLaws
pub mod HeldLaws
pub mod ReadLaws
pub mod WriteLaws
pub mod StepLaws
mod BottomLaws
pub mod ServedLaws
