mod ByteLaws
mod FillLaws
pub mod AboveLaws
pub mod StoreLaws
mod ServedLaws
mod ReadLaws
