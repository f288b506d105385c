pub mod JoinLaws
pub mod MeansLaws
pub mod OverlapLaws
pub mod UpdateLaws
pub mod HeldLaws
pub mod SideLaws
pub mod TargetLaws
pub mod ViewLaws
