mod IndexLaws
pub mod ShardLaws
mod PlacedLaws
mod CutLaws
pub mod CodecFacts
mod InnerLaws
mod WholeLaws
mod PairLaws
mod EncodeLaws
mod MakingLaws
mod OwnLaws
mod FetchLaws
mod MetLaws
pub mod RegionLaws
mod PartLaws
mod FetchSteps
mod ReadSteps
pub mod FaultLaws
