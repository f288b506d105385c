pub mod ShardArray
pub mod Access
pub mod Calls
pub mod Costs
pub mod Says
pub mod Run
pub mod Answers
pub mod Steps
