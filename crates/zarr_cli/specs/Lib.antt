pub use Rattle.zarr_cli_runs.specs as runs
pub mod Words
pub mod Status
pub mod Input
pub mod Lines
pub mod Seen
pub mod Ends
pub mod Outcome
pub mod Run
pub mod Written
pub mod Array
pub mod Answers
pub mod Steps
pub mod ProgramInput
pub mod Program
pub mod ProgramAnswers
pub mod Made
pub mod ProgramSteps
