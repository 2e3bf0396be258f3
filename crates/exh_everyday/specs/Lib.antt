pub use Rattle.exh_transfer.specs.Opened
pub use Rattle.exh_transfer.specs.JobPath
pub use Rattle.exh_transfer.specs.LastLine
-- what is printed, how the program ends, what the library answers, and keys that are found one after the other
pub mod Answers
pub mod Endings
pub mod Changes
pub mod Founds
pub mod Runs
