pub use Rattle.exhash.specs.AnyAnswer
pub use Rattle.exh_job.specs.JobPath
pub use Rattle.exh_job.specs.LastLine
pub use Rattle.exhash.specs.Store
-- how the run of a command ends, what standard input gives, what a save comes to, and lines that are added one after the other
pub mod Ends
pub mod Input
pub mod LineLemmas
pub mod Saves
pub mod SaidLemmas
