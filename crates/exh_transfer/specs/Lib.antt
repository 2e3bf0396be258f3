pub use Rattle.exh_run.specs.AnyAnswer
pub use Rattle.exh_compact.specs.FileChange
pub use Rattle.exh_compact.specs.Opened
pub use Rattle.exh_run.specs.JobPath
pub use Rattle.exh_run.specs.LastLine
pub use Rattle.exh_map.specs.CallFault
pub use Rattle.exh_map.specs.FileMap
pub use Rattle.exh_run.specs.Ends
pub use Rattle.exh_run.specs.LineLemmas
pub use Rattle.exh_run.specs.SaidLemmas
-- how the commands about all pairs end, by what the library answers
pub mod Compacts
pub mod Counts
pub mod Exports
pub mod Imports
pub mod Laws
pub mod Salvages
pub mod SalvageLaws
