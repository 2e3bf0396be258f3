pub use Rattle.exh_paged.specs.LegalPlaced
pub use Rattle.exh_paged.specs.PlacedFile
pub use Rattle.exh_paged.specs.FilePages
pub use Rattle.exh_paged.specs.KnownBlocks
pub use Rattle.exh_paged.specs.FileLimits
pub use Rattle.exh_paged.specs.HomeLemmas
pub use Rattle.exh_paged.specs.Opening
pub use Rattle.exh_paged.specs.TurnLemmas
pub use Rattle.exh_system.specs.SystemLimits
pub use Rattle.exh_paged.specs.LegalBytes
pub use Rattle.exh_paged.specs.VersionLaws
pub use Rattle.exh_paged.specs.VersionLemmas
pub use Rattle.exh_paged.specs.Batch
pub use Rattle.exh_system.specs.DirectLaws
pub use Rattle.exh_paged.specs.Draft
pub use Rattle.exh_paged.specs.FileChange
pub use Rattle.exh_paged.specs.InWardLemmas
pub use Rattle.exh_paged.specs.OneMapLemmas
pub use Rattle.exh_paged.specs.Opened
pub use Rattle.exh_paged.specs.Placing
pub use Rattle.exh_paged.specs.Reopened
pub use Rattle.exh_paged.specs.Saved
pub use Rattle.exh_paged.specs.SplitLemmas
pub use Rattle.exh_paged.specs.WardChange
pub use Rattle.exh_paged.specs.CallChange
pub use Rattle.exh_paged.specs.CallsChange
pub use Rattle.exh_paged.specs.FilesFault
pub use Rattle.exh_paged.specs.OwnLog
pub use Rattle.exh_paged.specs.SaveFilesFault
pub use Rattle.exh_paged.specs.Saving
pub use Rattle.exh_paged.specs.AnyAnswer
pub use Rattle.exh_paged.specs.PlacedLaws
-- what a crash leaves of a file of the system
pub mod SystemFiles
-- what a refusal tells of a file
pub mod Refusals
-- a page file in memory that has what its log had
pub mod InMemory
