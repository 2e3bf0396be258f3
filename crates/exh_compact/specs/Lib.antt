pub use Rattle.exhash.specs.FileChange
pub use Rattle.exhash.specs.Opened
pub use Rattle.exhash.specs.Opening
pub use Rattle.exhash.specs.Saved
pub use Rattle.exhash.specs.LegalBytes
pub use Rattle.exhash.specs.VersionLaws
pub use Rattle.exhash.specs.VersionLemmas
-- which keys find no room, which pages are needed, and what a file made anew of pairs is
pub mod Room
pub mod Needed
pub mod Compacted
-- when a page is out of reach, what is counted of a page, what a file's numbers are, and their texts
pub mod Reach
pub mod Shape
pub mod Stats
pub mod Text
