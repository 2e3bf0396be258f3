pub use Rattle.exh_placing.specs.Places
pub use Rattle.exh_placing.specs.StampedHeader
pub use Rattle.exh_text.specs.Numbers
pub use Rattle.exh_text.specs.TextLines
pub use Rattle.exh_versions.specs.LegalBytes
pub use Rattle.exh_versions.specs.VersionLaws
pub use Rattle.exh_versions.specs.VersionLemmas
-- the definitions of page files, of which the clauses here speak
pub use Rattle.exh_format.specs.FileParts
pub use Rattle.exh_format.specs.FileTests
pub use Rattle.exh_format.specs.FileVersion
pub use Rattle.exh_format.specs.LegalFile
pub use Rattle.exh_format.specs.LegalFileFault
pub use Rattle.exh_format.specs.PageFile
pub use Rattle.exh_format.specs.ReadFileFault
pub use Rattle.exh_format.specs.Reading
pub use Rattle.exh_format.specs.Writing
-- the faults of opening and of writing
pub mod Opened
pub mod Opening
pub mod WardChange
pub mod FileChange
pub mod ReplyLine
-- lemmas, for the proofs of this crate and of those above it: of pages that are split, of what splits keep, of the home at
-- which a call is answered, of the ward of a key among the wards of a file, and of the wards' maps as one
pub mod FullPageLemmas
pub mod SplitLemmas
pub mod HomeLemmas
pub mod TurnLemmas
pub mod OneMapLemmas
pub mod InWardLemmas
pub mod Saved
pub mod Placing
pub mod Draft
pub mod LeftLemmas
pub mod Reopened
pub mod OpenFault
pub mod SaveFault
pub mod DraftFault
pub mod FileLimits
