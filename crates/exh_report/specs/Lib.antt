pub use Rattle.exh_versions.specs.LegalBytes
pub use Rattle.exh_versions.specs.VersionLaws
pub use Rattle.exh_versions.specs.VersionLemmas
-- what an audit answers
pub use Rattle.exh_calls.specs.History
pub mod ReportLines
pub mod Counts
pub mod Check
pub mod PairsText
pub mod Dump
pub mod Finding
pub mod Report
