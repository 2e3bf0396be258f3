pub mod CallsLemmas
pub mod CommitLemmas
pub mod FaultLemmas
pub mod NewLemmas
pub mod SizeLemmas
pub mod StoreLemmas
-- lemmas: of calls behind others, and of maps that they make
pub mod NoteLemmas
pub mod PendingStoreLemmas
