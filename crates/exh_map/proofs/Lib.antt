-- lemmas: of pairs; of a ward that takes the place of another; of a call by the ward of its key; of answers; of wards left
pub mod PairsLemmas
pub mod SetLemmas
pub mod CallLemmas
pub mod AnswerLemmas
pub mod LeftLemmas
pub mod AgainLemmas
pub mod WholeMap
pub mod OnceLemmas
-- blocks that are copied one after the other
pub mod CopyLemmas
-- low bounds of pages in their places
pub mod PlaceLemmas
