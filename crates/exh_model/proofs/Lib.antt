-- of the map machine's pairs
pub mod PairLemmas
pub mod Beginnings
-- of the sets of leaves, and of the greatest entries
pub mod LeafLemmas
pub mod GreatestEntries
