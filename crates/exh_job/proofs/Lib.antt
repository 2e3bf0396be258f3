pub mod LoadLemmas
pub mod LastLineLemmas
pub mod FileRunLemmas
-- of what a load makes of pairs
pub mod PairsFit
pub mod PairsHomes
pub mod PairsText
pub mod PairsBytes
pub mod PairsAgain
