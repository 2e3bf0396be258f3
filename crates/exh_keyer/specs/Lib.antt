pub mod Pseudokey
pub mod PseudokeyFits
