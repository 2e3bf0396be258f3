pub mod PointerLemmas
pub mod Pointers
pub mod Within
pub mod Sent
pub mod KnownCopy
pub mod Held
pub mod Copies
pub mod KeptCopies
