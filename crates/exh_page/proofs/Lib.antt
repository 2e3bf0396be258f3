pub mod Searched
pub mod Begun
pub mod Packed
pub mod PackedEdits
pub mod PackedReads
