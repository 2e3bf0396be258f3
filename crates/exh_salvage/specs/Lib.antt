pub mod Blocks
pub mod Repeats
pub mod SavedBlock
pub mod Salvage
pub mod SavedLaws
pub mod WholeLaws
