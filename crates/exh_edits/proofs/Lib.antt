-- of edited_blocks_stand
pub mod EditedBlocks
-- of edits one after the other
pub mod EditLists
-- of put_block and block_in
pub mod EditsInTurn
-- of files by their blocks
pub mod Parts
pub mod MadeBlocks
pub mod BlockLengths
pub mod FileBlocks
pub mod Standing
-- of edits of files
pub mod FileEdits
-- of blocks that are compared
pub mod Compared
pub mod Counts
pub mod BlockLemmas
pub mod Few
pub mod PlacedBlocks
pub mod WardNumbers
pub mod LegalWards
pub mod PlacedWalks
pub mod InPlaced
pub mod AnyVersion
