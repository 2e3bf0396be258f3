pub mod Lines
pub mod Told
-- a text has one list of lines
pub mod LineEnds
pub mod TextLines
-- the lines of an export, and the pairs that are put of them
pub mod Ends
pub mod Exported
-- an import of them
pub mod Amid
pub mod Counts
pub mod Filled
pub mod StoreMaps
pub mod MachineMaps
-- a salvage of a legal file
mod SavedBlocks
mod NoPages
mod PlacedBlocks
mod EntryNumbers
mod PlainBlocks
mod KeyClasses
mod WardKeys
mod SavedMaps
