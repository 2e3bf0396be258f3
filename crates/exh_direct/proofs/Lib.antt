pub mod Tables
pub mod Searches
pub mod Told
pub mod Ways
pub mod ReadOnce
pub mod FileBlocks
pub mod InFile
