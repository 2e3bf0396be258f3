-- the lines that come from a reader, what is done of each, and of all, and why an import ends
pub mod LineReader
pub mod Counting
pub mod Imports
pub mod Pairs
pub mod Causes
pub mod Header
