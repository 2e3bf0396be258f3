-- of the lines of a reader, of a text, and of what ends an import
pub mod Texts
pub mod Puts
pub mod Ends
-- of what stands before the pairs
pub mod Marks
pub mod Heads
