pub mod Arguments
pub mod Options
pub mod Request
-- commands and options, the words behind a command, and what is wrong with them
pub mod Causes
pub mod Commands
pub mod Line
pub mod Uses
