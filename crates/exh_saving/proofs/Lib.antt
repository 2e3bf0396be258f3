-- for a fault that is handed on
pub mod Handed
-- for a save that wrote no file
pub mod NoFile
-- for a save's answer
pub mod Moments
-- for what takes a file's name away
pub mod Stages
-- for the folder of a path
pub mod Slashes
