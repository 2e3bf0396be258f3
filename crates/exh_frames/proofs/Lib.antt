pub mod Lookups
pub mod Followed
pub mod Kept
-- of what is found, put, removed, split and united in place
pub mod Edited
pub mod Cells
pub mod Places
pub mod Keyed
pub mod Contents
pub mod Changed
pub mod Laid
pub mod InRuns
