pub mod Causes
pub mod KeysBefore
pub mod Paths
pub mod Places
pub mod Lines
pub mod Repeats
