pub mod ScriptRun
pub mod StormRun
pub mod Telling
