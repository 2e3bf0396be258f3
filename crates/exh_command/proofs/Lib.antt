pub mod WordLemmas
pub mod PlaceLemmas
pub mod OptionLemmas
pub mod OptionFlags
pub mod SetFlags
pub mod TheProgram
pub mod ManualWords
pub mod ParserLemmas
