pub mod AdditionLemmas
pub mod Additions
pub mod CopyLaws
pub mod Rule
