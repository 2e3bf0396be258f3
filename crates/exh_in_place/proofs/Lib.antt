pub mod FreshFiles
pub mod MemoryLemmas
pub mod RefusalLemmas
