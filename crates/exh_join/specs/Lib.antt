pub mod JoinLaws
pub mod LawsLemmas
pub mod Greater
pub mod GreaterLemmas
pub mod Greatest
pub mod Joined
pub mod Pair
pub mod Replicas
