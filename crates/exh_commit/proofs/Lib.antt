pub mod AloneLemmas
pub mod ChangeLemmas
pub mod EditLemmas
pub mod ImageLemmas
pub mod KnownLemmas
pub mod LineLemmas
pub mod LookLemmas
pub mod PageLemmas
