pub mod ApplyLemmas
pub mod ChoiceLemmas
pub mod OrderLemmas
