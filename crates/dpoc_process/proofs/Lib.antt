pub mod ActingLemmas
pub mod LeafLemmas
pub mod Sizes
pub mod Splits
pub mod StateLemmas
