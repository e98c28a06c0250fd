pub mod AliveLemmas
mod Examples
pub mod BodyLemmas
pub mod MayRunLemmas
pub mod NameText
pub mod PartLemmas
pub mod TestLemmas
