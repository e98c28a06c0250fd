pub mod Lemmas
pub mod SummaryLemmas
