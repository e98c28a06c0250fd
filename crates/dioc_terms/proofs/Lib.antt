pub mod RoleLemmas
pub mod TermLemmas
pub mod ValueLemmas
pub mod RuleLemmas
