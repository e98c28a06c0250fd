pub mod LeaderLemmas
pub mod PlanLemmas
