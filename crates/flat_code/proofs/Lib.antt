pub mod LayoutLemmas
pub mod LevelLemmas
pub mod HangLemmas
pub mod PlaceLemmas
pub mod PartLemmas
pub mod WayLemmas
pub mod RoleLemmas
