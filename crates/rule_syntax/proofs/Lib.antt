pub mod Unique
pub mod Fronts
pub mod Spells
pub mod RoundTrip
pub mod Formed
pub mod Shorter
