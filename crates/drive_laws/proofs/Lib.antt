-- Nothing is lost, in the order of the proof.

-- roles that have no auxiliary act left, and how far they have come then
pub mod Quiet
pub mod Arrivals
pub mod Seals
-- which part plays an entry, and that it can be done
pub mod PlayedParts
pub mod Ready
-- that auxiliary messages come to an end
pub mod Lessens
-- for networks
pub mod Lost
