use Rattle.std.proofs.Common.{◌≢◌, ◌<◌, ℕ, length, IfSome, slice_get}
use Rattle.turn_lock.specs.Words.{view}
use Rattle.turn_lock.proofs.turns.Turns.first_place.Given as goal

-- none of the seats so far made as many
abbrev pub invariant-loop-place : goal.invariant-loop-place
invariant-loop-place g l = (i : ℕ) → i < l.place → IfSome (slice_get l.seats i) (λ s. (view s).made ≢ length l.seats)
