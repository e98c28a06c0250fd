-- The seat stays one of this lock, with its number and its count of seats.
use Rattle.std.proofs.Common.{◌≡◌}
use Rattle.turn_lock.specs.Views.{number}
use Rattle.turn_lock.specs.Words.{view, IsSeatOf}
use Rattle.object_tests.proofs.lock.take_turns.Given as goal

abbrev pub invariant-loop : goal.invariant-loop
invariant-loop g l = IsSeatOf l.turns l.seat × (number (view l.seat) ≡ l.own) × ((view l.seat).made ≡ (view l.fn.seat).made)
