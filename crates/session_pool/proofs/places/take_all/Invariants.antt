-- What was taken so far is what stands at the places so far; no further place is empty.
use Rattle.std.proofs.Common.{◌≡◌, Some, map, true}
use Rattle.std.specs.List.{AllByRecursion}
use Rattle.std.specs.Option.{is_some}
use Rattle.session_pool.proofs.places.take_all.Given as goal

abbrev pub invariant-loop-place : goal.invariant-loop-place
invariant-loop-place g l = (map Some l.made.items ≡ l.yielded) × AllByRecursion (λ place. is_some place ≡ true) l.place-iterator.rest.items
