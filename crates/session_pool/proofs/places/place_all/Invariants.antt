-- What is left to place makes of the places so far what all make of those at the start.
use Rattle.std.proofs.Common.{◌≡◌, ◌<◌, length}
use Rattle.std.specs.List.{AllByRecursion}
use Rattle.session_pool.specs.Places.{placed}
use Rattle.session_pool.proofs.places.place_all.Given as goal

abbrev pub invariant-loop-numbered : goal.invariant-loop-numbered
invariant-loop-numbered g l =
    (placed l.places.items l.numbered-iterator.rest.items ≡ placed l.initial.places.items l.fn.made.items)
    × AllByRecursion (λ numbered. numbered.number < length l.places.items) l.numbered-iterator.rest.items
