-- The roles that were looked at have a place, with all inputs that are given for them.
use Rattle.std.proofs.Common.{take}
use Rattle.global_follower.proofs.StoreLemmas.{OpenedSoFar}
use Rattle.global_follower.specs.StoreMaps.{places_in}
use Rattle.global_follower.proofs.stores.Stores.opening.Given as goal

abbrev pub invariant-loop-pair : goal.invariant-loop-pair
invariant-loop-pair l = OpenedSoFar l.given (take l.pair-index l.given) (places_in l.stores)
