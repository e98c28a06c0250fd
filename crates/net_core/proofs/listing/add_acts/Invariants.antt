-- The moves so far are those of the acts so far.
use Rattle.std.proofs.Common.{◌≡◌, ◌++◌}
use Rattle.std.specs.Prelude.{map}
use Rattle.network_steps.specs.declared.moves.Move.TheVariants as move
use Rattle.net_core.proofs.listing.add_acts.Given as goal

abbrev pub invariant-loop-act : goal.invariant-loop-act
invariant-loop-act g l = l.moves.items ≡ l.initial.moves.items ++ map (move.Act l.role) l.yielded
