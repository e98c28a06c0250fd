-- The kinds so far and those that are left are all.
use Rattle.std.proofs.Common.{◌≡◌, ◌-◌, ◌++◌}
use Rattle.load_gen.specs.Draws.{kinds}
use Rattle.load_gen.proofs.draws.draw_kinds.Given as goal

abbrev pub invariant-loop-block : goal.invariant-loop-block
invariant-loop-block l = l.kinds.items ++ kinds (l.size - l._block) l.number ≡ kinds l.size l.seed
