use Rattle.std.proofs.Common.{◌≡◌, ◌++◌, take, flat_map}
use Rattle.bundle_text.specs.Pieces.{bound_text}
use Rattle.bundle_text.proofs.writer.write_each_bound.Given as goal

abbrev pub invariant-loop-bound : goal.invariant-loop-bound
invariant-loop-bound l = l.out.items ≡ l.fn.out.items ++ flat_map bound_text (take l.bound-index l.env)
