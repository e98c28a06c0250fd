-- So many are there, and there is room for the others.
use Rattle.std.proofs.Common.{◌≡◌, replicate}
use Rattle.flat_role.specs.declared.marks.Mark.TheVariants as kept
use Rattle.flat_role.proofs.progress.untouched.Given as goal

abbrev pub invariant-loop : goal.invariant-loop
invariant-loop l = l.marks.items ≡ replicate l.counter kept.Untouched
