-- The numbers of the changes so far are added.
use Rattle.std.proofs.Common.{◌≡◌, ◌++◌, take}
use Rattle.dioc_terms.specs.Bundles.{adds}
use Rattle.mend.proofs.rules.add_numbers.Given as goal

abbrev pub invariant-loop-timed : goal.invariant-loop-timed
invariant-loop-timed l = l.numbers.items ≡ l.fn.numbers.items ++ adds (take l.timed-index l.script)
