-- The numbers so far.
use Rattle.std.proofs.Common.{◌≡◌}
use Rattle.dioc_terms.specs.Bundles.{numbers_from}
use Rattle.mend.proofs.rules.first_numbers.Given as goal

abbrev pub invariant-loop-number : goal.invariant-loop-number
invariant-loop-number l = l.numbers.items ≡ numbers_from 0 l.number
