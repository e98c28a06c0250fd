-- One for each number so far.
use Rattle.std.proofs.Common.{◌≡◌, map}
use Rattle.dioc_terms.specs.Bundles.{numbers_from}
use Rattle.dioc_terms.specs.Plain.{plain_rule}
use Rattle.load_gen.specs.Made.{rule}
use Rattle.load_gen.proofs.rules.rules.Given as goal

abbrev pub invariant-loop-j : goal.invariant-loop-j
invariant-loop-j l = map plain_rule l.rules.items ≡ map rule (numbers_from 0 l.j)
