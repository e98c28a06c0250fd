-- The names so far are those of the rules so far.
use Rattle.std.proofs.Common.{◌≡◌, map}
use Rattle.dioc_terms.specs.Plain.{plain_rule}
use Rattle.rule_checks.specs.Alive.{first_names}
use Rattle.rule_checks.proofs.bounds.opening_names.Given as goal

abbrev pub invariant-loop-number : goal.invariant-loop-number
invariant-loop-number l = l.names.keys ≡ first_names (map plain_rule l.rules) l.number
