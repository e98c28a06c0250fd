-- The names of now have the most of the rest of the script where those of the start have it of the whole.
use Rattle.std.proofs.Common.{◌≡◌, map, drop}
use Rattle.limits.specs.Limits.{most_rules}
use Rattle.dioc_terms.specs.Plain.{plain_rule}
use Rattle.rule_checks.specs.declared.refusals.Which.TheVariants.{Rules}
use Rattle.rule_checks.specs.Alive.{most_names}
use Rattle.rule_checks.specs.Refusals.{too_many}
use Rattle.rule_checks.proofs.bounds.few_through.Given as goal

abbrev pub invariant-loop-timed : goal.invariant-loop-timed
invariant-loop-timed l =
    too_many Rules most_rules (most_names (map plain_rule l.rules) l.initial.names.keys l.script)
    ≡ too_many Rules most_rules (most_names (map plain_rule l.rules) l.names.keys (drop l.timed-index l.script))
