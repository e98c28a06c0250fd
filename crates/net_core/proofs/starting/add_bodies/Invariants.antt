-- The bodies so far are the old ones and those of the rules so far.
use Rattle.std.proofs.Common.{◌≡◌, ◌++◌, map, take}
use Rattle.dioc_terms.specs.Plain.{plain_rule}
use Rattle.net_core.specs.KeptParts.{body_seen}
use Rattle.net_core.specs.Standing.{body_of}
use Rattle.net_core.proofs.starting.add_bodies.Given as goal

abbrev pub invariant-loop-rule : goal.invariant-loop-rule
invariant-loop-rule l =
    map body_seen l.kept.items ≡ map body_seen l.initial.kept.items ++ map (λ rule. body_of (plain_rule rule)) (take l.rule-index l.rules)
