-- The changes so far are the old ones and those of the script so far.
use Rattle.std.proofs.Common.{◌≡◌, ◌++◌, map, take}
use Rattle.dioc_terms.specs.Plain.{plain_rule}
use Rattle.net_core.specs.KeptParts.{due_seen}
use Rattle.net_core.specs.Standing.{due_of}
use Rattle.net_core.proofs.starting.add_changes.Given as goal

abbrev pub invariant-loop-timed : goal.invariant-loop-timed
invariant-loop-timed l =
    map due_seen l.kept.items ≡ map due_seen l.initial.kept.items ++ map (due_of (map plain_rule l.rules)) (take l.timed-index l.script)
