-- The items so far stand up to the next place.
use Rattle.std.proofs.Common.{map, length, ◌-◌}
use Rattle.dioc_terms.specs.Plain.{plain_rule}
use Rattle.rule_syntax.specs.Grammar.{IsRule}
use Rattle.bundle_text.specs.Grammar.{inside_limit}
use Rattle.bundle_text.proofs.Repeated.{SoFar}
use Rattle.bundle_text.proofs.items.rules_at.Given as goal

abbrev pub invariant-loop-alloc : goal.invariant-loop-alloc
invariant-loop-alloc l = SoFar (IsRule l.version inside_limit) l.text l.at (map plain_rule l.fn.rules.items) (map plain_rule l.rules.items) l.next

abbrev pub decreases-loop-alloc : goal.decreases-loop-alloc
decreases-loop-alloc l = length l.text - l.next
