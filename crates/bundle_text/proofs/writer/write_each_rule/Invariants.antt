use Rattle.std.proofs.Common.{◌≡◌, ◌++◌, map, take, flat_map}
use Rattle.dioc_terms.specs.Plain.{plain_rule}
use Rattle.bundle_text.specs.Pieces.{rule_text}
use Rattle.bundle_text.proofs.writer.write_each_rule.Given as goal

abbrev pub invariant-loop-rule : goal.invariant-loop-rule
invariant-loop-rule l = l.out.items ≡ l.fn.out.items ++ flat_map rule_text (map plain_rule (take l.rule-index l.rules))
