-- The rules so far are in the order of their adding, and each is kept as it is.
use Rattle.std.proofs.Common.{◌≡◌, map}
use Rattle.dioc_terms.specs.Plain.{plain_rule}
use Rattle.dioc_terms.specs.Rules.{opening_order}
use Rattle.rule_book.specs.Kept.{order_of, AreKept}
use Rattle.rule_book.proofs.keeping.keep_opening.Given as goal

abbrev pub invariant-loop-number : goal.invariant-loop-number
invariant-loop-number l = record {
  order : order_of l.kept.entries ≡ opening_order (map plain_rule l.rules) l.number;
  kept : AreKept (map plain_rule l.rules) l.kept.entries;
}
