use Rattle.std.proofs.Common.{◌∙◌, ap, map, sym, subst, add-one}
use Rattle.dioc_terms.specs.Plain.{plain_rule}
use Rattle.dioc_terms.specs.Rules.{added, opening_order}
use Rattle.rule_book.specs.Kept.{order_of, AreKept}
use Rattle.rule_book.proofs.OrderLemmas.{order_of-added, kept-insert_entry}
use Rattle.rule_book.proofs.keeping.keep_opening.Goals as goal

pub loop-number-preserved : goal.loop-number-preserved
loop-number-preserved c =
    let rules = map plain_rule c.args.rules.now in
    let before = c.loop-number.kept.entries in
    let kept = c.loop-number.invariant in
    let rule = c.in_ok-name.ensures in
    record {
      order =
          ap order_of c.in_ok-insert.ensures.entries
          ∙ (order_of-added rules c.in_ok-name.name c.in_ok-name.rule before kept.kept rule.kept
          ∙ ((λ j. added rules (rule.number j) (kept.order j)) ∙ ap (opening_order rules) (sym (add-one c.loop-number.number))));
      kept = subst (AreKept rules) (sym c.in_ok-insert.ensures.entries) (kept-insert_entry rules c.in_ok-name.name c.in_ok-name.rule before kept.kept rule.kept);
    }
