-- One name more, of the rule that comes next.
use Rattle.std.proofs.Common.{◌∷◌, [], ◌++◌, ◌∙◌, ap, sym, arith}
use Rattle.std.proofs.lemmas.List.{map_more}
use Rattle.dioc_terms.specs.declared.bundles.Rule.{Rule}
use Rattle.stage.proofs.opening.keep_names.Goals as goal

pub loop-rule-preserved : goal.loop-rule-preserved
loop-rule-preserved c =
    let name = c.in_ok-copy.ensures ∙ ap (λ (rule : Rule). rule.name) c.rule-item.is in
    record {
      names = c.push_reserved.ensures.items ∙ (λ i. c.loop-rule.invariant.names i ++ name i ∷ [])
          ∙ sym (map_more (λ (rule : Rule). rule.name) c.args.rules.now c.loop-rule.rule-index c.rule-item.result (omega arith));
      count = omega (arith, c.push_reserved.ensures.len, c.loop-rule.invariant.count);
      room = omega (arith, c.push_reserved.ensures.capacity, c.loop-rule.invariant.room);
    }
