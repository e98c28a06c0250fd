use Rattle.std.proofs.Common.{◌∙◌}
use Rattle.expr_syntax.proofs.LeafFacts.{other_default}
use Rattle.expr_syntax.proofs.leaves.leaf_at.Goals as goal

pub returns-in_default : goal.returns-in_default
returns-in_default c =
    other_default c.args.reader.now.kind c.args.reader.now.text.now c.args.at c.constant_leaf_at-in_default.result (λ is. c.in_default.not-Name (c.sort.ensures.value ∙ is)) (λ word is. c.in_default.not-Reserved word (c.sort.ensures.value ∙ is)) c.constant_leaf_at-in_default.ensures
