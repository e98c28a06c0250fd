use Rattle.dioc_syntax.proofs.HeadSorts.{target_is, set_within}
use Rattle.dioc_syntax.proofs.heads.target_at.Goals as goal

pub name_at-requires-2 : goal.name_at-requires-2
name_at-requires-2 c = (target_is c.args.text.now c.args.at (c.begins.ensures.0 cc)).owner

pub returns : goal.returns
returns c =
    let head = (target_is c.args.text.now c.args.at (c.begins.ensures.0 cc)).head c.in_ok-variable.variable c.in_ok-owner.owner c.in_ok-variable.ensures.value c.in_ok-owner.ensures.value in
    (head, set_within c.args.text.now c.args.at c.in_ok-variable.variable c.in_ok-owner.owner head)
