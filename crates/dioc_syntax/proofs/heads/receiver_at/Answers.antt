use Rattle.dioc_syntax.proofs.HeadSorts.{receiver_is, received_within}
use Rattle.dioc_syntax.proofs.heads.receiver_at.Goals as goal

pub name_at-requires : goal.name_at-requires
name_at-requires c = (receiver_is c.args.text.now c.args.at (c.begins.ensures.0 cc)).receiver

pub name_at-requires-2 : goal.name_at-requires-2
name_at-requires-2 c = (receiver_is c.args.text.now c.args.at (c.begins.ensures.0 cc)).variable

pub returns : goal.returns
returns c =
    let head = (receiver_is c.args.text.now c.args.at (c.begins.ensures.0 cc)).head c.in_ok-receiver.receiver c.in_ok-variable.variable c.in_ok-receiver.ensures.value c.in_ok-variable.ensures.value in
    (head, received_within c.args.text.now c.args.at c.in_ok-receiver.receiver c.in_ok-variable.variable head)
