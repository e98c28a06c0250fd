use Rattle.dioc_syntax.proofs.HeadSorts.{sender_is, sent_within}
use Rattle.dioc_syntax.proofs.heads.sender_at.Goals as goal

pub name_at-requires-2 : goal.name_at-requires-2
name_at-requires-2 c = (sender_is c.args.text.now c.args.at (c.begins.ensures.0 cc)).sender

pub returns : goal.returns
returns c =
    let head = (sender_is c.args.text.now c.args.at (c.begins.ensures.0 cc)).head c.in_ok-operation.operation c.in_ok-sender.sender c.in_ok-operation.ensures.value c.in_ok-sender.ensures.value in
    (head, sent_within c.args.text.now c.args.at c.in_ok-operation.operation c.in_ok-sender.sender head)
