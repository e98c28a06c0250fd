use Rattle.dioc_syntax.proofs.HeadSorts.{leader_sort, leader_is, led_within}
use Rattle.dioc_syntax.proofs.heads.leader_at.Goals as goal

pub role_at-requires : goal.role_at-requires
role_at-requires c = leader_sort c.args.text.now c.args.at (c.begins.ensures.0 cc)

pub returns : goal.returns
returns c =
    let head = leader_is c.args.text.now c.args.at c.in_ok-leader.leader.0 (c.begins.ensures.0 cc) c.in_ok-leader.ensures.value in
    (head, led_within c.args.text.now c.args.at c.in_ok-leader.leader.0 head)
