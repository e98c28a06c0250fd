use Rattle.std.proofs.Common.{rules, w32}
use mir.Val.{SFits}
use Rattle.rule_syntax.proofs.Fronts.{rank_unwritten, rank_positive, rank_negative, positive_missing, negative_missing}
use Rattle.rule_syntax.proofs.priorities.priority_at.Goals as goal
use Rattle.rule_syntax.proofs.priorities.priority_at.Goals.{then-version-ne2-via-then-version-ne2, then-version-ne2-via-else-version-ne2+then-not-named}

pub returns-then-version-ne2 : goal.returns-then-version-ne2
returns-then-version-ne2 c = elim c.then-version-ne2.branch [
  | then-version-ne2-via-then-version-ne2 w ↦ rank_unwritten c.args.text.now c.args.at c.args.version c.requires.within (λ two named. w.if-version-ne2.true two)
  | then-version-ne2-via-else-version-ne2+then-not-named w ↦
      rank_unwritten c.args.text.now c.args.at c.args.version c.requires.within (λ two named. let found = w.named.ensures.1 named in let missed = w.if-not-named.true in cc)
]

pub returns-in-Some : goal.returns-in-Some
returns-in-Some c =
    let fits : SFits w32 c.negative.result = search rules in
    rank_negative c.args.text.now c.args.at c.args.version c.if-version-ne2.false (c.named.ensures.0 cc) c.in-Some.number c.negative.result c.negative.ensures fits (c.has.ensures.value.0 c.if-has.true) c.in-Some.ensures

pub returns-in-None : goal.returns-in-None
returns-in-None c = negative_missing c.args.text.now c.args.at c.args.version c.if-version-ne2.false (c.named.ensures.0 cc) (c.has.ensures.value.0 c.if-has.true) c.in-None.ensures

pub returns-in-Some-number_at : goal.returns-in-Some-number_at
returns-in-Some-number_at c =
    rank_positive c.args.text.now c.args.at c.args.version c.if-version-ne2.false (c.named.ensures.0 cc) c.in-Some-number_at.number c.in-Some-number_at.ensures

pub returns-in-None-number_at : goal.returns-in-None-number_at
returns-in-None-number_at c =
    positive_missing c.args.text.now c.args.at c.args.version c.if-version-ne2.false (c.named.ensures.0 cc) (λ is. let found = c.has.ensures.value.1 is in let missed = c.if-has.false in cc)
    c.in-None-number_at.ensures
