use Rattle.std.proofs.Common.{rules, w32}
use Rattle.std.proofs.lemmas.Int.{to_z-of_z}
use mir.Val.{SFits}
use Rattle.rule_syntax.proofs.Fronts.{head_missing, head_within, head_unranked, head_unopened, head_found}
use Rattle.rule_syntax.proofs.rules.head_at.Goals as goal

pub priority_at-requires-clause-within : goal.priority_at-requires-clause-within
priority_at-requires-clause-within c = head_within c.args.text.now c.args.at c.args.version (c.begins.ensures.0 cc)

pub returns-in-None : goal.returns-in-None
returns-in-None c = head_unranked c.args.text.now c.args.at c.args.version (c.begins.ensures.0 cc) c.in-None.ensures

pub returns-then-not-begins-2 : goal.returns-then-not-begins-2
returns-then-not-begins-2 c =
    head_unopened c.args.text.now c.args.at c.args.version (c.begins.ensures.0 cc) c.in-Some.ensures (λ is. let found = c.begins-2.ensures.1 is in let missed = c.if-not-begins-2.true in cc)

pub returns : goal.returns
returns c =
    let fits : SFits w32 c.in-Some.read.0 = search rules in
    rw (to_z-of_z w32 c.in-Some.read.0 fits) (head_found c.args.text.now c.args.at c.args.version (c.begins.ensures.0 cc) c.in-Some.ensures (c.begins-2.ensures.0 cc))
