use Rattle.std.proofs.Common.{◌+◌, arith, subst}
use Rattle.expr_syntax.specs.Constants.{ConstantAt}
use Rattle.dioc_syntax.proofs.HeadSorts.{pair_is}
use Rattle.dioc_syntax.proofs.ScopeFronts.{given_missing, given_valueless}
use Rattle.dioc_syntax.proofs.extras.pair_at.Goals as goal

pub returns-then-not-begins : goal.returns-then-not-begins
returns-then-not-begins c = given_missing (λ is. let found = c.begins.ensures.1 is in let missed = c.if-not-begins.true in cc)

pub name_at-requires : goal.name_at-requires
name_at-requires c = (pair_is c.args.text.now c.args.at (c.begins.ensures.0 cc)).key

pub returns-in-Some : goal.returns-in-Some
returns-in-Some c =
    let found = subst (ConstantAt c.args.text.now (c.args.at + 4)) c.in-Some.is c.in_ok-value.ensures in
    let after = found.1.0 in
    record { head = (pair_is c.args.text.now c.args.at (c.begins.ensures.0 cc)).head c.in_ok-key.key c.in_ok-key.ensures.value; value = found.0; after = omega arith; within = found.1.1 }

pub returns-in-None : goal.returns-in-None
returns-in-None c =
    given_valueless ((pair_is c.args.text.now c.args.at (c.begins.ensures.0 cc)).head c.in_ok-key.key c.in_ok-key.ensures.value) (subst (ConstantAt c.args.text.now (c.args.at + 4)) c.in-None.is c.in_ok-value.ensures).0
