use Rattle.std.proofs.Common.{◌+◌, subst, arith}
use Rattle.dioc_syntax.specs.Readers.{PairsAt}
use Rattle.dioc_syntax.proofs.Lists.{properties_inside, properties_absent, properties_closed, properties_unread, properties_unclosed, properties_found}
use Rattle.dioc_syntax.proofs.extras.properties_at.Goals as goal

pub returns-then-not-begins : goal.returns-then-not-begins
returns-then-not-begins c =
    properties_absent c.args.text.now c.args.at c.none_at.result (λ is. let found = c.begins.ensures.1 is in let missed = c.if-not-begins.true in cc) c.requires.within c.none_at.ensures.none c.none_at.ensures.at

pub returns-then-has : goal.returns-then-has
returns-then-has c =
    properties_closed c.args.text.now c.args.at c.none_at-then-has.result (c.begins.ensures.0 cc) (c.has.ensures.value.0 c.if-has.true) c.none_at-then-has.ensures.none c.none_at-then-has.ensures.at

pub pairs_at-requires : goal.pairs_at-requires
pairs_at-requires c = let inside = properties_inside c.args.text.now c.args.at (c.begins.ensures.0 cc) in let small = c.requires.small in omega arith

pub returns-in-Some : goal.returns-in-Some
returns-in-Some c =
    properties_found c.args.text.now c.args.at (c.in-Some.props, c.in-Some.next) (c.begins.ensures.0 cc) (subst (PairsAt c.args.text.now (c.args.at + 2)) c.in-Some.is c.in_ok-next.ensures) (c.if-has-2.ensures.value.0 cc)

pub returns-in-Some-2 : goal.returns-in-Some-2
returns-in-Some-2 c =
    properties_unclosed c.args.text.now c.args.at c.none_at-in-Some-2.result (c.in-Some.props, c.in-Some.next) (c.begins.ensures.0 cc) (subst (PairsAt c.args.text.now (c.args.at + 2)) c.in-Some.is c.in_ok-next.ensures)
    (λ is. let found = c.if-has-2.ensures.value.1 is in cc) c.requires.within c.none_at-in-Some-2.ensures.none c.none_at-in-Some-2.ensures.at

pub returns-in-None : goal.returns-in-None
returns-in-None c =
    properties_unread c.args.text.now c.args.at c.none_at-in-None.result (c.begins.ensures.0 cc) (λ is. let found = c.has.ensures.value.1 is in let missed = c.if-has.false in cc)
    (subst (PairsAt c.args.text.now (c.args.at + 2)) c.in-None.is c.in_ok-next.ensures) c.requires.within c.none_at-in-None.ensures.none c.none_at-in-None.ensures.at
