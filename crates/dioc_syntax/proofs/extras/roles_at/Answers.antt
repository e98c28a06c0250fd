use Rattle.std.proofs.Common.{◌+◌, subst}
use Rattle.dioc_syntax.specs.Readers.{NamesAt}
use Rattle.dioc_syntax.proofs.Lists.{roles_of_version, roles_unnamed, roles_unopened, roles_unread, roles_unclosed, roles_found}
use Rattle.dioc_syntax.proofs.extras.roles_at.Goals as goal
use Rattle.dioc_syntax.proofs.extras.roles_at.Goals.{then-version-ne2-via-then-version-ne2, then-version-ne2-via-else-version-ne2+then-not-named}

pub returns-then-version-ne2 : goal.returns-then-version-ne2
returns-then-version-ne2 c = elim c.then-version-ne2.branch [
  | then-version-ne2-via-then-version-ne2 w ↦ roles_of_version c.args.version c.args.text.now c.args.at c.none_at.result w.if-version-ne2.true c.requires.within c.none_at.ensures.none c.none_at.ensures.at
  | then-version-ne2-via-else-version-ne2+then-not-named w ↦
      roles_unnamed c.args.version c.args.text.now c.args.at c.none_at.result (λ is. let found = w.named.ensures.1 is in let missed = w.if-not-named.true in cc) c.requires.within c.none_at.ensures.none c.none_at.ensures.at
]

pub returns-then-not-has : goal.returns-then-not-has
returns-then-not-has c =
    roles_unopened c.args.version c.args.text.now c.args.at c.none_at-then-not-has.result (λ is. let found = c.has.ensures.value.1 is in let missed = c.if-not-has.true in cc) c.requires.within
    c.none_at-then-not-has.ensures.none c.none_at-then-not-has.ensures.at

pub returns-in-Some : goal.returns-in-Some
returns-in-Some c =
    roles_found c.args.version c.args.text.now c.args.at (c.in-Some.roles, c.in-Some.next) c.if-version-ne2.false (c.named.ensures.0 cc) (c.has.ensures.value.0 cc)
    (subst (NamesAt c.args.text.now (c.args.at + 2)) c.in-Some.is c.in_ok-next.ensures) (c.if-has.ensures.value.0 cc)

pub returns-in-Some-2 : goal.returns-in-Some-2
returns-in-Some-2 c =
    roles_unclosed c.args.version c.args.text.now c.args.at c.none_at-in-Some-2.result (c.in-Some.roles, c.in-Some.next) (c.named.ensures.0 cc) (c.has.ensures.value.0 cc)
    (subst (NamesAt c.args.text.now (c.args.at + 2)) c.in-Some.is c.in_ok-next.ensures) (λ is. let found = c.if-has.ensures.value.1 is in cc) c.requires.within
    c.none_at-in-Some-2.ensures.none c.none_at-in-Some-2.ensures.at

pub returns-in-None : goal.returns-in-None
returns-in-None c =
    roles_unread c.args.version c.args.text.now c.args.at c.none_at-in-None.result (c.named.ensures.0 cc) (c.has.ensures.value.0 cc) (subst (NamesAt c.args.text.now (c.args.at + 2)) c.in-None.is c.in_ok-next.ensures) c.requires.within
    c.none_at-in-None.ensures.none c.none_at-in-None.ensures.at
