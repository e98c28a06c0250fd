use Rattle.std.specs.Option.{option_map}
use Rattle.std.proofs.Common.{◌+◌, sym, subst}
use Rattle.rule_syntax.specs.Grammar.{IsChange}
use Rattle.rule_syntax.specs.Readers.{StandsAt, ChangeAt, change_seen}
use Rattle.bundle_text.specs.Grammar.{inside_limit}
use Rattle.bundle_text.specs.Readers.{plain_kept}
use Rattle.bundle_text.proofs.Found.{untimed, unnumbered, unchanged, timed_found}
use Rattle.bundle_text.proofs.items.timed_at.Goals as goal

pub returns-then-not-named : goal.returns-then-not-named
returns-then-not-named c = untimed c.args.text.now c.args.at c.args.version (λ is. let found = c.named.ensures.1 is in let missed = c.if-not-named.true in cc)

pub returns-in-None : goal.returns-in-None
returns-in-None c = unnumbered c.args.text.now c.args.at c.args.version (c.named.ensures.0 cc) c.in-None.ensures

pub returns-in_ok-change-in-Some-2 : goal.returns-in_ok-change-in-Some-2
returns-in_ok-change-in-Some-2 c =
    timed_found c.args.text.now c.args.at c.args.version (c.named.ensures.0 cc) c.in-Some.after (plain_kept c.in_ok-change-in-Some-2.change) c.in-Some-2.next c.in-Some.ensures
    (subst (λ change. StandsAt (IsChange c.args.version inside_limit) c.args.text.now (c.args.at + 2) change c.in-Some-2.next) (sym c.in_ok-change-in-Some-2.ensures)
    (subst (λ found. ChangeAt c.args.version inside_limit c.args.text.now (c.args.at + 2) (option_map change_seen found)) c.in-Some-2.is c.in_ok-read.ensures))

pub returns-in-None-2 : goal.returns-in-None-2
returns-in-None-2 c =
    unchanged c.args.text.now c.args.at c.args.version (c.named.ensures.0 cc) (subst (λ found. ChangeAt c.args.version inside_limit c.args.text.now (c.args.at + 2) (option_map change_seen found)) c.in-None-2.is c.in_ok-read.ensures)
