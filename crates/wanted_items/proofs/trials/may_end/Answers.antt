use Rattle.std.proofs.Common.{take, subst, ◌∙◌}
use Rattle.aioc_tokens.specs.Lexemes.{lexemes}
use Rattle.wanted_items.specs.Walks.{IsWalk, reading_of}
use Rattle.wanted_items.proofs.Walking.{ends_by_walk, ends_nowhere}
use Rattle.wanted_items.proofs.trials.may_end.Goals as goal

pub returns-in-Some : goal.returns-in-Some
returns-in-Some c =
    let front = take c.args.at (lexemes c.args.bytes.now c.args.known.now) in
    c.is_over.ensures ∙ ends_by_walk front (reading_of c.in-Some.walk) (subst (IsWalk front) c.in-Some.is c.in_ok-walk.ensures)

pub returns-in-None : goal.returns-in-None
returns-in-None c =
    let front = take c.args.at (lexemes c.args.bytes.now c.args.known.now) in
    ends_nowhere front (subst (IsWalk front) c.in-None.is c.in_ok-walk.ensures)
