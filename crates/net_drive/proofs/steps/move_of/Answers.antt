-- The move is that of the act that the entry shows.
use Rattle.std.proofs.Common.{◌≡◌, IfOk, sym, ap, ◌∙◌, subst}
use Rattle.dioc_terms.specs.declared.entries.Act.TheVariants as acts
use Rattle.network_steps.specs.declared.moves.Move.TheVariants as move
use Rattle.net_drive.specs.Making.{shown_move}
use Rattle.net_drive.proofs.steps.move_of.Goals as goal

pub returns-in_ok-copy-in-Take : goal.returns-in_ok-copy-in-Take
returns-in_ok-copy-in-Take c =
    let key = c.in-Take.key in
    subst (λ m. IfOk c.move_by-in-Take.result (λ next. next ≡ m))
    (ap (λ k. move.Act key.to (acts.Take k)) c.in_ok-copy-in-Take.ensures ∙ ap shown_move (sym c.in-Take.is)) c.move_by-in-Take.ensures
