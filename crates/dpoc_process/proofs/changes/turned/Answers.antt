-- The turn, its end and the loop, each in its box.
use Rattle.std.proofs.Common.{◌≡◌, ap, ◌∙◌}
use Rattle.dioc_terms.specs.Processes.{process}
use Rattle.process_steps.specs.Steps.{after}
use Rattle.dpoc_process.proofs.changes.turned.Goals as goal

pub returns : goal.returns
returns c =
    let turn = c.args.turn in
    let end : process c.closed-2.result.value
    ≡ after (process turn.last.value) (process c.args.part) =
    ap process c.closed-2.ensures ∙ c.then-end.ensures
    ∙ ap (λ p. after (process turn.last.value) (process p)) c.closed.ensures in
    c.within.ensures ∙ ap (λ P. after (process turn.first.value) (after (process turn.body.value) P)) end
