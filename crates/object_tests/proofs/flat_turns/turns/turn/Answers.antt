-- What fits an act that is offered lets the act be done.
use Rattle.std.proofs.Common.{sym, ◌∙◌, subst}
use Rattle.dpoc_process.specs.Handed.{IsEnabled, given_like, handed}
use Rattle.object_tests.proofs.flat_turns.turns.turn.Goals as goal

pub advance-requires-clause-can : goal.advance-requires-clause-can
advance-requires-clause-can g c =
    let s = g.R.Runs.local c.args.state.now in
    let a = c.args.act.now in
    let h = handed c.in-Ok.got in
    subst (λ t. IsEnabled t a h) (sym c.prepare.ensures.same)
    (c.offers_are_steps.ensures.exactly s.role s.store s.process a (given_like h) c.in-Ok.ensures
    ∙ c.in_ok-prepared.ensures.shown.can_act)
