-- The leader went on as the book says.
use Rattle.process_steps.specs.Steps.{FromBook}
use Rattle.net_core.proofs.ScopeLemmas.{kept_brings}
use Rattle.net_core.proofs.scopes.keep_scope.Goals as goal

pub returns-clause-steps : goal.returns-clause-steps
returns-clause-steps g c = λ decide keeps.
    let led = c.requires.led in
    c.advance.ensures.steps (FromBook decide)
    (kept_brings (g.R.Runs.local c.args.state.now) c.args.act.now led.0 c.args.head decide led.1 led.2 keeps)
