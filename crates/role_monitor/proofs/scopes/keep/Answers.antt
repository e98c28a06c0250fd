-- The leader went on as the book says.
use Rattle.process_steps.specs.Steps.{FromBook}
use Rattle.net_core.proofs.ScopeLemmas.{kept_brings}
use Rattle.role_monitor.proofs.Begins.{any_true}
use Rattle.role_monitor.proofs.scopes.keep.Goals as goal

pub returns-then-kept-clause-steps : goal.returns-then-kept-clause-steps
returns-then-kept-clause-steps g c =
    let led = c.requires.led in
    any_true c.is_keep-kept.result (λ decide keeps. c.advance.ensures.steps (FromBook decide)
    (kept_brings (g.R.Runs.local c.args.state.now) c.args.act.now led.0 c.args.head.now decide led.1 led.2 keeps))
