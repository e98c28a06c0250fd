-- The leader went on as the book says, with the parts of the plan.
use Rattle.std.proofs.Common.{◌≡◌, ◌+◌, suc, ap₂, ◌∙◌, add-one, arith}
use Rattle.dioc_terms.specs.Processes.{process, letters}
use Rattle.dioc_terms.specs.Terms.{term}
use Rattle.process_steps.specs.Steps.{FromBook}
use Rattle.net_core.proofs.ScopeLemmas.{replaced_brings}
use Rattle.scope_leader.specs.Plans.{part_of, begin_messages}
use Rattle.net_core.proofs.scopes.replace_scope.Goals as goal

pub returns-in-Ok-clause-steps : goal.returns-in-Ok-clause-steps
returns-in-Ok-clause-steps g c = λ decide decided.
    let led = c.requires.led in
    let body = term c.args.rule.now.body in
    let next : c.args.updates.now + 1 ≡ suc c.args.updates.now = add-one c.args.updates.now in
    let parts = c.in-Ok.parts in
    c.advance.ensures.steps (FromBook decide)
    (replaced_brings c.args.fixed.now.cast.now (g.R.Runs.local c.args.state.now) c.args.act.now led.0 c.args.head decide c.args.rule.now.name (suc c.args.updates.now) body
    (process parts.own) (letters parts.tell) led.1 (c.requires.tells led.0 led.1) led.2 decided
    (c.in-Ok.ensures.own ∙ ap₂ (λ cast n. part_of cast c.args.head n body c.args.head.leader) c.as_slice.ensures next)
    (c.in-Ok.ensures.tell ∙ ap₂ (λ cast n. begin_messages cast c.args.head n body) c.as_slice.ensures next))

pub returns-in-Ok-clause-counted : goal.returns-in-Ok-clause-counted
returns-in-Ok-clause-counted g c = omega arith
