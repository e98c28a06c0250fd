-- The leader went on as the book says, with the parts of the plan.
use Rattle.std.proofs.Common.{◌≡◌, ◌+◌, ◌++◌, ◌∷◌, [], suc, length, true, ap, ap₂, sym, ◌∙◌, subst, add-one, arith}
use Rattle.dioc_terms.specs.declared.entries.Chosen.TheVariants as chosen
use Rattle.dioc_terms.specs.declared.entries.Entry.TheVariants as entry
use Rattle.dioc_terms.specs.Equality.{entry_eq, member}
use Rattle.dioc_terms.specs.Processes.{process, letters}
use Rattle.dioc_terms.specs.Terms.{term}
use Rattle.process_steps.specs.Steps.{FromBook}
use Rattle.net_core.proofs.ScopeLemmas.{replaced_brings}
use Rattle.scope_leader.specs.Plans.{part_of, begin_messages}
use Rattle.role_monitor.proofs.scopes.replace.Goals as goal

pub returns-clause-steps : goal.returns-clause-steps
returns-clause-steps g c = λ decide decided.
    let led = c.requires.led in
    let body = term c.args.rule.now.body in
    let n = suc (length c.args.updates.now.items) in
    let count : c.len.result ≡ length c.args.updates.now.items = omega (arith, c.len.ensures, c.args.updates.now.ok.0) in
    let next : c.in-Some.epoch ≡ suc (length c.args.updates.now.items) = c.in-Some.ensures.next ∙ ap suc count in
    c.advance.ensures.steps (FromBook decide)
    (replaced_brings c.args.scene.now.bundle.now.cast (g.R.Runs.local c.args.state.now) c.args.act.now led.0 c.args.head.now decide c.args.rule.now.name n body
    (process c.in_ok-parts.parts.own) (letters c.in_ok-parts.parts.tell) led.1 (c.requires.tells led.0 led.1) led.2 decided
    (c.in_ok-parts.ensures.own ∙ ap₂ (λ cast m. part_of cast c.args.head.now m body c.args.head.now.leader) c.as_slice-cast.ensures next)
    (c.in_ok-parts.ensures.tell ∙ ap₂ (λ cast m. begin_messages cast c.args.head.now m body) c.as_slice-cast.ensures next))

pub returns-clause-shows : goal.returns-clause-shows
returns-clause-shows g c =
    let count : c.len.result ≡ length c.args.updates.now.items = omega (arith, c.len.ensures, c.args.updates.now.ok.0) in
    sym c.in-Some.ensures.shows
    ∙ ap (λ n. entry_eq c.args.scene.now.entry.now (entry.Scope c.args.head.now.index c.args.head.now.leader (chosen.Rule c.args.rule.now.name (suc n)))) count

pub returns-clause-listed : goal.returns-clause-listed
returns-clause-listed g c =
    let count : c.len.result ≡ length c.args.updates.now.items = omega (arith, c.len.ensures, c.args.updates.now.ok.0) in
    let next : c.in-Some.epoch ≡ suc (length c.args.updates.now.items) = c.in-Some.ensures.next ∙ ap suc count in
    c.push_reserved.ensures.items ∙ ap (λ l. l ++ record { epoch = c.in-Some.epoch; rule = c.args.number; level = c.args.head.now.level + 1 } ∷ []) c.reserve.ensures.items
    ∙ ap₂ (λ n m. c.args.updates.now.items ++ record { epoch = n; rule = c.args.number; level = m } ∷ []) next (add-one c.args.head.now.level)

pub plan_update-requires-clause-body : goal.plan_update-requires-clause-body
plan_update-requires-clause-body g c = λ q named. subst (λ cast. member q cast ≡ true) (sym c.as_slice-cast.ensures) (c.requires.body q named)

pub returns-in_default-clause-shows : goal.returns-in_default-clause-shows
returns-in_default-clause-shows g c =
    let count : c.len.result ≡ length c.args.updates.now.items = omega (arith, c.len.ensures, c.args.updates.now.ok.0) in
    sym c.in_default.ensures.differs
    ∙ ap (λ n. entry_eq c.args.scene.now.entry.now (entry.Scope c.args.head.now.index c.args.head.now.leader (chosen.Rule c.args.rule.now.name (suc n)))) count
