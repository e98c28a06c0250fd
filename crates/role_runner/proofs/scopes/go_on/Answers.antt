-- The leader goes on as the book said, with the parts of the plan where the scope is replaced.
use Rattle.std.proofs.Common.{ℕ, sym, ap, ◌∙◌}
use Rattle.dioc_terms.specs.Equality.{member}
use Rattle.dioc_terms.specs.Plain.{plain}
use Rattle.dioc_terms.specs.Processes.{letters, process}
use Rattle.dioc_terms.specs.Terms.{term}
use Rattle.flat_role.specs.FlatStates.{local_of}
use Rattle.role_runner.proofs.ScopeLemmas.{replaces, rule_body, rule_level, rule_there}
use Rattle.role_runner.specs.Acts.{book_given}
use Rattle.scope_leader.specs.Plans.{begin_messages, part_of}
use Rattle.role_runner.proofs.scopes.go_on.Goals as goal

pub rule_at-rule-requires : goal.rule_at-rule-requires
rule_at-rule-requires g c =
    let pair : ℕ × ℕ = (c.in-Some.number, c.in-Some.epoch) in
    rule_there c.args.actor.now.bundle.now c.requires.chosen.0 c.requires.chosen.1 (local_of c.args.state.now) c.args.act.now c.args.head.now c.requires.led.0 c.requires.led.1 c.requires.led.2 c.choices_go_on.ensures pair (sym c.in-Some.is ∙ c.requires.chosen.2)

pub plan_update-requires-clause-level : goal.plan_update-requires-clause-level
plan_update-requires-clause-level g c =
    let pair : ℕ × ℕ = (c.in-Some.number, c.in-Some.epoch) in
    rule_level c.args.actor.now.bundle.now c.requires.chosen.0 c.requires.chosen.1 (local_of c.args.state.now) c.args.act.now c.args.head.now c.requires.led.0 c.requires.led.1 c.requires.led.2 c.choices_go_on.ensures pair (sym c.in-Some.is ∙ c.requires.chosen.2) c.rule_at-rule.result.now c.rule_at-rule.ensures

pub plan_update-requires-clause-body : goal.plan_update-requires-clause-body
plan_update-requires-clause-body g c = λ q is.
    let pair : ℕ × ℕ = (c.in-Some.number, c.in-Some.epoch) in
    ap (member q) c.as_slice-cast.ensures
    ∙ rule_body c.args.actor.now.bundle.now c.requires.chosen.0 c.requires.chosen.1 (local_of c.args.state.now) c.args.act.now c.args.head.now c.requires.led.0 c.requires.led.1 c.requires.led.2 c.choices_go_on.ensures pair (sym c.in-Some.is ∙ c.requires.chosen.2) c.rule_at-rule.result.now c.rule_at-rule.ensures
    c.mentions_are_roles.ensures c.requires.sound q is

pub returns : goal.returns
returns g c = record {
  steps = λ book count same.
      let s = local_of c.args.state.now in
      let pair : ℕ × ℕ = (c.in-Some.number, c.in-Some.epoch) in
      let body = term c.rule_at-rule.result.now.body in
      c.advance-2.ensures.steps (book_given (plain c.args.actor.now.bundle.now) book count s.store)
      (replaces c.args.actor.now.bundle.now book count (local_of c.args.state.now) c.args.act.now c.args.head.now c.requires.led.0 c.requires.led.1 c.requires.led.2 c.choices_go_on.ensures pair (sym c.in-Some.is ∙ same) c.rule_at-rule.result.now c.rule_at-rule.ensures
      c.requires.tells (process c.in_ok-parts.parts.own) (letters c.in_ok-parts.parts.tell)
      (c.in_ok-parts.ensures.own ∙ ap (λ cast. part_of cast c.args.head.now c.in-Some.epoch body c.args.head.now.leader) c.as_slice-cast.ensures)
      (c.in_ok-parts.ensures.tell ∙ ap (λ cast. begin_messages cast c.args.head.now c.in-Some.epoch body) c.as_slice-cast.ensures));
}
