-- The part is the projection of the rule's body.
use Rattle.std.proofs.Common.{◌≡◌, true, Some, sym, ap, ap₂, ◌∙◌, subst}
use Rattle.std.specs.Prelude.{option_map}
use Rattle.dioc_terms.specs.Equality.{member}
use Rattle.dioc_terms.specs.Plain.{PlainRule, plain, plain_rule}
use Rattle.dioc_terms.specs.Processes.{Part}
use Rattle.dioc_terms.specs.Terms.{is_in, stamped, term}
use Rattle.projection.specs.Projection.{projected}
use Rattle.role_monitor.proofs.Begins.{rule_found}
use Rattle.role_monitor.proofs.messages.rule_part.Goals as goal

pub project_last-requires : goal.project_last-requires
project_last-requires c = λ q named.
    let rule = c.in-Some.rule.now in
    let found = c.in-Some.ensures.lookup in
    let at = rule_found c.args.bundle.now.rules c.as_slice.result.now c.args.update.rule rule c.as_slice.ensures found.3.0 found.1 in
    let inside = sym (c.stamped_bodies.ensures.named q (term rule.body) c.args.update.epoch c.args.update.level) ∙ sym (ap (is_in q) c.in_ok-body.ensures) ∙ named in
    subst (λ cast. member q cast ≡ true) (sym c.as_slice-2.ensures) (c.requires c.args.update.rule (plain_rule rule) at q inside)

pub returns : goal.returns
returns c =
    let b = plain c.args.bundle.now in
    let u = c.args.update in
    let rule = c.in-Some.rule.now in
    let found = c.in-Some.ensures.lookup in
    let at = rule_found c.args.bundle.now.rules c.as_slice.result.now u.rule rule c.as_slice.ensures found.3.0 found.1 in
    ap (λ P. Some (Part u.epoch P)) (c.in_ok-proc.ensures ∙ ap₂ (λ cast I. projected cast I c.args.role.now) c.as_slice-2.ensures c.in_ok-body.ensures)
    ∙ sym (ap (λ o. option_map (Part u.epoch) (option_map (λ (r : PlainRule). projected b.cast (stamped r.body u.epoch u.level) c.args.role.now) o)) at)
