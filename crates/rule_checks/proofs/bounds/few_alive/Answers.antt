use Rattle.std.proofs.Common.{◌≡◌, ◌∙◌, Option, None, List, ℕ, ap, sym, subst, map}
use Rattle.std.specs.Prelude.{IfErr, OnOk}
use Rattle.dioc_terms.specs.declared.bundles.Bundle.{Bundle}
use Rattle.dioc_terms.specs.declared.bundles.Rule.{Rule}
use Rattle.dioc_terms.specs.declared.bundles.Timed.{Timed}
use Rattle.limits.specs.Limits.{most_rules}
use Rattle.dioc_terms.specs.Plain.{plain, plain_rule}
use Rattle.rule_checks.specs.declared.refusals.Refusal.{Refusal}
use Rattle.rule_checks.specs.declared.refusals.Which.TheVariants.{Rules}
use Rattle.rule_checks.specs.Alive.{first_names, most_names}
use Rattle.rule_checks.specs.Answers.{IsRefusalOf}
use Rattle.rule_checks.specs.Refusals.{too_many, too_many_alive}
use Rattle.rule_checks.proofs.AliveLemmas.{most_alive-names}
use Rattle.rule_checks.proofs.bounds.few_alive.Goals as goal

-- by the names of a bundle's rules the test is that of the bundle
alive_by_names : (b : Bundle) (names : List (List ℕ)) (all : List Rule) (script : List Timed) → all ≡ b.rules → script ≡ b.script
    → names ≡ first_names (map plain_rule all) b.opening
    → too_many Rules most_rules (most_names (map plain_rule all) names script) ≡ too_many_alive (plain b)
alive_by_names b names all script e k h =
    ap (too_many Rules most_rules)
    (ap (λ (l : List (List ℕ)). most_names (map plain_rule all) l script) h
    ∙ ((λ j. most_names (map plain_rule (e j)) (first_names (map plain_rule (e j)) b.opening) (k j))
    ∙ sym (most_alive-names (map plain_rule b.rules) b.opening b.env b.script)))

pub returns-clause-ok : goal.returns-clause-ok
returns-clause-ok c =
    let b = c.args.bundle.now in
    subst (λ (test : Option Refusal). OnOk c.few_through.result (test ≡ None))
    (alive_by_names b c.in_ok-names.names.keys c.as_slice-rules.result.now c.as_slice.result.now c.as_slice-rules.ensures c.as_slice.ensures c.in_ok-names.ensures)
    c.few_through.ensures.ok

pub returns-clause-refused : goal.returns-clause-refused
returns-clause-refused c =
    let b = c.args.bundle.now in
    subst (λ (test : Option Refusal). IfErr c.few_through.result (IsRefusalOf test))
    (alive_by_names b c.in_ok-names.names.keys c.as_slice-rules.result.now c.as_slice.result.now c.as_slice-rules.ensures c.as_slice.ensures c.in_ok-names.ensures)
    c.few_through.ensures.refused
