use Rattle.std.proofs.Common.{◌≡◌, ◌∙◌, Option, None, ap, subst}
use Rattle.std.specs.Prelude.{IfErr, OnOk}
use Rattle.dioc_terms.specs.Terms.{term}
use Rattle.rule_checks.specs.declared.refusals.Refusal.{Refusal}
use Rattle.rule_checks.specs.Answers.{IsRefusalOf}
use Rattle.rule_checks.specs.Refusals.{unknown_role}
use Rattle.rule_checks.proofs.BodyLemmas.{known_cast}
use Rattle.rule_checks.proofs.checks.known_body.Goals as goal

pub returns-clause-ok : goal.returns-clause-ok
returns-clause-ok c =
    let body = term c.args.body.now in
    let same = ap (unknown_role c.args.at c.args.cast.now) (c.as_slice.ensures ∙ c.in_ok-named.ensures) ∙ known_cast c.args.at c.args.cast.now body in
    subst (λ (test : Option Refusal). OnOk c.all_known.result (test ≡ None)) same c.all_known.ensures.ok

pub returns-clause-refused : goal.returns-clause-refused
returns-clause-refused c =
    let body = term c.args.body.now in
    let same = ap (unknown_role c.args.at c.args.cast.now) (c.as_slice.ensures ∙ c.in_ok-named.ensures) ∙ known_cast c.args.at c.args.cast.now body in
    subst (λ (test : Option Refusal). IfErr c.all_known.result (IsRefusalOf test)) same c.all_known.ensures.refused
