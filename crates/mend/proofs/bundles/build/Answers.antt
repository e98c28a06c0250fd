use Rattle.std.proofs.Common.{◌≡◌, Option, None, map, sym, subst, rules}
use Rattle.std.specs.Prelude.{IfErr, IfOk, OnOk}
use Rattle.dioc_terms.specs.Plain.{plain}
use Rattle.dioc_terms.specs.Terms.{term}
use Rattle.mend.specs.Mended.{mended}
use Rattle.mend.specs.Traces.{mended_rule}
use Rattle.mend.specs.declared.refusals.MendRefusal.{MendRefusal}
use Rattle.mend.specs.Mendable.{IsMendableText, remade}
use Rattle.mend.specs.Refusals.{first_mend_refusal, mended_size_tests, mended_tests, IsMendRefusalOf}
use Rattle.mend.proofs.Passed.{program_ready, rules_ready}
use Rattle.mend.proofs.Whole.{of_sizes, of_bodies}
use Rattle.mend.proofs.bundles.build.Goals as goal

pub mended_program-requires : goal.mended_program-requires
mended_program-requires c =
    let b = plain c.args.bundle.now in
    subst (λ cast. IsMendableText cast b.choreo) (sym c.as_slice.ensures) (program_ready c.casts_are_roles.ensures b c.requires.formed c.requires.program)

pub with_rules-requires-clause-ready : goal.with_rules-requires-clause-ready
with_rules-requires-clause-ready c =
    rules_ready c.mentions_are_roles.ensures (plain c.args.bundle.now) c.requires.formed c.requires.rules

pub returns-in_err-choreo-clause-refused : goal.returns-in_err-choreo-clause-refused
returns-in_err-choreo-clause-refused c =
    let b = plain c.args.bundle.now in
    let goes : IsMendRefusalOf (first_mend_refusal (mended_tests b)) c.in_err-choreo.field-0.0
    = of_sizes b c.in_err-choreo.field-0.0
    (subst (λ cast. IsMendRefusalOf (first_mend_refusal (mended_size_tests (mended cast b.choreo))) c.in_err-choreo.field-0.0) c.as_slice.ensures c.in_err-choreo.ensures.refused) in
    search (rules, goes)

pub returns-clause-mended : goal.returns-clause-mended
returns-clause-mended c =
    let b = plain c.args.bundle.now in
    let is : term c.in_ok-choreo.choreo ≡ mended b.cast b.choreo = subst (λ cast. term c.in_ok-choreo.choreo ≡ mended cast b.choreo) c.as_slice.ensures c.in_ok-choreo.ensures.made in
    subst (λ I. IfOk c.with_rules.result (λ made. plain made ≡ remade b I (map (mended_rule b.cast) b.rules))) is c.with_rules.ensures.made

pub returns-clause-sizes : goal.returns-clause-sizes
returns-clause-sizes c =
    let b = plain c.args.bundle.now in
    let none = subst (λ cast. first_mend_refusal (mended_size_tests (mended cast b.choreo)) ≡ None) c.as_slice.ensures c.in_ok-choreo.ensures.ok in
    subst (λ (t : Option MendRefusal). OnOk c.with_rules.result (t ≡ None)) (sym (of_bodies b c.args.numbers.now c.requires.all none)) c.with_rules.ensures.ok

pub returns-clause-refused : goal.returns-clause-refused
returns-clause-refused c =
    let b = plain c.args.bundle.now in
    let none = subst (λ cast. first_mend_refusal (mended_size_tests (mended cast b.choreo)) ≡ None) c.as_slice.ensures c.in_ok-choreo.ensures.ok in
    subst (λ (t : Option MendRefusal). IfErr c.with_rules.result (IsMendRefusalOf t)) (sym (of_bodies b c.args.numbers.now c.requires.all none)) c.with_rules.ensures.refused
