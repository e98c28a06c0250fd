use Rattle.std.proofs.Common.{◌≡◌, ◌∙◌, [], ◌∷◌, Option, None, sym, subst, rules}
use Rattle.std.specs.Prelude.{IfErr, OnOk}
use Rattle.dioc_terms.specs.Plain.{plain}
use Rattle.mend.specs.Names.{taken_name}
use Rattle.rule_checks.specs.declared.refusals.Where.TheVariants as place
use Rattle.mend.specs.declared.refusals.MendRefusal.{MendRefusal}
use Rattle.mend.specs.Refusals.{first_mend_refusal, name_taken, given_program_tests, mend_program_tests, IsMendRefusalOf}
use Rattle.mend.proofs.Tests.{after_refused, in_refused, only_one}
use Rattle.mend.proofs.checks.check_program.Goals as goal

pub returns-in_err-given_program-clause-refused : goal.returns-in_err-given_program-clause-refused
returns-in_err-given_program-clause-refused c =
    let b = plain c.args.bundle.now in
    let goes : IsMendRefusalOf (first_mend_refusal (mend_program_tests b)) c.in_err-given_program.field-0.0
    = in_refused (given_program_tests b) (name_taken place.Program (taken_name b.choreo) ∷ []) c.in_err-given_program.field-0.0 c.in_err-given_program.ensures.refused in
    search (rules, goes)

pub returns-clause-ok : goal.returns-clause-ok
returns-clause-ok c =
    let b = plain c.args.bundle.now in
    let test = name_taken place.Program (taken_name b.choreo) in
    subst (λ (t : Option MendRefusal). OnOk c.free_choreo.result (t ≡ None))
    (sym (after_refused (given_program_tests b) (test ∷ []) c.in_ok-given_program.ensures.ok ∙ only_one test)) c.free_choreo.ensures.ok

pub returns-clause-refused : goal.returns-clause-refused
returns-clause-refused c =
    let b = plain c.args.bundle.now in
    let test = name_taken place.Program (taken_name b.choreo) in
    subst (λ (t : Option MendRefusal). IfErr c.free_choreo.result (IsMendRefusalOf t))
    (sym (after_refused (given_program_tests b) (test ∷ []) c.in_ok-given_program.ensures.ok ∙ only_one test)) c.free_choreo.ensures.refused
