use Rattle.std.proofs.Common.{◌≡◌, ◌∙◌, Option, None, sym, subst, rules}
use Rattle.std.specs.Prelude.{IfErr, OnOk}
use Rattle.dioc_terms.specs.Plain.{plain}
use Rattle.mend.specs.declared.refusals.MendRefusal.{MendRefusal}
use Rattle.mend.specs.Refusals.{mend_refusal, IsMendRefusalOf}
use Rattle.mend.proofs.Whole.{of_program, of_rules, rules_free, of_mended, is_accepted}
use Rattle.mend.proofs.bundles.mend_bundle.Goals as goal

pub returns-in_err-check_program-clause-refused : goal.returns-in_err-check_program-clause-refused
returns-in_err-check_program-clause-refused c =
    let goes : IsMendRefusalOf (mend_refusal (plain c.args.bundle.now)) c.in_err-check_program.field-0.0
    = of_program (plain c.args.bundle.now) c.in_err-check_program.field-0.0 c.in_err-check_program.ensures.refused in
    search (rules, goes)

pub returns-in_err-check_rules-clause-refused : goal.returns-in_err-check_rules-clause-refused
returns-in_err-check_rules-clause-refused c =
    let goes : IsMendRefusalOf (mend_refusal (plain c.args.bundle.now)) c.in_err-check_rules.field-0.0
    = of_rules (plain c.args.bundle.now) c.in_err-check_rules.field-0.0 c.deref.result.now (c.deref.ensures.value ∙ c.in_ok-numbers.ensures)
    c.in_ok-check_program.ensures.ok c.in_err-check_rules.ensures.refused in
    search (rules, goes)

pub build-requires-clause-rules : goal.build-requires-clause-rules
build-requires-clause-rules c =
    rules_free (plain c.args.bundle.now) c.deref.result.now (c.deref.ensures.value ∙ c.in_ok-numbers.ensures) c.in_ok-check_rules.ensures.ok

pub returns-clause-accepted : goal.returns-clause-accepted
returns-clause-accepted c =
    let b = plain c.args.bundle.now in
    let free = rules_free b c.deref.result.now (c.deref.ensures.value ∙ c.in_ok-numbers.ensures) c.in_ok-check_rules.ensures.ok in
    is_accepted b c.mended_accepted.ensures c.requires.formed c.build.result c.build.ensures.mended
    (subst (λ (t : Option MendRefusal). OnOk c.build.result (t ≡ None)) (sym (of_mended b c.in_ok-check_program.ensures.ok free)) c.build.ensures.sizes)

pub returns-clause-free : goal.returns-clause-free
returns-clause-free c =
    let b = plain c.args.bundle.now in
    let free = rules_free b c.deref.result.now (c.deref.ensures.value ∙ c.in_ok-numbers.ensures) c.in_ok-check_rules.ensures.ok in
    subst (λ (t : Option MendRefusal). OnOk c.build.result (t ≡ None)) (sym (of_mended b c.in_ok-check_program.ensures.ok free)) c.build.ensures.sizes

pub returns-clause-refused : goal.returns-clause-refused
returns-clause-refused c =
    let b = plain c.args.bundle.now in
    let free = rules_free b c.deref.result.now (c.deref.ensures.value ∙ c.in_ok-numbers.ensures) c.in_ok-check_rules.ensures.ok in
    subst (λ (t : Option MendRefusal). IfErr c.build.result (IsMendRefusalOf t)) (sym (of_mended b c.in_ok-check_program.ensures.ok free)) c.build.ensures.refused
