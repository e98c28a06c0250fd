use Rattle.std.proofs.Common.{◌∙◌, [], ◌∷◌, map, ap, sym}
use Rattle.std.specs.Prelude.{List}
use Rattle.std.proofs.lemmas.List.{take_all}
use Rattle.dioc_terms.specs.declared.names.Role.{Role}
use Rattle.dioc_terms.specs.declared.values.Value.{Value}
use Rattle.rule_checks.specs.declared.refusals.Where.TheVariants as place
use Rattle.rule_checks.specs.Refusals.{first_refusal, unknown_role}
use Rattle.rule_checks.proofs.BodyLemmas.{each_known_of}
use Rattle.rule_checks.proofs.TestLemmas.{passed, stopped}
use Rattle.std.proofs.Common.{rules}
use Rattle.rule_checks.specs.Answers.{IsRefusalOf}
use Rattle.rule_checks.proofs.checks.known_inputs.Goals as goal

pub loop-role-preserved : goal.loop-role-preserved
loop-role-preserved c =
    passed (λ given. unknown_role place.Program c.args.cast.now (given.0 ∷ [])) c.args.inputs.now c.loop-role.role-index c.loop-role-item.result
    c.loop-role-test.true c.loop-role-item.is c.loop-role.invariant c.in_ok-known.ensures.ok

pub returns-in_err-known-clause-refused : goal.returns-in_err-known-clause-refused
returns-in_err-known-clause-refused c =
    let goes : IsRefusalOf (unknown_role place.Program c.args.cast.now (map (λ (given : Role × List Value). given.0) c.args.inputs.now)) c.in_err-known.field-0.0 = λ told.
    each_known_of place.Program c.args.cast.now c.args.inputs.now
    ∙ stopped (λ given. unknown_role place.Program c.args.cast.now (given.0 ∷ [])) c.args.inputs.now c.loop-role.role-index c.loop-role-item.result c.in_err-known.field-0.0
    c.loop-role-test.true c.loop-role-item.is c.loop-role.invariant (c.in_err-known.ensures.refused told) in
    search (rules, goes)

pub returns-clause-ok : goal.returns-clause-ok
returns-clause-ok c =
    each_known_of place.Program c.args.cast.now c.args.inputs.now
    ∙ (ap (λ (l : List (Role × List Value)). first_refusal (map (λ given. unknown_role place.Program c.args.cast.now (given.0 ∷ [])) l))
    (sym (take_all c.loop-role.role-index c.args.inputs.now c.loop-role-test.false))
    ∙ c.loop-role.invariant)
