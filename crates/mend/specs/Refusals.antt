-- Why a bundle isn't mended: the tests of a bundle in the order of its refusals. Each test has a
-- refusal or none, and the first refusal counts.
use Rattle.std.specs.Prelude.{◌≡◌, ◌≢◌, ℕ, List, [], ◌∷◌, ◌++◌, length, map, nat_lt, Option, Some, None, if◌then◌else◌, slice_get}
use Rattle.dioc_terms.specs.declared.names.Role.{Role}
use Rattle.dioc_terms.specs.declared.values.Value.{Value}
use Rattle.dioc_terms.specs.Bundles.{numbers_from}
use Rattle.dioc_terms.specs.Plain.{PlainRule, PlainBundle}
use Rattle.dioc_terms.specs.Terms.{Term, mentions, nodes, depth}
use Rattle.limits.specs.Limits.{most_nodes, most_depth}
use Rattle.rule_checks.specs.declared.refusals.Refusal.{Refusal}
use Rattle.rule_checks.specs.declared.refusals.Refusal.TheVariants.{Memory}
use Rattle.rule_checks.specs.declared.refusals.Where.{Where}
use Rattle.rule_checks.specs.declared.refusals.Where.TheVariants as place
use Rattle.rule_checks.specs.declared.refusals.Which.TheVariants.{Nodes}
use Rattle.rule_checks.specs.Refusals.{limit_tests, unknown_role, self_message, body_too_big, too_many}
use Rattle.mend.specs.Mended.{mended}
use Rattle.mend.specs.Names.{taken_name, taken_variable}
use Rattle.mend.specs.declared.refusals.MendRefusal.{MendRefusal}
use Rattle.mend.specs.declared.refusals.MendRefusal.TheVariants.{Refused, NameTaken, TooDeep}

-- the first refusal of a list of tests
abbrev pub first_mend_refusal : List (Option MendRefusal) → Option MendRefusal
first_mend_refusal [] = None
first_mend_refusal (None ∷ rest) = first_mend_refusal rest
first_mend_refusal (Some refusal ∷ rest) = Some refusal

-- a test of whether a bundle may run, made of one that is to be mended
abbrev pub refused : Option Refusal → Option MendRefusal
refused None = None
refused (Some refusal) = Some (Refused refusal)

-- a name that mending takes for itself
abbrev pub name_taken : Where → Option (List ℕ) → Option MendRefusal
name_taken at None = None
name_taken at (Some name) = Some (NameTaken at name)

-- deeper than a choreography of a text may be
abbrev pub too_deep : Term → Option MendRefusal
too_deep I = if nat_lt most_depth (depth I) then Some TooDeep else None

-- the tests of the program before it is mended; whether it is connected is none of them
abbrev pub given_program_tests : PlainBundle → List (Option Refusal)
given_program_tests b =
    limit_tests b
    ++ (unknown_role place.Program b.cast (map (λ (given : Role × List Value). given.0) b.inputs)
    ∷ self_message place.Program b.choreo ∷ [])

abbrev pub mend_program_tests : PlainBundle → List (Option MendRefusal)
mend_program_tests b =
    map refused (given_program_tests b)
    ++ name_taken place.Program (taken_name b.choreo) ∷ []

-- the tests of the body of rule n before it is mended
abbrev pub given_body_tests : List Role → ℕ → Term → List (Option Refusal)
given_body_tests cast n body =
    unknown_role (place.Rule n) cast (mentions body) ∷
    self_message (place.Rule n) body ∷
    body_too_big n body ∷ []

-- the tests of the names of a rule
abbrev pub name_tests : Where → PlainRule → List (Option MendRefusal)
name_tests at rule =
    name_taken at (taken_variable rule.cond) ∷ name_taken at (taken_name rule.body) ∷ []

abbrev pub mend_rule_tests : List Role → ℕ → PlainRule → List (Option MendRefusal)
mend_rule_tests cast n rule =
    map refused (given_body_tests cast n rule.body) ++ name_tests (place.Rule n) rule

-- the first refusal of rule n; a number past the rules has none
abbrev pub mend_rule_refusal : PlainBundle → ℕ → Option MendRefusal
mend_rule_refusal b n = of_rule (slice_get b.rules n)
  where
    of_rule : Option PlainRule → Option MendRefusal
    of_rule None = None
    of_rule (Some rule) = first_mend_refusal (mend_rule_tests b.cast n rule)

-- the numbers of the rules
abbrev pub rule_numbers : PlainBundle → List ℕ
rule_numbers b = numbers_from 0 (length b.rules)

-- the tests of the mended choreography
abbrev pub mended_size_tests : Term → List (Option MendRefusal)
mended_size_tests I = refused (too_many Nodes most_nodes (nodes I)) ∷ too_deep I ∷ []

-- whether the mended body of rule n may be a body; a number past the rules has no refusal
abbrev pub mended_body_refusal : PlainBundle → ℕ → Option MendRefusal
mended_body_refusal b n = of_rule (slice_get b.rules n)
  where
    of_rule : Option PlainRule → Option MendRefusal
    of_rule None = None
    of_rule (Some rule) = refused (body_too_big n (mended b.cast rule.body))

-- the tests of what comes of mending
abbrev pub mended_tests : PlainBundle → List (Option MendRefusal)
mended_tests b =
    mended_size_tests (mended b.cast b.choreo) ++ map (mended_body_refusal b) (rule_numbers b)

-- the tests of a bundle, in the order of its refusals
abbrev pub mend_tests : PlainBundle → List (Option MendRefusal)
mend_tests b =
    mend_program_tests b ++ (map (mend_rule_refusal b) (rule_numbers b) ++ mended_tests b)

-- the first refusal of a bundle
abbrev pub mend_refusal : PlainBundle → Option MendRefusal
mend_refusal b = first_mend_refusal (mend_tests b)

-- what the error of a call says of the test that it makes: it is its refusal; want of memory says
-- nothing
abbrev pub IsMendRefusalOf : Option MendRefusal → MendRefusal → Type 0
IsMendRefusalOf test why = why ≢ Refused Memory → test ≡ Some why
