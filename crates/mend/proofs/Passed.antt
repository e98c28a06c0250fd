-- What the tests say of a bundle where they refuse nothing.
use Rattle.std.proofs.Common.{◌≡◌, ◌≤◌, ◌+◌, ◌∙◌, ℕ, List, [], ◌∷◌, Bool, true, false, ◌||◌, not, Option, Some, None, length, map, refl, sym, ap, subst, arith}
use Rattle.std.specs.Prelude.{find, nat_lt, slice_get}
use Rattle.std.specs.List.{list_all}
use Rattle.std.proofs.lemmas.Bool.{ltb-false, and_parts}
use Rattle.std.proofs.lemmas.Option.{slice_get_within, get_or_from_slice_get}
use Rattle.dioc_terms.specs.declared.names.Role.{Role}
use Rattle.dioc_terms.specs.declared.names.Index.{Index}
use Rattle.dioc_terms.specs.Bundles.{IsFormed, IsFormedRule}
use Rattle.dioc_terms.specs.Equality.{role_eq, member}
use Rattle.dioc_terms.specs.EqualityLemmas.{role_eq-decides}
use Rattle.dioc_terms.specs.Plain.{PlainRule, PlainBundle}
use Rattle.dioc_terms.specs.TermLaws.{MentionsAreRoles, CastsAreRoles}
use Rattle.dioc_terms.specs.Terms.{Term, mentions, self_messages, nodes, depth}
use Rattle.connectedness.specs.Laws.{HasRoles}
use Rattle.limits.specs.Limits.{most_body_nodes, most_body_depth, most_depth}
use Rattle.rule_checks.specs.declared.refusals.Refusal.{Refusal}
use Rattle.rule_checks.specs.declared.refusals.Where.{Where}
use Rattle.rule_checks.specs.declared.refusals.Where.TheVariants as place
use Rattle.rule_checks.specs.Refusals.{first_refusal, unknown_role, self_message, body_too_big}
use Rattle.mend.specs.Mended.{mended}
use Rattle.mend.specs.Names.{taken_name, taken_variable}
use Rattle.mend.specs.Traces.{IsMendableRule}
use Rattle.mend.specs.declared.refusals.MendRefusal.{MendRefusal}
use Rattle.mend.specs.Mendable.{IsMendableText, AreMendableBodies}
use Rattle.mend.specs.Refusals.{first_mend_refusal, refused, name_taken, too_deep, given_program_tests, mend_program_tests, given_body_tests, mend_rule_tests, mend_rule_refusal, rule_numbers, mended_body_refusal}
use Rattle.mend.proofs.Counted.{at_number}
use Rattle.mend.proofs.Tests.{both_none, first_of_refused, none_refused}
use Rattle.mend.proofs.Shapes.{some_none, role_refused, message_refused}

-- Lists of tests of `rule_checks`
abbrev pub EachNone : List (Option Refusal) → Type 0
EachNone [] = Unit {0}
EachNone (test ∷ rest) = (test ≡ None) × EachNone rest

pub each_none : (tests : List (Option Refusal)) → first_refusal tests ≡ None → EachNone tests
each_none [] h = tt
each_none (None ∷ rest) h = (refl, each_none rest h)
each_none (Some why ∷ rest) h = some_none h

-- Roles
role_found : (at : Where) (o : Option Role) → role_refused at o ≡ None → o ≡ None
role_found at None h = refl
role_found at (Some q) h = some_none h

found_none : (p : Role → Bool) (roles : List Role) → find (λ q. not (p q)) roles ≡ None → list_all p roles ≡ true
found_none p [] h = refl
found_none p (q ∷ qs) h = by (p q) refl h (found_none p qs)
  where
    by : (t : Bool) → p q ≡ t → find (λ r. not (p r)) (q ∷ qs) ≡ None → (find (λ r. not (p r)) qs ≡ None → list_all p qs ≡ true)
        → list_all p (q ∷ qs) ≡ true
    by true is k more = rw is (more (rw is at k))
    by false is k more = some_none (rw is at k)

known : (at : Where) (cast roles : List Role) → unknown_role at cast roles ≡ None → list_all (λ q. member q cast) roles ≡ true
known at cast roles h = found_none (λ q. member q cast) roles (role_found at (find (λ q. not (member q cast)) roles) h)

passes : (f : Role → Bool) (rs : List Role) (q : Role) → list_all f rs ≡ true → member q rs ≡ true → f q ≡ true
passes f [] q h k = cc
passes f (r ∷ rs) q h k =
    let parts = and_parts (f r) (list_all f rs) h in
    by (role_eq q r) refl k parts.0 (λ j. passes f rs q parts.1 j)
  where
    by : (b : Bool) → role_eq q r ≡ b → (b || member q rs) ≡ true → f r ≡ true → (member q rs ≡ true → f q ≡ true) → f q ≡ true
    by true e j now later = ap f ((role_eq-decides q r).0 e) ∙ now
    by false e j now later = later j

has_roles : MentionsAreRoles → (at : Where) (cast : List Role) (I : Term) → unknown_role at cast (mentions I) ≡ None → HasRoles cast I
has_roles mentioned at cast I h q is = passes (λ r. member r cast) (mentions I) q (known at cast (mentions I) h) (sym (mentioned q I) ∙ is)

-- Messages of a role to itself
message_found : (at : Where) (is : List Index) → message_refused at is ≡ None → is ≡ []
message_found at [] h = refl
message_found at (i ∷ rest) h = some_none h

to_others : (at : Where) (I : Term) → self_message at I ≡ None → self_messages I ≡ []
to_others at I h = message_found at (self_messages I) h

-- Names
not_taken : (at : Where) (o : Option (List ℕ)) (rest : List (Option MendRefusal)) → first_mend_refusal (name_taken at o ∷ rest) ≡ None → o ≡ None
not_taken at None rest h = refl
not_taken at (Some name) rest h = some_none h

-- Sizes
small : (n : ℕ) (I : Term) → body_too_big n I ≡ None → (nodes I ≤ most_body_nodes) × (depth I ≤ most_body_depth)
small n I h = by (nat_lt most_body_nodes (nodes I)) refl (nat_lt most_body_depth (depth I)) refl h
  where
    by : (b : Bool) → nat_lt most_body_nodes (nodes I) ≡ b → (c : Bool) → nat_lt most_body_depth (depth I) ≡ c → body_too_big n I ≡ None
        → (nodes I ≤ most_body_nodes) × (depth I ≤ most_body_depth)
    by true e c k none = some_none (rw e at none)
    by false e true k none = some_none (rw (e, k) at none)
    by false e false k none = (ltb-false most_body_nodes (nodes I) e, ltb-false most_body_depth (depth I) k)

pub shallow : (I : Term) → too_deep I ≡ None → depth I ≤ most_depth
shallow I h = by (nat_lt most_depth (depth I)) refl h
  where
    by : (b : Bool) → nat_lt most_depth (depth I) ≡ b → too_deep I ≡ None → depth I ≤ most_depth
    by true e none = some_none (rw e at none)
    by false e none = ltb-false most_depth (depth I) e

-- The program
pub program_none : (b : PlainBundle) → first_mend_refusal (mend_program_tests b) ≡ None → EachNone (given_program_tests b) × (taken_name b.choreo ≡ None)
program_none b h =
    let parts = both_none (map refused (given_program_tests b)) (name_taken place.Program (taken_name b.choreo) ∷ []) h in
    let sound : first_refusal (given_program_tests b) ≡ None = none_refused (first_refusal (given_program_tests b)) (sym (first_of_refused (given_program_tests b)) ∙ parts.0) in
    (each_none (given_program_tests b) sound, not_taken place.Program (taken_name b.choreo) [] parts.1)

pub program_ready : CastsAreRoles → (b : PlainBundle) → IsFormed b → first_mend_refusal (mend_program_tests b) ≡ None → IsMendableText b.cast b.choreo
program_ready casts b formed h =
    let parts = program_none b h in
    record {
      marks = formed.choreo.indices;
      in_cast = λ q is. subst (λ cast. member q cast ≡ true) (sym formed.cast) (casts.same q b.choreo ∙ is);
      no_self_message = to_others place.Program b.choreo parts.0.1.1.1.1.1.0;
      free = parts.1;
    }

-- The rules
abbrev pub rule_of : List Role → ℕ → Option PlainRule → Option MendRefusal
rule_of cast n None = None
rule_of cast n (Some rule) = first_mend_refusal (mend_rule_tests cast n rule)

abbrev pub body_of : List Role → ℕ → Option PlainRule → Option MendRefusal
body_of cast n None = None
body_of cast n (Some rule) = refused (body_too_big n (mended cast rule.body))

pub formed_at : (b : PlainBundle) → IsFormed b → (n : ℕ) (rule : PlainRule) → slice_get b.rules n ≡ Some rule → IsFormedRule rule
formed_at b formed n rule there = subst IsFormedRule (get_or_from_slice_get b.rules n rule rule there) (formed.rules n rule (slice_get_within b.rules n rule there))

-- the names of the condition and of the body
names_free : (b : PlainBundle) (n : ℕ) (rule : PlainRule) → slice_get b.rules n ≡ Some rule → mend_rule_refusal b n ≡ None
    → EachNone (given_body_tests b.cast n rule.body) × (taken_variable rule.cond ≡ None) × (taken_name rule.body ≡ None)
names_free b n rule there h =
    let tests = given_body_tests b.cast n rule.body in
    let at : first_mend_refusal (mend_rule_tests b.cast n rule) ≡ None = sym (ap (rule_of b.cast n) there) ∙ h in
    let parts = both_none (map refused tests) (name_taken (place.Rule n) (taken_variable rule.cond) ∷ name_taken (place.Rule n) (taken_name rule.body) ∷ []) at in
    let sound : first_refusal tests ≡ None = none_refused (first_refusal tests) (sym (first_of_refused tests) ∙ parts.0) in
    let names = both_none (name_taken (place.Rule n) (taken_variable rule.cond) ∷ []) (name_taken (place.Rule n) (taken_name rule.body) ∷ []) parts.1 in
    (each_none tests sound, not_taken (place.Rule n) (taken_variable rule.cond) [] names.0, not_taken (place.Rule n) (taken_name rule.body) [] names.1)

body_ready : MentionsAreRoles → (b : PlainBundle) → IsFormed b → (n : ℕ) (rule : PlainRule) → slice_get b.rules n ≡ Some rule → mend_rule_refusal b n ≡ None
    → IsMendableText b.cast rule.body
body_ready mentioned b formed n rule there h =
    let parts = names_free b n rule there h in
    let each = parts.0 in
    record {
      marks = (formed_at b formed n rule there).body.indices;
      in_cast = has_roles mentioned (place.Rule n) b.cast rule.body each.0;
      no_self_message = to_others (place.Rule n) rule.body each.1.0;
      free = parts.2;
    }

at_rule_number : (b : PlainBundle) → first_mend_refusal (map (mend_rule_refusal b) (rule_numbers b)) ≡ None → (n : ℕ) (rule : PlainRule) → slice_get b.rules n ≡ Some rule
    → mend_rule_refusal b n ≡ None
at_rule_number b h n rule there =
    let same : n ≡ 0 + n = omega arith in
    ap (mend_rule_refusal b) same ∙ at_number (mend_rule_refusal b) 0 (length b.rules) n h (slice_get_within b.rules n rule there)

-- a rule whose names are free
pub rule_mendable : (b : PlainBundle) → IsFormed b → first_mend_refusal (map (mend_rule_refusal b) (rule_numbers b)) ≡ None → (n : ℕ) (rule : PlainRule)
    → slice_get b.rules n ≡ Some rule → IsMendableRule rule
rule_mendable b formed h n rule there =
    let names = names_free b n rule there (at_rule_number b h n rule there) in
    record {
      marks = (formed_at b formed n rule there).body.indices;
      free = names.2;
      condition = names.1;
    }

pub rules_ready : MentionsAreRoles → (b : PlainBundle) → IsFormed b → first_mend_refusal (map (mend_rule_refusal b) (rule_numbers b)) ≡ None → AreMendableBodies b
rules_ready mentioned b formed h n rule there =
    body_ready mentioned b formed n rule there (at_rule_number b h n rule there)

-- The mended bodies
pub small_at : (b : PlainBundle) → first_mend_refusal (map (mended_body_refusal b) (rule_numbers b)) ≡ None → (n : ℕ) (rule : PlainRule)
    → slice_get b.rules n ≡ Some rule
    → (nodes (mended b.cast rule.body) ≤ most_body_nodes) × (depth (mended b.cast rule.body) ≤ most_body_depth)
small_at b h n rule there =
    let same : n ≡ 0 + n = omega arith in
    let test : mended_body_refusal b n ≡ None
    = ap (mended_body_refusal b) same ∙ at_number (mended_body_refusal b) 0 (length b.rules) n h (slice_get_within b.rules n rule there) in
    small n (mended b.cast rule.body) (none_refused (body_too_big n (mended b.cast rule.body)) (sym (ap (body_of b.cast n) there) ∙ test))
