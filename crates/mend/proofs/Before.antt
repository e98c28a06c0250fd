-- What the first refusal of all tests of `rule_checks` says of those that come before mending.
use Rattle.std.proofs.Common.{◌≡◌, ◌∙◌, ℕ, List, [], ◌∷◌, ◌++◌, Bool, true, false, ◌||◌, if◌then◌else◌, not, map, Option, Some, None, refl, sym, ap}
use Rattle.std.specs.Prelude.{find, length, nat_lt, slice_get}
use Rattle.dioc_terms.specs.Bundles.{numbers_from}
use Rattle.std.proofs.lemmas.Bool.{both_ways}
use Rattle.dioc_terms.specs.declared.names.Role.{Role}
use Rattle.dioc_terms.specs.declared.names.Index.{Index}
use Rattle.dioc_terms.specs.declared.values.Value.{Value}
use Rattle.dioc_terms.specs.Equality.{member}
use Rattle.dioc_terms.specs.Plain.{PlainRule, PlainBundle}
use Rattle.dioc_terms.specs.Terms.{Term, mentions, self_messages, nodes, depth}
use Rattle.connectedness.specs.Connected.{Gap, first_gap}
use Rattle.limits.specs.Limits.{most_nodes, most_roles, most_rules, most_changes, most_body_nodes, most_body_depth}
use Rattle.dioc_terms.specs.Rules.{opening_book}
use Rattle.rule_checks.specs.declared.refusals.Refusal.{Refusal}
use Rattle.rule_checks.specs.declared.refusals.Refusal.TheVariants.{TooMany, UnknownRole, SelfMessage, Unlinked, BodyTooBig}
use Rattle.rule_checks.specs.declared.refusals.Where.{Where}
use Rattle.rule_checks.specs.declared.refusals.Where.TheVariants as place
use Rattle.rule_checks.specs.declared.refusals.Which.{Which}
use Rattle.rule_checks.specs.declared.refusals.Which.TheVariants.{Nodes, Roles, Rules, Changes}
use Rattle.rule_checks.specs.Answers.{IsRefusalOf}
use Rattle.rule_checks.specs.Refusals.{first_refusal, most_alive, too_many, unlinked, self_message, unknown_role, body_too_big, body_tests, rule_refusal, rules_tests, refusal}
use Rattle.mend.specs.declared.refusals.MendRefusal.TheVariants.{Refused}
use Rattle.mend.specs.Mendable.{comes_before_links, is_link}
use Rattle.mend.specs.Refusals.{refused, given_program_tests, given_body_tests, IsMendRefusalOf}
use Rattle.mend.proofs.Shapes.{some_none, some_same, role_refused, message_refused, gap_refused, rule_refused}

-- each refusal that a test has answers so
abbrev Answers : (Refusal → Bool) → Bool → Option Refusal → Type 0
Answers p t None = Unit {0}
Answers p t (Some why) = p why ≡ t

abbrev EachAnswers : (Refusal → Bool) → Bool → List (Option Refusal) → Type 0
EachAnswers p t [] = Unit {0}
EachAnswers p t (test ∷ rest) = Answers p t test × EachAnswers p t rest

first_answers : (p : Refusal → Bool) (t : Bool) (xs : List (Option Refusal)) → EachAnswers p t xs → (why : Refusal) → first_refusal xs ≡ Some why → p why ≡ t
first_answers p t [] h why e = cc
first_answers p t (None ∷ xs) h why e = first_answers p t xs h.1 why e
first_answers p t (Some w ∷ xs) h why e = sym (ap p (some_same e)) ∙ h.0

-- Tests with one answer, and after them tests with the other
none_in_front : (xs ys : List (Option Refusal)) → first_refusal (xs ++ ys) ≡ None → first_refusal xs ≡ None
none_in_front [] ys h = refl
none_in_front (None ∷ xs) ys h = none_in_front xs ys h
none_in_front (Some why ∷ xs) ys h = some_none h

some_in_front : (p : Refusal → Bool) (xs ys : List (Option Refusal)) (why : Refusal) → EachAnswers p false ys → first_refusal (xs ++ ys) ≡ Some why → p why ≡ true
    → first_refusal xs ≡ Some why
some_in_front p [] ys why all h comes = absurd (both_ways (p why) (first_answers p false ys all why h) comes)
some_in_front p (None ∷ xs) ys why all h comes = some_in_front p xs ys why all h comes
some_in_front p (Some w ∷ xs) ys why all h comes = h

none_in_front_of : (p : Refusal → Bool) (xs ys : List (Option Refusal)) (why : Refusal) → EachAnswers p true xs → first_refusal (xs ++ ys) ≡ Some why → p why ≡ false
    → first_refusal xs ≡ None
none_in_front_of p [] ys why all h fails = refl
none_in_front_of p (None ∷ xs) ys why all h fails = none_in_front_of p xs ys why all.1 h fails
none_in_front_of p (Some w ∷ xs) ys why all h fails = absurd (both_ways (p why) fails (sym (ap p (some_same h)) ∙ all.0))

-- What each test answers
too_many-answers : (which : Which) (most n : ℕ) → Answers comes_before_links true (too_many which most n)
too_many-answers which most n = by (nat_lt most n)
  where
    by : (t : Bool) → Answers comes_before_links true (if t then Some (TooMany which) else None)
    by true = refl
    by false = tt

role-answers : (p : Refusal → Bool) (t : Bool) (at : Where) → ((q : Role) → p (UnknownRole at q) ≡ t) → (o : Option Role) → Answers p t (role_refused at o)
role-answers p t at h None = tt
role-answers p t at h (Some q) = h q

unknown-answers : (p : Refusal → Bool) (t : Bool) (at : Where) → ((q : Role) → p (UnknownRole at q) ≡ t) → (cast roles : List Role) → Answers p t (unknown_role at cast roles)
unknown-answers p t at h cast roles = role-answers p t at h (find (λ q. not (member q cast)) roles)

message-answers : (p : Refusal → Bool) (t : Bool) (at : Where) → ((i : Index) → p (SelfMessage at i) ≡ t) → (is : List Index) → Answers p t (message_refused at is)
message-answers p t at h [] = tt
message-answers p t at h (i ∷ rest) = h i

self-answers : (p : Refusal → Bool) (t : Bool) (at : Where) → ((i : Index) → p (SelfMessage at i) ≡ t) → (I : Term) → Answers p t (self_message at I)
self-answers p t at h I = message-answers p t at h (self_messages I)

gap-answers : (p : Refusal → Bool) (t : Bool) (at : Where) → ((i j : Index) (q : Role) → p (Unlinked at i j q) ≡ t) → (o : Option Gap) → Answers p t (gap_refused at o)
gap-answers p t at h None = tt
gap-answers p t at h (Some gap) = h gap.first gap.second gap.role

unlinked-answers : (p : Refusal → Bool) (t : Bool) (at : Where) → ((i j : Index) (q : Role) → p (Unlinked at i j q) ≡ t) → (cast : List Role) (I : Term)
    → Answers p t (unlinked at cast I)
unlinked-answers p t at h cast I = gap-answers p t at h (first_gap cast I)

size-answers : (p : Refusal → Bool) (t : Bool) (n : ℕ) → p (BodyTooBig n) ≡ t → (I : Term) → Answers p t (body_too_big n I)
size-answers p t n h I = by (nat_lt most_body_nodes (nodes I) || nat_lt most_body_depth (depth I))
  where
    by : (b : Bool) → Answers p t (if b then Some (BodyTooBig n) else None)
    by true = h
    by false = tt

body-answers : (cast : List Role) (n : ℕ) (I : Term) → EachAnswers comes_before_links false (body_tests cast n I)
body-answers cast n I = (
  unknown-answers comes_before_links false (place.Rule n) (λ q. refl) cast (mentions I),
  (
    self-answers comes_before_links false (place.Rule n) (λ i. refl) I,
    (unlinked-answers comes_before_links false (place.Rule n) (λ i j q. refl) cast I, (size-answers comes_before_links false n refl I, tt)),
  ),
)

rule-answers : (b : PlainBundle) (n : ℕ) → Answers comes_before_links false (rule_refusal b n)
rule-answers b n = by (slice_get b.rules n)
  where
    of_first : (xs : List (Option Refusal)) → EachAnswers comes_before_links false xs → (o : Option Refusal) → first_refusal xs ≡ o → Answers comes_before_links false o
    of_first xs all None e = tt
    of_first xs all (Some why) e = first_answers comes_before_links false xs all why e

    by : (o : Option PlainRule) → Answers comes_before_links false (rule_refused b.cast n o)
    by None = tt
    by (Some rule) =
        of_first (body_tests b.cast n rule.body) (body-answers b.cast n rule.body) (first_refusal (body_tests b.cast n rule.body)) refl

rules-answer : (b : PlainBundle) (ns : List ℕ) → EachAnswers comes_before_links false (map (rule_refusal b) ns)
rules-answer b [] = tt
rules-answer b (n ∷ ns) = (rule-answers b n, rules-answer b ns)

-- The tests of the program
program-answers : (b : PlainBundle) → EachAnswers comes_before_links true (given_program_tests b)
program-answers b = (
  too_many-answers Nodes most_nodes (nodes b.choreo),
  (
    too_many-answers Roles most_roles (length b.cast),
    (
      too_many-answers Rules most_rules (most_alive b.rules (opening_book b.rules b.opening b.env) b.script),
      (
        too_many-answers Changes most_changes (length b.script),
        (
          unknown-answers comes_before_links true place.Program (λ q. refl) b.cast (map (λ (given : Role × List Value). given.0) b.inputs),
          (self-answers comes_before_links true place.Program (λ i. refl) b.choreo, tt),
        ),
      ),
    ),
  ),
)

links-answer : (b : PlainBundle) → EachAnswers comes_before_links false (unlinked place.Program b.cast b.choreo ∷ rules_tests b)
links-answer b = (
  unlinked-answers comes_before_links false place.Program (λ i j q. refl) b.cast b.choreo,
  rules-answer b (numbers_from 0 (length b.rules)),
)

pub program_passed : (b : PlainBundle) → refusal b ≡ None → first_refusal (given_program_tests b) ≡ None
program_passed b h = none_in_front (given_program_tests b) (unlinked place.Program b.cast b.choreo ∷ rules_tests b) h

pub program_told : (b : PlainBundle) (why : Refusal) → IsRefusalOf (refusal b) why → comes_before_links why ≡ true
    → IsMendRefusalOf (refused (first_refusal (given_program_tests b))) (Refused why)
program_told b why h comes told = ap refused
    (some_in_front comes_before_links (given_program_tests b) (unlinked place.Program b.cast b.choreo ∷ rules_tests b) why (links-answer b)
    (h (λ e. told (ap Refused e))) comes)

pub program_behind : (b : PlainBundle) (why : Refusal) → IsRefusalOf (refusal b) why → comes_before_links why ≡ false → first_refusal (given_program_tests b) ≡ None
program_behind b why h fails =
    none_in_front_of comes_before_links (given_program_tests b) (unlinked place.Program b.cast b.choreo ∷ rules_tests b) why (program-answers b)
    (h (λ e. both_ways (comes_before_links why) fails (ap comes_before_links e))) fails

-- The tests of a body without the one for links
body_passed : (u s l z : Option Refusal) → first_refusal (u ∷ s ∷ l ∷ z ∷ []) ≡ None → first_refusal (u ∷ s ∷ z ∷ []) ≡ None
body_passed (Some w) s l z h = some_none h
body_passed None (Some w) l z h = some_none h
body_passed None None (Some w) z h = some_none h
body_passed None None None z h = h

body_refused : (u s l z : Option Refusal) (why : Refusal) → Answers is_link true l → first_refusal (u ∷ s ∷ l ∷ z ∷ []) ≡ Some why → is_link why ≡ false
    → first_refusal (u ∷ s ∷ z ∷ []) ≡ Some why
body_refused (Some w) s l z why link h fails = h
body_refused None (Some w) l z why link h fails = h
body_refused None None (Some w) z why link h fails = absurd (both_ways (is_link why) fails (sym (ap is_link (some_same h)) ∙ link))
body_refused None None None z why link h fails = h

only_size : (z : Option Refusal) → first_refusal (None ∷ None ∷ z ∷ []) ≡ z
only_size None = refl
only_size (Some w) = refl

body_unlinked : (u s l z : Option Refusal) (why : Refusal) → Answers is_link false u → Answers is_link false s → first_refusal (u ∷ s ∷ l ∷ z ∷ []) ≡ Some why
    → is_link why ≡ true → first_refusal (u ∷ s ∷ z ∷ []) ≡ z
body_unlinked (Some w) s l z why first second h link = absurd (both_ways (is_link why) (sym (ap is_link (some_same h)) ∙ first) link)
body_unlinked None (Some w) l z why first second h link = absurd (both_ways (is_link why) (sym (ap is_link (some_same h)) ∙ second) link)
body_unlinked None None l z why first second h link = only_size z

module _ (b : PlainBundle) (n : ℕ) (rule : PlainRule) (there : slice_get b.rules n ≡ Some rule) where
  at_rule : rule_refusal b n ≡ first_refusal (body_tests b.cast n rule.body)
  at_rule = ap (rule_refused b.cast n) there

  abbrev u : Option Refusal
  u = unknown_role (place.Rule n) b.cast (mentions rule.body)

  abbrev s : Option Refusal
  s = self_message (place.Rule n) rule.body

  abbrev l : Option Refusal
  l = unlinked (place.Rule n) b.cast rule.body

  abbrev z : Option Refusal
  z = body_too_big n rule.body

  pub rule_passed : rule_refusal b n ≡ None → first_refusal (given_body_tests b.cast n rule.body) ≡ None
  rule_passed h = body_passed u s l z (sym at_rule ∙ h)

  pub rule_told : (why : Refusal) → IsRefusalOf (rule_refusal b n) why → is_link why ≡ false
      → IsMendRefusalOf (refused (first_refusal (given_body_tests b.cast n rule.body))) (Refused why)
  rule_told why h fails told = ap refused
      (body_refused u s l z why (unlinked-answers is_link true (place.Rule n) (λ i j q. refl) b.cast rule.body)
      (sym at_rule ∙ h (λ e. told (ap Refused e))) fails)

  pub rule_unlinked : (why : Refusal) → IsRefusalOf (rule_refusal b n) why → is_link why ≡ true
      → first_refusal (given_body_tests b.cast n rule.body) ≡ body_too_big n rule.body
  rule_unlinked why h link =
      body_unlinked u s l z why (unknown-answers is_link false (place.Rule n) (λ q. refl) b.cast (mentions rule.body))
      (self-answers is_link false (place.Rule n) (λ i. refl) rule.body)
      (sym at_rule ∙ h (λ e. both_ways (is_link why) (ap is_link e) link)) link
