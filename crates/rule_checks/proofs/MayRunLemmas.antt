-- A bundle is accepted exactly where it may run: what each test that refuses nothing says of the bundle.
use Rattle.std.proofs.Common.{◌≡◌, ◌<◌, ◌≤◌, ◌+◌, ◌∙◌, ℕ, zero, suc, List, [], ◌∷◌, ◌++◌, Bool, true, false, ◌||◌, not, Option, Some, None, All, length, map, get_or, slice_get, refl, sym, ap, subst, arith}
use Rattle.std.specs.Prelude.{find, fold, nat_lt}
use Rattle.std.specs.List.{list_all}
use Rattle.std.proofs.lemmas.Bool.{ltb-false, le-ltb, and_parts}
use Rattle.std.proofs.lemmas.List.Folds.{list_all-map}
use Rattle.std.proofs.lemmas.Option.{slice_get-get_or, slice_get_within, get_or_from_slice_get}
use Rattle.dioc_terms.specs.declared.names.Role.{Role}
use Rattle.dioc_terms.specs.declared.names.Index.{Index}
use Rattle.dioc_terms.specs.declared.values.Value.{Value}
use Rattle.dioc_terms.specs.declared.bundles.Timed.{Timed}
use Rattle.dioc_terms.specs.Bundles.{numbers_from}
use Rattle.dioc_terms.specs.Equality.{member}
use Rattle.dioc_terms.specs.EqualityLemmas.{role_eq-decides}
use Rattle.dioc_terms.specs.Equality.{role_eq}
use Rattle.limits.specs.Limits.{most_nodes, most_roles, most_rules, most_changes, most_body_nodes, most_body_depth}
use Rattle.dioc_terms.specs.Plain.{PlainRule, PlainBundle}
use Rattle.dioc_terms.specs.Rules.{Book, apply, opening_book}
use Rattle.dioc_terms.specs.TermLaws.{MentionsAreRoles, CastsAreRoles}
use Rattle.dioc_terms.specs.Terms.{Term, mentions, self_messages, nodes, depth}
use Rattle.connectedness.specs.Connected.{Gap, first_gap}
use Rattle.connectedness.specs.Laws.{GapsAreFound, HasRoles}
use Rattle.rule_checks.specs.declared.refusals.Refusal.{Refusal}
use Rattle.rule_checks.specs.declared.refusals.Refusal.TheVariants.{SelfMessage, Unlinked}
use Rattle.rule_checks.specs.declared.refusals.Where.{Where}
use Rattle.rule_checks.specs.declared.refusals.Where.TheVariants as place
use Rattle.rule_checks.specs.declared.refusals.Which.{Which}
use Rattle.rule_checks.specs.declared.refusals.Which.TheVariants.{Nodes, Roles, Rules, Changes}
use Rattle.rule_checks.specs.Laws.{AcceptedMayRun, MayRun, MayReplace}
use Rattle.rule_checks.specs.Refusals.{IsAccepted, first_refusal, too_many, most_alive, unknown_role, self_message, unlinked, body_too_big, body_tests, rule_refusal, limit_tests, program_tests, rules_tests}
use Rattle.rule_checks.proofs.BodyLemmas.{role_refused}

-- Lists of tests
both_none : (xs ys : List (Option Refusal)) → first_refusal (xs ++ ys) ≡ None → (first_refusal xs ≡ None) × (first_refusal ys ≡ None)
both_none [] ys h = (refl, h)
both_none (None ∷ xs) ys h = both_none xs ys h
both_none (Some why ∷ xs) ys h = cc

none_both : (xs ys : List (Option Refusal)) → first_refusal xs ≡ None → first_refusal ys ≡ None → first_refusal (xs ++ ys) ≡ None
none_both [] ys h k = k
none_both (None ∷ xs) ys h k = none_both xs ys h k
none_both (Some why ∷ xs) ys h k = cc

abbrev EachNone : List (Option Refusal) → Type 0
EachNone [] = Unit {0}
EachNone (test ∷ rest) = (test ≡ None) × EachNone rest

each_none : (tests : List (Option Refusal)) → first_refusal tests ≡ None → EachNone tests
each_none [] h = tt
each_none (None ∷ rest) h = (refl, each_none rest h)
each_none (Some why ∷ rest) h = cc

none_each : (tests : List (Option Refusal)) → EachNone tests → first_refusal tests ≡ None
none_each [] h = refl
none_each (None ∷ rest) h = none_each rest h.1
none_each (Some why ∷ rest) h = let no = h.0 in cc

-- Counts
some_is : {why : Refusal} → Some why ≡ None → ⊥
some_is e = cc

few : (which : Which) (most n : ℕ) → too_many which most n ≡ None → n ≤ most
few which most n h = by (nat_lt most n) refl h
  where
    by : (b : Bool) → nat_lt most n ≡ b → too_many which most n ≡ None → n ≤ most
    by true e k = absurd (some_is (rw e at k))
    by false e k = ltb-false most n e

is_few : (which : Which) (most n : ℕ) → n ≤ most → too_many which most n ≡ None
is_few which most n h = rw (le-ltb most n h) refl

-- Rules in the book at once
module _ (rules : List PlainRule) where
  abbrev after : Book → List Timed → Book
  after book changes = fold (λ (b : Book) (timed : Timed). apply rules b timed.change) book changes

  cons_same : (t s : Timed) (ts ss : List Timed) → t ∷ ts ≡ s ∷ ss → (t ≡ s) × (ts ≡ ss)
  cons_same t s ts ss e = (cc, cc)

  now_within : (most : ℕ) (book : Book) (script : List Timed) → most_alive rules book script ≤ most → length book.order ≤ most
  now_within most book [] h = h
  now_within most book (timed ∷ rest) h = omega (arith, h)

  alive_within : (most : ℕ) (book : Book) (script before rest : List Timed) → most_alive rules book script ≤ most → script ≡ before ++ rest
      → length (after book before).order ≤ most
  alive_within most book script [] rest h e = now_within most book script h
  alive_within most book [] (timed ∷ before) rest h e = cc
  alive_within most book (first ∷ script) (timed ∷ before) rest h e =
      let same = cons_same first timed script (before ++ rest) e in
      subst (λ t. length (after (apply rules book t.change) before).order ≤ most) same.0
      (alive_within most (apply rules book first.change) script before rest (omega (arith, h)) same.1)

  within_alive : (most : ℕ) (book : Book) (script : List Timed) → ((before rest : List Timed) → script ≡ before ++ rest → length (after book before).order ≤ most)
      → most_alive rules book script ≤ most
  within_alive most book [] h = h [] [] refl
  within_alive most book (first ∷ script) h =
      let now = h [] (first ∷ script) refl in
      let later = within_alive most (apply rules book first.change) script (λ before rest e. h (first ∷ before) rest (ap (λ l. first ∷ l) e)) in
      omega (arith, now, later)

-- Roles
role_found : (at : Where) (o : Option Role) → role_refused at o ≡ None → o ≡ None
role_found at None h = refl
role_found at (Some q) h = cc

found_none : (p : Role → Bool) (roles : List Role) → find (λ q. not (p q)) roles ≡ None → list_all p roles ≡ true
found_none p [] h = refl
found_none p (q ∷ qs) h = by (p q) refl h (found_none p qs)
  where
    some_found : {r : Role} → Some r ≡ None → ⊥
    some_found e = cc

    by : (t : Bool) → p q ≡ t → find (λ r. not (p r)) (q ∷ qs) ≡ None → (find (λ r. not (p r)) qs ≡ None → list_all p qs ≡ true)
        → list_all p (q ∷ qs) ≡ true
    by true is k more = rw is (more (rw is at k))
    by false is k more = absurd (some_found (rw is at k))

none_found : (p : Role → Bool) (roles : List Role) → list_all p roles ≡ true → find (λ q. not (p q)) roles ≡ None
none_found p [] h = refl
none_found p (q ∷ qs) h =
    let parts = and_parts (p q) (list_all p qs) h in
    rw parts.0 (none_found p qs parts.1)

pub known : (at : Where) (cast roles : List Role) → unknown_role at cast roles ≡ None → list_all (λ q. member q cast) roles ≡ true
known at cast roles h = found_none (λ q. member q cast) roles (role_found at (find (λ q. not (member q cast)) roles) h)

is_known : (at : Where) (cast roles : List Role) → list_all (λ q. member q cast) roles ≡ true → unknown_role at cast roles ≡ None
is_known at cast roles h = ap (role_refused at) (none_found (λ q. member q cast) roles h)

-- Messages of a role to itself
abbrev message_refused : Where → List Index → Option Refusal
message_refused at [] = None
message_refused at (i ∷ rest) = Some (SelfMessage at i)

message_found : (at : Where) (is : List Index) → message_refused at is ≡ None → is ≡ []
message_found at [] h = refl
message_found at (i ∷ rest) h = cc

to_others : (at : Where) (I : Term) → self_message at I ≡ None → self_messages I ≡ []
to_others at I h = message_found at (self_messages I) h

is_to_others : (at : Where) (I : Term) → self_messages I ≡ [] → self_message at I ≡ None
is_to_others at I h = ap (message_refused at) h

-- Gaps
abbrev gap_refused : Where → Option Gap → Option Refusal
gap_refused at None = None
gap_refused at (Some gap) = Some (Unlinked at gap.first gap.second gap.role)

gap_found : (at : Where) (o : Option Gap) → gap_refused at o ≡ None → o ≡ None
gap_found at None h = refl
gap_found at (Some gap) h = cc

no_gap : (at : Where) (cast : List Role) (I : Term) → unlinked at cast I ≡ None → first_gap cast I ≡ None
no_gap at cast I h = gap_found at (first_gap cast I) h

is_linked : (at : Where) (cast : List Role) (I : Term) → first_gap cast I ≡ None → unlinked at cast I ≡ None
is_linked at cast I h = ap (gap_refused at) h

-- Sizes of bodies
small : (n : ℕ) (I : Term) → body_too_big n I ≡ None → (nodes I ≤ most_body_nodes) × (depth I ≤ most_body_depth)
small n I h = by (nat_lt most_body_nodes (nodes I)) refl (nat_lt most_body_depth (depth I)) refl h
  where
    by : (b : Bool) → nat_lt most_body_nodes (nodes I) ≡ b → (c : Bool) → nat_lt most_body_depth (depth I) ≡ c → body_too_big n I ≡ None
        → (nodes I ≤ most_body_nodes) × (depth I ≤ most_body_depth)
    by true e c k none = absurd (some_is (rw e at none))
    by false e true k none = absurd (some_is (rw (e, k) at none))
    by false e false k none = (ltb-false most_body_nodes (nodes I) e, ltb-false most_body_depth (depth I) k)

is_small : (n : ℕ) (I : Term) → nodes I ≤ most_body_nodes → depth I ≤ most_body_depth → body_too_big n I ≡ None
is_small n I h k = rw (le-ltb most_body_nodes (nodes I) h, le-ltb most_body_depth (depth I) k) refl

-- Numbers of rules
module _ (t : ℕ → Option Refusal) where
  at_number : (n count k : ℕ) → first_refusal (map t (numbers_from n count)) ≡ None → k < count → t (n + k) ≡ None
  at_number n zero k h inside = absurd (omega (arith, inside))
  at_number n (suc count) k h inside =
      let each = both_none (t n ∷ []) (map t (numbers_from (suc n) count)) h in
      by k inside (each_none (t n ∷ []) each.0).0 (λ j within. at_number (suc n) count j each.1 within)
    where
      by : (j : ℕ) → j < suc count → t n ≡ None → ((i : ℕ) → i < count → t (suc n + i) ≡ None) → t (n + j) ≡ None
      by zero within now later =
          let same : n + 0 ≡ n = omega arith in
          ap t same ∙ now
      by (suc j) within now later =
          let same : n + suc j ≡ suc n + j = omega arith in
          ap t same ∙ later j (omega (arith, within))

  each_number : (n count : ℕ) → ((k : ℕ) → k < count → t (n + k) ≡ None) → first_refusal (map t (numbers_from n count)) ≡ None
  each_number n zero h = refl
  each_number n (suc count) h =
      let first : n ≡ n + 0 = omega arith in
      none_both (t n ∷ []) (map t (numbers_from (suc n) count)) (none_each (t n ∷ []) (ap t first ∙ h 0 (omega arith), tt))
      (each_number (suc n) count (λ k inside. ap t (moved n k) ∙ h (suc k) (omega (arith, inside))))
    where
      moved : (m k : ℕ) → suc m + k ≡ m + suc k
      moved m k = omega arith

abbrev rule_refused : List Role → ℕ → Option PlainRule → Option Refusal
rule_refused cast n None = None
rule_refused cast n (Some rule) = first_refusal (body_tests cast n rule.body)

-- a role that is one of those that pass a test passes it
passes : (f : Role → Bool) (rs : List Role) (q : Role) → list_all f rs ≡ true → member q rs ≡ true → f q ≡ true
passes f [] q h k = cc
passes f (r ∷ rs) q h k =
    let parts = and_parts (f r) (list_all f rs) h in
    by (role_eq q r) refl k parts.0 (λ j. passes f rs q parts.1 j)
  where
    by : (b : Bool) → role_eq q r ≡ b → (b || member q rs) ≡ true → f r ≡ true → (member q rs ≡ true → f q ≡ true) → f q ≡ true
    by true e j now later = ap f ((role_eq-decides q r).0 e) ∙ now
    by false e j now later = later j

pub has_roles : MentionsAreRoles → (cast : List Role) (I : Term) → list_all (λ q. member q cast) (mentions I) ≡ true → HasRoles cast I
has_roles mentioned cast I h q is = passes (λ r. member r cast) (mentions I) q h (sym (mentioned q I) ∙ is)

module _ (mentioned : MentionsAreRoles) (casts : CastsAreRoles) (gaps : GapsAreFound) where
  body_passes : (cast : List Role) (n : ℕ) (body : Term) → first_refusal (body_tests cast n body) ≡ None → MayReplace cast body
  body_passes cast n body h =
      let each = each_none (body_tests cast n body) h in
      let in_cast = known (place.Rule n) cast (mentions body) each.0 in
      let size = small n body each.1.1.1.0 in
      record {
        in_cast = in_cast;
        no_self_message = to_others (place.Rule n) body each.1.0;
        connected = gaps.found cast body (has_roles mentioned cast body in_cast) (no_gap (place.Rule n) cast body each.1.1.0);
        nodes = size.0;
        depth = size.1;
      }

  passes_body : (cast : List Role) (n : ℕ) (body : Term) → MayReplace cast body → first_refusal (body_tests cast n body) ≡ None
  passes_body cast n body may = none_each (body_tests cast n body) (
    is_known (place.Rule n) cast (mentions body) may.in_cast,
    (
      is_to_others (place.Rule n) body may.no_self_message,
      (
        is_linked (place.Rule n) cast body (gaps.none cast body may.connected),
        (is_small n body may.nodes may.depth, tt),
      ),
    ),
  )

  bodies_pass : (b : PlainBundle) → first_refusal (rules_tests b) ≡ None → All (λ (rule : PlainRule). MayReplace b.cast rule.body) b.rules
  bodies_pass b h k d inside =
      let same : k ≡ 0 + k = omega arith in
      let at : rule_refused b.cast k (slice_get b.rules k) ≡ None = ap (rule_refusal b) same ∙ at_number (rule_refusal b) 0 (length b.rules) k h inside in
      body_passes b.cast k (get_or b.rules k d).body (ap (rule_refused b.cast k) (sym (slice_get-get_or b.rules k d inside)) ∙ at)

  pass_bodies : (b : PlainBundle) → All (λ (rule : PlainRule). MayReplace b.cast rule.body) b.rules → first_refusal (rules_tests b) ≡ None
  pass_bodies b all = each_number (rule_refusal b) 0 (length b.rules) (λ k inside. ap (rule_refusal b) (from_zero k) ∙ by k (slice_get b.rules k) refl)
    where
      from_zero : (k : ℕ) → 0 + k ≡ k
      from_zero k = omega arith

      by : (k : ℕ) (o : Option PlainRule) → slice_get b.rules k ≡ o → rule_refused b.cast k (slice_get b.rules k) ≡ None
      by k None e = ap (rule_refused b.cast k) e
      by k (Some rule) e =
          ap (rule_refused b.cast k) e
          ∙ passes_body b.cast k rule.body
          (subst (λ r. MayReplace b.cast r.body) (get_or_from_slice_get b.rules k rule rule e) (all k rule (slice_get_within b.rules k rule e)))

  cast_has : (b : PlainBundle) → IsAccepted b → HasRoles b.cast b.choreo
  cast_has b accepted q is = subst (λ cast. member q cast ≡ true) (sym accepted.formed.cast) (casts.same q b.choreo ∙ is)

  may_run : (b : PlainBundle) → IsAccepted b → MayRun b
  may_run b accepted =
      let parts = both_none (limit_tests b) (program_tests b ++ rules_tests b) accepted.no_refusal in
      let texts = both_none (program_tests b) (rules_tests b) parts.1 in
      let limits = each_none (limit_tests b) parts.0 in
      let program = each_none (program_tests b) texts.0 in
      let inputs = known place.Program b.cast (map (λ (given : Role × List Value). given.0) b.inputs) program.0 in
      record {
        formed = accepted.formed;
        nodes = few Nodes most_nodes (nodes b.choreo) limits.0;
        roles = few Roles most_roles (length b.cast) limits.1.0;
        alive = λ before rest e. alive_within b.rules most_rules (opening_book b.rules b.opening b.env) b.script before rest
            (few Rules most_rules (most_alive b.rules (opening_book b.rules b.opening b.env) b.script) limits.1.1.0) e;
        changes = few Changes most_changes (length b.script) limits.1.1.1.0;
        inputs = sym (list_all-map (λ q. member q b.cast) (λ (given : Role × List Value). given.0) b.inputs) ∙ inputs;
        no_self_message = to_others place.Program b.choreo program.1.0;
        connected = gaps.found b.cast b.choreo (cast_has b accepted) (no_gap place.Program b.cast b.choreo program.1.1.0);
        bodies = bodies_pass b texts.1;
      }

  accepted : (b : PlainBundle) → MayRun b → IsAccepted b
  accepted b is = record {
    formed = is.formed;
    no_refusal =
        none_both (limit_tests b) (program_tests b ++ rules_tests b)
        (none_each (limit_tests b) (
          is_few Nodes most_nodes (nodes b.choreo) is.nodes,
          (
            is_few Roles most_roles (length b.cast) is.roles,
            (
              is_few Rules most_rules (most_alive b.rules (opening_book b.rules b.opening b.env) b.script)
                  (within_alive b.rules most_rules (opening_book b.rules b.opening b.env) b.script is.alive),
              (is_few Changes most_changes (length b.script) is.changes, tt),
            ),
          ),
        ))
        (none_both (program_tests b) (rules_tests b)
        (none_each (program_tests b) (
          is_known place.Program b.cast (map (λ (given : Role × List Value). given.0) b.inputs)
              (list_all-map (λ q. member q b.cast) (λ (given : Role × List Value). given.0) b.inputs ∙ is.inputs),
          (
            is_to_others place.Program b.choreo is.no_self_message,
            (is_linked place.Program b.cast b.choreo (gaps.none b.cast b.choreo is.connected), tt),
          ),
        ))
        (pass_bodies b is.bodies));
  }

  pub accepted-may_run : AcceptedMayRun
  accepted-may_run b = (may_run b, accepted b)
