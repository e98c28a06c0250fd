-- A bundle that isn't refused is accepted once it is mended.
use Rattle.std.proofs.Common.{◌≡◌, ◌<◌, ◌≤◌, ◌+◌, ◌-◌, ◌∙◌, ℕ, zero, suc, List, [], ◌∷◌, ◌++◌, Bool, true, false, inl, inr, not, Option, Some, None, All, length, map, get_or, refl, sym, ap, subst, arith}
use Rattle.std.specs.Prelude.{find, nat_lt, pos, slice_get}
use Rattle.std.specs.List.{list_all}
use Rattle.std.specs.Ordering.{int_eq}
use Rattle.std.proofs.lemmas.Bool.{and_from, and_parts, le-ltb, ltb-false, or_left, or_right}
use Rattle.std.proofs.lemmas.List.{length-map}
use Rattle.std.proofs.lemmas.Option.{slice_get-get_or, get_or_from_slice_get}
use Rattle.dioc_terms.specs.declared.names.Role.{Role}
use Rattle.dioc_terms.specs.declared.values.Value.{Value}
use Rattle.dioc_terms.specs.Bundles.{IsFormed, IsFormedTerm, IsFormedRule, IsOfVersion, numbers_from, has_no_priority, is_formed_role, names_no_roles}
use Rattle.dioc_terms.specs.Equality.{role_eq, member}
use Rattle.dioc_terms.specs.EqualityLemmas.{role_eq-decides}
use Rattle.dioc_terms.specs.Plain.{PlainRule, PlainBundle}
use Rattle.dioc_terms.specs.TermLaws.{MentionsAreRoles, CastsAreRoles}
use Rattle.dioc_terms.specs.Terms.{Term, mentions, self_messages, nodes, depth}
use Rattle.connectedness.specs.Connected.{first_gap}
use Rattle.connectedness.specs.Laws.{GapsAreFound, HasRoles}
use Rattle.limits.specs.Limits.{most_nodes, most_roles, most_rules, most_changes, most_depth, most_body_nodes, most_body_depth}
use Rattle.rule_checks.specs.declared.refusals.Refusal.{Refusal}
use Rattle.rule_checks.specs.declared.refusals.Where.{Where}
use Rattle.rule_checks.specs.declared.refusals.Where.TheVariants as place
use Rattle.rule_checks.specs.declared.refusals.Which.{Which}
use Rattle.rule_checks.specs.declared.refusals.Which.TheVariants.{Nodes, Roles, Rules, Changes}
use Rattle.rule_checks.specs.Refusals.{IsAccepted, first_refusal, too_many, too_many_alive, unknown_role, self_message, unlinked, body_too_big, body_tests, rule_refusal, limit_tests, program_tests, rules_tests}
use Rattle.mend.specs.Laws.{MendedConnected}
use Rattle.mend.specs.Mended.{mended}
use Rattle.mend.specs.Traces.{mended_rule, mended_bundle}
use Rattle.mend.specs.declared.refusals.MendRefusal.{MendRefusal}
use Rattle.mend.specs.Laws.{MendedAccepted}
use Rattle.mend.specs.Mendable.{IsMendableText, AreMendableBodies}
use Rattle.mend.specs.Refusals.{first_mend_refusal, refused, too_deep, mend_program_tests, mend_rule_refusal, rule_numbers, mended_size_tests, mended_body_refusal, mended_tests, mend_refusal}
use Rattle.mend.proofs.BundleBooks.{none_at, some_at, same_alive}
use Rattle.mend.proofs.FormedTexts.{mended-marks, mended-formed, cast-formed, mended-plain}
use Rattle.mend.proofs.Passed.{program_none, program_ready, rules_ready, small_at, formed_at, shallow}
use Rattle.mend.proofs.BundleSizes.{no_more}
use Rattle.mend.proofs.Tests.{both_none, none_refused}
use Rattle.mend.proofs.Shapes.{some_none, role_refused, message_refused, gap_refused, rule_refused}

-- Lists of tests of `rule_checks`
none_both : (xs ys : List (Option Refusal)) → first_refusal xs ≡ None → first_refusal ys ≡ None → first_refusal (xs ++ ys) ≡ None
none_both [] ys h k = k
none_both (None ∷ xs) ys h k = none_both xs ys h k
none_both (Some why ∷ xs) ys h k = some_none h

none_more : (test : Option Refusal) (rest : List (Option Refusal)) → test ≡ None → first_refusal rest ≡ None → first_refusal (test ∷ rest) ≡ None
none_more test rest e h = rw e h

few : (which : Which) (most n : ℕ) → too_many which most n ≡ None → n ≤ most
few which most n h = by (nat_lt most n) refl h
  where
    by : (b : Bool) → nat_lt most n ≡ b → too_many which most n ≡ None → n ≤ most
    by true e k = some_none (rw e at k)
    by false e k = ltb-false most n e

is_few : (which : Which) (most n : ℕ) → n ≤ most → too_many which most n ≡ None
is_few which most n h = rw (le-ltb most n h) refl

none_found : (p : Role → Bool) (roles : List Role) → ((q : Role) → member q roles ≡ true → p q ≡ true) → find (λ q. not (p q)) roles ≡ None
none_found p [] h = refl
none_found p (q ∷ qs) h =
    let here : p q ≡ true = h q (or_left (role_eq q q) (member q qs) ((role_eq-decides q q).1 refl)) in
    rw here (none_found p qs (λ r is. h r (or_right (role_eq r q) (member r qs) is)))

is_known : (at : Where) (cast : List Role) (roles : List Role) → ((q : Role) → member q roles ≡ true → member q cast ≡ true) → unknown_role at cast roles ≡ None
is_known at cast roles h = ap (role_refused at) (none_found (λ q. member q cast) roles h)

is_to_others : (at : Where) (I : Term) → self_messages I ≡ [] → self_message at I ≡ None
is_to_others at I h = ap (message_refused at) h

is_linked : (at : Where) (cast : List Role) (I : Term) → first_gap cast I ≡ None → unlinked at cast I ≡ None
is_linked at cast I h = ap (gap_refused at) h

is_small : (n : ℕ) (I : Term) → nodes I ≤ most_body_nodes → depth I ≤ most_body_depth → body_too_big n I ≡ None
is_small n I h k = rw (le-ltb most_body_nodes (nodes I) h, le-ltb most_body_depth (depth I) k) refl

-- Numbers of rules
module _ (t : ℕ → Option Refusal) where
  each_number : (n count : ℕ) → ((k : ℕ) → k < count → t (n + k) ≡ None) → first_refusal (map t (numbers_from n count)) ≡ None
  each_number n zero h = refl
  each_number n (suc count) h =
      let first : n ≡ n + 0 = omega arith in
      none_more (t n) (map t (numbers_from (suc n) count)) (ap t first ∙ h 0 (omega arith))
      (each_number (suc n) count (λ k inside. ap t (moved n k) ∙ h (suc k) (omega (arith, inside))))
    where
      moved : (m k : ℕ) → suc m + k ≡ m + suc k
      moved m k = omega arith

-- what holds of each mended rule holds of all
all_mended : (P : PlainRule → Type 0) (cast : List Role) (rules : List PlainRule) → ((n : ℕ) (rule : PlainRule) → slice_get rules n ≡ Some rule → P (mended_rule cast rule))
    → All P (map (mended_rule cast) rules)
all_mended P cast rules h k d inside = by (slice_get rules k) refl
  where
    by : (o : Option PlainRule) → slice_get rules k ≡ o → P (get_or (map (mended_rule cast) rules) k d)
    by None e = some_none (sym (slice_get-get_or (map (mended_rule cast) rules) k d inside) ∙ none_at cast rules k e)
    by (Some rule) e =
        subst P (sym (get_or_from_slice_get (map (mended_rule cast) rules) k (mended_rule cast rule) d (some_at cast rules k rule e))) (h k rule e)

plain_rules : (cast : List Role) (rules : List PlainRule) → list_all has_no_priority rules ≡ true → list_all has_no_priority (map (mended_rule cast) rules) ≡ true
plain_rules cast [] h = refl
plain_rules cast (rule ∷ rules) h =
    let parts = and_parts (has_no_priority rule) (list_all has_no_priority rules) h in
    let here = and_parts (int_eq rule.priority (pos 0)) (names_no_roles rule.body) parts.0 in
    and_from (has_no_priority (mended_rule cast rule)) (list_all has_no_priority (map (mended_rule cast) rules))
    (and_from (int_eq rule.priority (pos 0)) (names_no_roles (mended cast rule.body)) here.0 (mended-plain cast rule.body here.1))
    (plain_rules cast rules parts.1)

module _ (mentioned : MentionsAreRoles) (casts : CastsAreRoles) (gaps : GapsAreFound) (connects : MendedConnected)
    (b : PlainBundle) (formed : IsFormed b) (none : mend_refusal b ≡ None) where
  abbrev D : PlainBundle
  D = mended_bundle b

  abbrev I : Term
  I = mended b.cast b.choreo

  parts : (first_mend_refusal (mend_program_tests b) ≡ None) × (first_mend_refusal (map (mend_rule_refusal b) (rule_numbers b) ++ mended_tests b) ≡ None)
  parts = both_none (mend_program_tests b) (map (mend_rule_refusal b) (rule_numbers b) ++ mended_tests b) none

  later : (first_mend_refusal (map (mend_rule_refusal b) (rule_numbers b)) ≡ None) × (first_mend_refusal (mended_tests b) ≡ None)
  later = both_none (map (mend_rule_refusal b) (rule_numbers b)) (mended_tests b) parts.1

  last : (first_mend_refusal (mended_size_tests I) ≡ None) × (first_mend_refusal (map (mended_body_refusal b) (rule_numbers b)) ≡ None)
  last = both_none (mended_size_tests I) (map (mended_body_refusal b) (rule_numbers b)) later.1

  one_none : (o : Option MendRefusal) → first_mend_refusal (o ∷ []) ≡ None → o ≡ None
  one_none None h = refl
  one_none (Some why) h = some_none h

  sizes : (first_mend_refusal (refused (too_many Nodes most_nodes (nodes I)) ∷ []) ≡ None) × (first_mend_refusal (too_deep I ∷ []) ≡ None)
  sizes = both_none (refused (too_many Nodes most_nodes (nodes I)) ∷ []) (too_deep I ∷ []) last.0

  few_nodes : too_many Nodes most_nodes (nodes I) ≡ None
  few_nodes = none_refused (too_many Nodes most_nodes (nodes I)) (one_none (refused (too_many Nodes most_nodes (nodes I))) sizes.0)

  not_deep : depth I ≤ most_depth
  not_deep = shallow I (one_none (too_deep I) sizes.1)

  ready : IsMendableText b.cast b.choreo
  ready = program_ready casts b formed parts.0

  bodies_ready : AreMendableBodies b
  bodies_ready = rules_ready mentioned b formed later.0

  cast_formed : list_all is_formed_role b.cast ≡ true
  cast_formed = ap (list_all is_formed_role) formed.cast ∙ cast-formed b.choreo formed.choreo.parts

  -- the cast has the same roles
  same_cast : (q : Role) → member q D.cast ≡ member q b.cast
  same_cast q =
      casts.same q I ∙ (connects.same_roles b.cast b.choreo q ∙ (sym (casts.same q b.choreo) ∙ ap (member q) (sym formed.cast)))

  no_longer : length D.cast ≤ length b.cast
  no_longer = no_more D.cast b.cast (casts.distinct I) (λ q is. sym (same_cast q) ∙ is)

  choreo_formed : IsFormedTerm I
  choreo_formed =
      let small : nodes I ≤ most_nodes = few Nodes most_nodes (nodes I) few_nodes in
      record {
        indices = mended-marks b.cast b.choreo;
        parts = mended-formed b.cast b.choreo cast_formed formed.choreo.parts (omega (arith, small));
        depth = not_deep;
      }

  rule_formed : (n : ℕ) (rule : PlainRule) → slice_get b.rules n ≡ Some rule → IsFormedRule (mended_rule b.cast rule)
  rule_formed n rule there =
      let was = formed_at b formed n rule there in
      let small = small_at b last.1 n rule there in
      let nodes_small : nodes (mended b.cast rule.body) ≤ most_body_nodes = small.0 in
      let depth_small : depth (mended b.cast rule.body) ≤ most_body_depth = small.1 in
      record {
        name = was.name;
        least = was.least;
        most = was.most;
        condition = was.condition;
        body = record {
          indices = mended-marks b.cast rule.body;
          parts = mended-formed b.cast rule.body cast_formed was.body.parts (omega (arith, nodes_small));
          depth = omega (arith, depth_small);
        };
      }

  version_kept : IsOfVersion b.version b → IsOfVersion b.version D
  version_kept (inl first) = inl (first.0, mended-plain b.cast b.choreo first.1, plain_rules b.cast b.rules first.2)
  version_kept (inr second) = inr second

  as_many : length D.rules ≡ length b.rules
  as_many = length-map b.rules (mended_rule b.cast)

  mended_formed : IsFormed D
  mended_formed = record {
    version = version_kept formed.version;
    cast = refl;
    choreo = choreo_formed;
    rules = all_mended IsFormedRule b.cast b.rules rule_formed;
    opening = subst (λ n. b.opening ≤ n) (sym as_many) formed.opening;
    added = formed.added ∙ ap (λ n. numbers_from b.opening (n - b.opening)) (sym as_many);
    env = formed.env;
    inputs = formed.inputs;
    script = formed.script;
    trace = formed.trace;
    last = formed.last;
  }

  has_mended_roles : (body : Term) → HasRoles b.cast body → HasRoles D.cast (mended b.cast body)
  has_mended_roles body has q is = same_cast q ∙ has q (sym (connects.same_roles b.cast body q) ∙ is)

  body_accepted : (n : ℕ) (rule : PlainRule) → slice_get b.rules n ≡ Some rule → first_refusal (body_tests D.cast n (mended b.cast rule.body)) ≡ None
  body_accepted n rule there =
      let body = mended b.cast rule.body in
      let was = bodies_ready n rule there in
      let small = small_at b last.1 n rule there in
      none_more (unknown_role (place.Rule n) D.cast (mentions body))
      (self_message (place.Rule n) body ∷ unlinked (place.Rule n) D.cast body ∷ body_too_big n body ∷ [])
      (is_known (place.Rule n) D.cast (mentions body) (λ q is. has_mended_roles rule.body was.in_cast q (mentioned q body ∙ is)))
      (none_more (self_message (place.Rule n) body) (unlinked (place.Rule n) D.cast body ∷ body_too_big n body ∷ [])
      (is_to_others (place.Rule n) body (connects.no_self_message b.cast rule.body was.no_self_message))
      (none_more (unlinked (place.Rule n) D.cast body) (body_too_big n body ∷ [])
      (is_linked (place.Rule n) D.cast body (gaps.none D.cast body (connects.links b.cast rule.body was.in_cast)))
      (none_more (body_too_big n body) [] (is_small n body small.0 small.1) refl)))

  rule_accepted : (n : ℕ) → rule_refusal D n ≡ None
  rule_accepted n = by (slice_get b.rules n) refl
    where
      by : (o : Option PlainRule) → slice_get b.rules n ≡ o → rule_refusal D n ≡ None
      by None e = ap (rule_refused D.cast n) (none_at b.cast b.rules n e)
      by (Some rule) e = ap (rule_refused D.cast n) (some_at b.cast b.rules n rule e) ∙ body_accepted n rule e

  limits_accepted : first_refusal (limit_tests D) ≡ None
  limits_accepted =
      let was = (program_none b parts.0).0 in
      let roles : length b.cast ≤ most_roles = few Roles most_roles (length b.cast) was.1.0 in
      let fewer : length D.cast ≤ length b.cast = no_longer in
      none_more (too_many Nodes most_nodes (nodes I)) (too_many Roles most_roles (length D.cast) ∷ too_many_alive D ∷ too_many Changes most_changes (length b.script) ∷ []) few_nodes
      (none_more (too_many Roles most_roles (length D.cast)) (too_many_alive D ∷ too_many Changes most_changes (length b.script) ∷ [])
      (is_few Roles most_roles (length D.cast) (omega (arith, roles, fewer)))
      (none_more (too_many_alive D) (too_many Changes most_changes (length b.script) ∷ [])
      (ap (too_many Rules most_rules) (same_alive b.cast b.rules b.opening b.env b.script) ∙ was.1.1.0)
      (none_more (too_many Changes most_changes (length b.script)) [] was.1.1.1.0 refl)))

  program_accepted : first_refusal (program_tests D) ≡ None
  program_accepted =
      let was = (program_none b parts.0).0 in
      let given = map (λ (one : Role × List Value). one.0) b.inputs in
      none_more (unknown_role place.Program D.cast given) (self_message place.Program I ∷ unlinked place.Program D.cast I ∷ [])
      ((λ i. role_refused place.Program (find (λ q. not (same_cast q i)) given)) ∙ was.1.1.1.1.0)
      (none_more (self_message place.Program I) (unlinked place.Program D.cast I ∷ [])
      (is_to_others place.Program I (connects.no_self_message b.cast b.choreo ready.no_self_message))
      (none_more (unlinked place.Program D.cast I) []
      (is_linked place.Program D.cast I (gaps.none D.cast I (connects.links b.cast b.choreo ready.in_cast))) refl))

  accepted : IsAccepted D
  accepted = record {
    formed = mended_formed;
    no_refusal =
        none_both (limit_tests D) (program_tests D ++ rules_tests D) limits_accepted
        (none_both (program_tests D) (rules_tests D) program_accepted (each_number (rule_refusal D) 0 (length D.rules) (λ k inside. rule_accepted (0 + k))));
  }

pub mended-accepted : MentionsAreRoles → CastsAreRoles → GapsAreFound → MendedConnected → MendedAccepted
mended-accepted mentioned casts gaps connects b formed none = accepted mentioned casts gaps connects b formed none
