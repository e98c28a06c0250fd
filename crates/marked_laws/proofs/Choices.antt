-- What the book answers in a sound bundle: bodies that are proper once they are stamped, of roles of the scope.
use Rattle.std.proofs.Common.{◌≡◌, ℕ, suc, List, [], ◌∷◌, Bool, true, false, ◌&&◌, filter, nat_lt, if◌then◌else◌, Option, Some, None, slice_get, unwrap_or, All, refl, sym, ap, ◌∙◌, subst, ⊎_elim}
use Rattle.std.specs.List.{list_all}
use Rattle.std.proofs.lemmas.Bool.{and_parts, and_from, cases_Bool, cond-true, cond-false}
use Rattle.std.proofs.lemmas.Option.{slice_get_within, unwrap_or-slice_get}
use Rattle.dioc_terms.specs.declared.names.Role.{Role}
use Rattle.dioc_terms.specs.declared.processes.ScopeHead.{ScopeHead}
use Rattle.dioc_terms.specs.Plain.{PlainRule, PlainBundle, setting}
use Rattle.dioc_terms.specs.Bundles.{IsFormedRule}
use Rattle.dioc_terms.specs.Equality.{member}
use Rattle.limits.specs.Limits.{top_level}
use Rattle.dioc_terms.specs.Rules.{Book, fits, no_lower, first_greatest, choose}
use Rattle.dioc_terms.specs.Stores.{Store}
use Rattle.dioc_terms.specs.Terms.{Term, is_in, mentions, stamped, distinct_roles}
use Rattle.dioc_terms.specs.Values.{holds, bound}
use Rattle.global_steps.specs.Follow.{BookChoice, KeepsBody, TakesRule, book_choice}
use Rattle.marked_laws.specs.Laws.{IsSound, IsSoundRule}
use Rattle.network_steps.specs.Network.{Network}
use Rattle.marked_laws.proofs.MarkSteps.{SoundAnswers}
use Rattle.marked_laws.proofs.Shapes.{none_some, some_same}
use Rattle.marked_laws.proofs.Premise.{Known, all_member, proper_update}
use Rattle.marked_laws.proofs.Proper.{Proper}
use Rattle.marked_laws.proofs.Simulate.{answers_in}

-- what holds of all elements holds of the one at a place
pub all_at : {A : Type 0} (P : A → Type 0) (xs : List A) (m : ℕ) (x : A) → All P xs → slice_get xs m ≡ Some x → P x
all_at P xs m x all h = subst P (sym (unwrap_or-slice_get xs m x) ∙ ap (λ o. unwrap_or o x) h) (all m x (slice_get_within xs m x h))

filter_passes : (p : ℕ → Bool) (ms : List ℕ) → list_all p (filter p ms) ≡ true
filter_passes p [] = refl
filter_passes p (m ∷ ms) = ⊎_elim
    (λ yes. ap (list_all p) (cond-true (p m) (m ∷ filter p ms) (filter p ms) yes) ∙ and_from (p m) _ yes (filter_passes p ms))
    (λ no. ap (list_all p) (cond-false (p m) (m ∷ filter p ms) (filter p ms) no) ∙ filter_passes p ms)
    (cases_Bool (p m))

module _ (rules : List PlainRule) where
  abbrev better_of : ℕ → Option ℕ → Option ℕ
  better_of m None = Some m
  better_of m (Some n) = if no_lower rules m n then Some m else Some n

  -- what is chosen of a list passes what all its elements pass
  better_passes : (p : ℕ → Bool) (k : ℕ) (o : Option ℕ) (m : ℕ) → p k ≡ true → ((n : ℕ) → o ≡ Some n → p n ≡ true) → better_of k o ≡ Some m → p m ≡ true
  better_passes p k None m h rest is = subst (λ n. p n ≡ true) (some_same is) h
  better_passes p k (Some n) m h rest is = ⊎_elim
      (λ yes. subst (λ x. p x ≡ true) (some_same (sym (cond-true (no_lower rules k n) (Some k) (Some n) yes) ∙ is)) h)
      (λ no. rest m (sym (cond-false (no_lower rules k n) (Some k) (Some n) no) ∙ is))
      (cases_Bool (no_lower rules k n))

  greatest_passes : (p : ℕ → Bool) (ms : List ℕ) (m : ℕ) → list_all p ms ≡ true → first_greatest rules ms ≡ Some m → p m ≡ true
  greatest_passes p [] m all h = absurd (none_some h)
  greatest_passes p (k ∷ ms) m all h =
      let parts = and_parts (p k) (list_all p ms) all in
      better_passes p k (first_greatest rules ms) m parts.0 (λ n is. greatest_passes p ms n parts.1 is) h

  abbrev rule_answer : Option PlainRule → BookChoice
  rule_answer None = KeepsBody
  rule_answer (Some rule) = TakesRule rule.name rule.body

  abbrev choice_answer : Option ℕ → BookChoice
  choice_answer None = KeepsBody
  choice_answer (Some m) = rule_answer (slice_get rules m)

  abbrev rule_fits : Book → ScopeHead → Store → Option PlainRule → Bool
  rule_fits book head s None = false
  rule_fits book head s (Some rule) = holds rule.cond s (bound head.props) book.environment
      && list_all (λ q. member q head.roles) (mentions rule.body) && nat_lt head.level top_level

  -- a rule that the book answers with: its number, the rule, its body, and that it fits
  pub record Answered (book : Book) (head : ScopeHead) (s : Store) (B : Term) : Type 0 where
    pub number : ℕ
    pub rule : PlainRule
    pub stands : slice_get rules number ≡ Some rule
    pub is_body : B ≡ rule.body
    pub roles : list_all (λ q. member q head.roles) (mentions rule.body) ≡ true

  kept_replaced : {name : List ℕ} {B : Term} → KeepsBody ≡ TakesRule name B → ⊥
  kept_replaced e = cc

  same_body : {name name' : List ℕ} {B B' : Term} → TakesRule name B ≡ TakesRule name' B' → B ≡ B'
  same_body e = cc

  by_rule : (o : Option PlainRule) (name : List ℕ) (B : Term) → rule_answer o ≡ TakesRule name B → (rule : PlainRule) × (o ≡ Some rule) × (B ≡ rule.body)
  by_rule None name B h = absurd (kept_replaced h)
  by_rule (Some rule) name B h = (rule, refl, sym (same_body h))

  by_choice : (o : Option ℕ) (name : List ℕ) (B : Term) → choice_answer o ≡ TakesRule name B → (m : ℕ) × (o ≡ Some m) × (rule_answer (slice_get rules m) ≡ TakesRule name B)
  by_choice None name B h = absurd (kept_replaced h)
  by_choice (Some m) name B h = (m, refl, h)

  pub answered : (book : Book) (head : ScopeHead) (s : Store) (name : List ℕ) (B : Term) → book_choice rules book head s ≡ TakesRule name B → Answered book head s B
  answered book head s name B h =
      let choice = by_choice (choose rules book head s) name B h in
      let rule = by_rule (slice_get rules choice.0) name B choice.2 in
      let fit : fits rules book head s choice.0 ≡ true =
      greatest_passes (fits rules book head s) (filter (fits rules book head s) book.order) choice.0 (filter_passes (fits rules book head s) book.order) choice.1 in
      let of_rule : rule_fits book head s (Some rule.0) ≡ true = sym (ap (rule_fits book head s) rule.1) ∙ fit in
      let level = and_parts _ (nat_lt head.level top_level) of_rule in
      record {
        number = choice.0;
        rule = rule.0;
        stands = rule.1;
        is_body = rule.2;
        roles = (and_parts _ (list_all (λ q. member q head.roles) (mentions (rule.0).body)) level.0).1;
      }

-- in a sound bundle
module _ (known : Known) where
  pub cast_unique : (b : PlainBundle) → IsSound b → distinct_roles b.cast ≡ true
  cast_unique b sound = ap distinct_roles sound.formed.cast ∙ known.casts.distinct b.choreo

  pub sound_answers : (b : PlainBundle) → IsSound b → (N : Network) → SoundAnswers b.cast (answers_in (setting b) N) N.updates
  sound_answers b sound N = record {
    proper = λ head name B h. proper_body head name B (answered b.rules N.book head (N.stores head.leader) name B h);
    inner = λ head name B h q in_it. inner_body head name B (answered b.rules N.book head (N.stores head.leader) name B h) q in_it;
  }
    where
      proper_body : (head : ScopeHead) (name : List ℕ) (B : Term) → Answered b.rules N.book head (N.stores head.leader) B
          → Proper b.cast (stamped B (suc N.updates) (suc head.level))
      proper_body head name B found =
          let formed : IsFormedRule found.rule = all_at IsFormedRule b.rules found.number found.rule sound.formed.rules found.stands in
          let fair : IsSoundRule b.cast found.rule = all_at (IsSoundRule b.cast) b.rules found.number found.rule sound.rules found.stands in
          subst (λ C. Proper b.cast (stamped C (suc N.updates) (suc head.level))) (sym found.is_body)
          (proper_update known b.cast found.rule.body (suc N.updates) (suc head.level) formed.body.indices fair.body.connected fair.body.no_self_message
          (λ q h. all_member (λ r. member r b.cast) (mentions found.rule.body) q fair.in_cast (sym (known.mentions q found.rule.body) ∙ h)))

      inner_body : (head : ScopeHead) (name : List ℕ) (B : Term) → Answered b.rules N.book head (N.stores head.leader) B → (q : Role)
          → is_in q (stamped B (suc N.updates) (suc head.level)) ≡ true → member q head.roles ≡ true
      inner_body head name B found q in_it =
          all_member (λ r. member r head.roles) (mentions found.rule.body) q found.roles
          (sym (known.mentions q found.rule.body) ∙ ap (is_in q) (sym found.is_body) ∙ sym (known.bodies.named q B (suc N.updates) (suc head.level)) ∙ in_it)
