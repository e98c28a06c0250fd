-- The best of kept rules, from left to right, is the rule that the book chooses.
use Rattle.std.proofs.Common.{◌≡◌, ◌<◌, ◌+◌, length, take, get_or, ℕ, ℤ, List, [], ◌∷◌, ◌++◌, Bool, true, false, ◌&&◌, not, if◌then◌else◌, map, fold, nat_lt, int_lt, int_le, Option, Some, None, slice_get, refl, sym, ap, ◌∙◌, subst, append_assoc, ⊎_elim, arith}
use borrow.Author.Differences.{lt-true, lt-false, le-true, le-false}
use Rattle.std.proofs.lemmas.Int.{ints}
use Rattle.std.specs.List.{list_all}
use Rattle.std.specs.Option.{option_map, option_map_or}
use Rattle.std.proofs.lemmas.Bool.{and_parts, and_from, or_cases, or_left, or_right}
use Rattle.std.proofs.lemmas.List.{append-nil}
use Rattle.std.proofs.lemmas.List.Sums.{fold_more}
use Rattle.dioc_terms.specs.declared.names.Role.{Role}
use Rattle.dioc_terms.specs.declared.processes.ScopeHead.{ScopeHead}
use Rattle.dioc_terms.specs.declared.values.Value.{Value}
use Rattle.dioc_terms.specs.Equality.{role_eq, member}
use Rattle.dioc_terms.specs.EqualityLemmas.{role_eq-decides}
use Rattle.dioc_terms.specs.Expressions.{expression}
use Rattle.limits.specs.Limits.{top_level}
use Rattle.dioc_terms.specs.Plain.{PlainRule}
use Rattle.dioc_terms.specs.RuleLaws.{greater_of, chosen_among, ChoicesGoOn}
use Rattle.dioc_terms.specs.Rules.{Book, fits, no_lower}
use Rattle.dioc_terms.specs.Stores.{Store}
use Rattle.dioc_terms.specs.TermLaws.{CastsAreRoles, MentionsAreRoles}
use Rattle.dioc_terms.specs.Terms.{Term, cast_of, mentions}
use Rattle.dioc_terms.specs.Values.{bound, holds}
use Rattle.rule_book.specs.declared.kept.KeptRule.{KeptRule}
use Rattle.rule_book.specs.Kept.{order_of, IsKept, AreKept}

-- The roles of a body, each once, are among others exactly where all that it mentions are
same_tests : (s t : Bool) → (s ≡ true → t ≡ true) → (t ≡ true → s ≡ true) → s ≡ t
same_tests true t f g = sym (f refl)
same_tests false true f g = g refl
same_tests false false f g = refl

all_at : (p : Role → Bool) (roles : List Role) → list_all p roles ≡ true → (q : Role) → member q roles ≡ true → p q ≡ true
all_at p [] all q h = cc
all_at p (r ∷ rs) all q h =
    let parts = and_parts (p r) (list_all p rs) all in
    ⊎_elim (λ here. subst (λ (x : Role). p x ≡ true) (sym ((role_eq-decides q r).0 here)) parts.0) (λ there. all_at p rs parts.1 q there) (or_cases (role_eq q r) (member q rs) h)

all_from : (p : Role → Bool) (roles : List Role) → ((q : Role) → member q roles ≡ true → p q ≡ true) → list_all p roles ≡ true
all_from p [] f = refl
all_from p (r ∷ rs) f =
    and_from (p r) (list_all p rs) (f r (or_left (role_eq r r) (member r rs) ((role_eq-decides r r).1 refl)))
    (all_from p rs (λ q h. f q (or_right (role_eq q r) (member q rs) h)))

list_all-cast_of : MentionsAreRoles → CastsAreRoles → (p : Role → Bool) (I : Term) → list_all p (cast_of I) ≡ list_all p (mentions I)
list_all-cast_of mentioned casts p I = same_tests (list_all p (cast_of I)) (list_all p (mentions I))
    (λ all. all_from p (mentions I) (λ q h. all_at p (cast_of I) all q (casts.same q I ∙ (mentioned q I ∙ h))))
    (λ all. all_from p (cast_of I) (λ q h. all_at p (mentions I) all q (sym (mentioned q I) ∙ (sym (casts.same q I) ∙ h))))

module _ (head : ScopeHead) (s : Store) (env : List (List ℕ × Value)) where
  -- whether a kept rule fits
  abbrev pub kept_fits : KeptRule → Bool
  kept_fits kept = holds (expression kept.cond) s (bound head.props) (bound env) && list_all (λ q. member q head.roles) kept.roles && nat_lt head.level top_level

  -- the number and priority of the better one of the best so far and one more
  abbrev pub next_best : Option (ℕ × ℤ) → KeptRule → Option (ℕ × ℤ)
  next_best best kept =
      if option_map_or (λ b. int_lt b.1 kept.priority) best true && kept_fits kept then Some (kept.number, kept.priority) else best

  abbrev pub best_of : List KeptRule → Option (ℕ × ℤ)
  best_of kept = fold next_best None kept

  -- the best after one rule more
  pub best_of-more : (kept : List KeptRule) (i : ℕ) (one : KeptRule) (best : Option (ℕ × ℤ)) → i < length kept → one ≡ get_or kept i one → best ≡ best_of (take i kept)
      → best_of (take (i + 1) kept) ≡ next_best best one
  best_of-more kept i one best inside at so_far = fold_more next_best None kept i one inside ∙ (λ j. next_best (sym so_far j) (sym at j))

  pub next_best-above : (best : Option (ℕ × ℤ)) (kept : KeptRule) → option_map_or (λ (b : ℕ × ℤ). int_lt b.1 kept.priority) best true ≡ true → kept_fits kept ≡ true
      → next_best best kept ≡ Some (kept.number, kept.priority)
  next_best-above best kept above fit = rw (above, fit) refl

  pub next_best-below : (best : Option (ℕ × ℤ)) (kept : KeptRule) → option_map_or (λ (b : ℕ × ℤ). int_lt b.1 kept.priority) best true ≡ false
      → next_best best kept ≡ best
  next_best-below best kept below = rw below refl

  pub next_best-unfit : (best : Option (ℕ × ℤ)) (kept : KeptRule) → kept_fits kept ≡ false → next_best best kept ≡ best
  next_best-unfit best kept unfit = rw unfit (by (option_map_or (λ (b : ℕ × ℤ). int_lt b.1 kept.priority) best true))
    where
      by : (t : Bool) → (if t && false then Some (kept.number, kept.priority) else best) ≡ best
      by true = refl
      by false = refl

-- the best is rule n, with its priority
record IsBest (rules : List PlainRule) (best : ℕ × ℤ) (n : ℕ) : Type 0 where
  rule : PlainRule
  number : best.0 ≡ n
  at : slice_get rules n ≡ Some rule
  priority : best.1 ≡ rule.priority

-- the best so far is what is chosen so far
abbrev Matches : List PlainRule → Option (ℕ × ℤ) → Option ℕ → Type 0
Matches rules None None = Unit {0}
Matches rules (Some best) (Some n) = IsBest rules best n
Matches rules _ _ = ⊥

int_lt-le : (a b : ℤ) → int_lt a b ≡ not (int_le b a)
int_lt-le a b = by (int_lt a b) (int_le b a) refl refl
  where
    by : (s t : Bool) → int_lt a b ≡ s → int_le b a ≡ t → s ≡ not t
    by true true e f =
        let below = lt-true a b e in
        let above = le-true b a f in
        absurd (omega (arith, ints))
    by true false e f = refl
    by false true e f = refl
    by false false e f =
        let above = lt-false a b e in
        let below = le-false b a f in
        absurd (omega (arith, ints))

module _ (rules : List PlainRule) where
  compared : (n : ℕ) (best : ℕ × ℤ) (name : List ℕ) (kept : KeptRule) → IsBest rules best n → IsKept rules name kept
      → no_lower rules n kept.number ≡ int_le kept.priority best.1
  compared n best name kept is at = rw (is.at, at.at, is.priority, at.priority) refl

  matches-next : (best : Option (ℕ × ℤ)) (chosen : Option ℕ) (name : List ℕ) (kept : KeptRule) (fit : Bool) → IsKept rules name kept → Matches rules best chosen
      → Matches rules (if option_map_or (λ b. int_lt b.1 kept.priority) best true && fit then Some (kept.number, kept.priority) else best)
      (if fit then greater_of rules chosen kept.number else chosen)
  matches-next None None name kept true is m = record { rule = is.rule; number = refl; at = is.at; priority = is.priority }
  matches-next None None name kept false is m = tt
  matches-next (Some best) (Some n) name kept true is m = by (int_le kept.priority best.1) refl (compared n best name kept m is)
    where
      by : (b : Bool) → int_le kept.priority best.1 ≡ b → no_lower rules n kept.number ≡ int_le kept.priority best.1
          → Matches rules (if int_lt best.1 kept.priority && true then Some (kept.number, kept.priority) else Some best)
          (if no_lower rules n kept.number then Some n else Some kept.number)
      by true e same = rw (int_lt-le best.1 kept.priority, same, e) m
      by false e same = rw (int_lt-le best.1 kept.priority, same, e) (record { rule = is.rule; number = refl; at = is.at; priority = is.priority })
  matches-next (Some best) (Some n) name kept false is m = by (int_lt best.1 kept.priority)
    where
      by : (b : Bool) → Matches rules (if b && false then Some (kept.number, kept.priority) else Some best) (Some n)
      by true = m
      by false = m
  matches-next (Some best) None name kept fit is m = absurd m
  matches-next None (Some n) name kept fit is m = absurd m

  fits-kept : MentionsAreRoles → CastsAreRoles → (book : Book) (head : ScopeHead) (s : Store) (env : List (List ℕ × Value)) (name : List ℕ) (kept : KeptRule)
      → book.environment ≡ bound env → IsKept rules name kept → fits rules book head s kept.number ≡ kept_fits head s env kept
  fits-kept mentioned casts book head s env name kept known is =
      by_rule is.at
      ∙ (λ j. holds (sym is.condition j) s (bound head.props) (known j) && roles j && nat_lt head.level top_level)
    where
      by_rule : slice_get rules kept.number ≡ Some is.rule
          → fits rules book head s kept.number
          ≡ (holds (is.rule).cond s (bound head.props) book.environment && list_all (λ q. member q head.roles) (mentions (is.rule).body) && nat_lt head.level top_level)
      by_rule at = rw at refl

      roles : list_all (λ q. member q head.roles) (mentions (is.rule).body) ≡ list_all (λ q. member q head.roles) kept.roles
      roles = sym (list_all-cast_of mentioned casts (λ q. member q head.roles) (is.rule).body) ∙ ap (list_all (λ q. member q head.roles)) (sym is.roles)

  module _ (goes : ChoicesGoOn) (mentioned : MentionsAreRoles) (casts : CastsAreRoles) (book : Book) (head : ScopeHead) (s : Store) (env : List (List ℕ × Value))
      (known : book.environment ≡ bound env) where
    -- after the rules of a front, the entries that follow it
    matches-all : (front : List ℕ) (es : List (List ℕ × KeptRule)) (best : Option (ℕ × ℤ)) → AreKept rules es
        → Matches rules best (chosen_among rules book head s front)
        → Matches rules (fold (next_best head s env) best (map (λ e. e.1) es)) (chosen_among rules book head s (front ++ order_of es))
    matches-all front [] best all m = subst (λ (l : List ℕ). Matches rules best (chosen_among rules book head s l)) (sym (append-nil front)) m
    matches-all front (e ∷ es) best all m =
        let fit = fits-kept mentioned casts book head s env e.0 e.1 known all.0 in
        let step = matches-next best (chosen_among rules book head s front) e.0 e.1 (kept_fits head s env e.1) all.0 m in
        let more = goes.one_more rules book head s front e.1.number
        ∙ ap (λ (t : Bool). if t then greater_of rules (chosen_among rules book head s front) e.1.number else chosen_among rules book head s front) fit in
        subst (λ (l : List ℕ). Matches rules (fold (next_best head s env) (next_best head s env best e.1) (map (λ e. e.1) es)) (chosen_among rules book head s l))
        (append_assoc front (e.1.number ∷ []) (order_of es))
        (matches-all (front ++ e.1.number ∷ []) es (next_best head s env best e.1) all.1
        (subst (λ (o : Option ℕ). Matches rules (next_best head s env best e.1) o) (sym more) step))

    number_of : (best : Option (ℕ × ℤ)) (chosen : Option ℕ) → Matches rules best chosen → option_map (λ (b : ℕ × ℤ). b.0) best ≡ chosen
    number_of None None m = refl
    number_of (Some best) (Some n) m = ap Some m.number
    number_of (Some best) None m = absurd m
    number_of None (Some n) m = absurd m

    pub best_of-chosen : (es : List (List ℕ × KeptRule)) → AreKept rules es
        → option_map (λ (b : ℕ × ℤ). b.0) (best_of head s env (map (λ e. e.1) es)) ≡ chosen_among rules book head s (order_of es)
    best_of-chosen es all = number_of (best_of head s env (map (λ e. e.1) es)) (chosen_among rules book head s (order_of es)) (matches-all [] es None all tt)
