-- Totals, claims and items of one owner, as lists alone.
use Rattle.std.proofs.Common.{◌≡◌, ◌≢◌, ℕ, zero, suc, ◌+◌, ◌<◌, ◌≤◌, List, [], ◌∷◌, ◌++◌, length, map, set, All, Bool, cond, ◌==◌, refl, sym, ap, ◌∙◌, subst, ⊎_elim, arith, append-nil, append_assoc, eq-eqb, ne_eqb, lt_of_not-le}
use mathlib.Core.Option.{some, some-injective, some-ne-none}
use mathlib.Core.Logic.{dite}
use native.Mathlib.Decide.{ℕ_discrete}
use lib.ListN.{get_elem?}
use Rattle.std.proofs.lemmas.List.Elements.{filter-append, All-nil, All-cons}
use Rattle.std.specs.Prelude.{fold, IsPermutation}
use Rattle.std.proofs.lemmas.List.Sorted.{All-permutation, length_permutation, sum_by-IsPermutation}
use Rattle.atomic_table.proofs.Lists.{at_set}
use Rattle.turn_lock.specs.declared.views.Claim.{Claim}
use Rattle.turn_lock.specs.Items.{total, items_of, BeginsWith, claim, Each, IsOwn, IsOwnOfOne, IsAllOf, Shares, one_if, times}

-- numbers

pub one_if_same : (n : ℕ) → one_if n n ≡ 1
one_if_same n = ap (λ (b : Bool). cond b 1 0) (eq-eqb n n refl)

pub one_if_apart : (m n : ℕ) → m ≢ n → one_if m n ≡ 0
one_if_apart m n ne = ap (λ (b : Bool). cond b 1 0) (ne_eqb m n ne)

-- totals

module _ {A : Type 0} (f : A → ℕ) where
  pub total_append : (xs ys : List A) → total f (xs ++ ys) ≡ total f xs + total f ys
  total_append [] ys = omega arith
  total_append (x ∷ xs) ys = let t = total_append xs ys in omega arith

  pub total_set : (xs : List A) (i : ℕ) (v w : A) → get_elem? xs i ≡ some v → total f (set xs i w) + f v ≡ total f xs + f w
  total_set [] i v w at = absurd (some-ne-none v (sym at))
  total_set (x ∷ xs) zero v w at = let e : f x ≡ f v = ap f (some-injective x v at) in omega arith
  total_set (x ∷ xs) (suc i) v w at = let t = total_set xs i v w at in omega arith

  pub total_one : (xs : List A) (i : ℕ) (v : A) → get_elem? xs i ≡ some v → f v ≤ total f xs
  total_one [] i v at = absurd (some-ne-none v (sym at))
  total_one (x ∷ xs) zero v at = let e : f x ≡ f v = ap f (some-injective x v at) in omega arith
  total_one (x ∷ xs) (suc i) v at = let t = total_one xs i v at in omega arith

  pub total_two : (xs : List A) (i j : ℕ) (v w : A) → i ≢ j → get_elem? xs i ≡ some v → get_elem? xs j ≡ some w → f v + f w ≤ total f xs
  total_two [] i j v w ne at to = absurd (some-ne-none v (sym at))
  total_two (x ∷ xs) zero zero v w ne at to = absurd (ne refl)
  total_two (x ∷ xs) zero (suc j) v w ne at to = let e : f x ≡ f v = ap f (some-injective x v at) in let t = total_one xs j w to in omega arith
  total_two (x ∷ xs) (suc i) zero v w ne at to = let e : f x ≡ f w = ap f (some-injective x w to) in let t = total_one xs i v at in omega arith
  total_two (x ∷ xs) (suc i) (suc j) v w ne at to = let t = total_two xs i j v w (λ e. ne (ap suc e)) at to in omega arith

-- lists

module _ {A : Type 0} where
  pub within : (l : List A) (i : ℕ) (a : A) → get_elem? l i ≡ some a → i < length l
  within [] i a at = absurd (some-ne-none a (sym at))
  within (x ∷ xs) zero a at = omega arith
  within (x ∷ xs) (suc i) a at = let t = within xs i a at in omega arith

  -- what holds of each place but one, and of what was put there, holds of each
  pub each_set : (xs : List A) (i : ℕ) (w : A) (P : ℕ → A → Type 0) → ((j : ℕ) (u : A) → j ≢ i → get_elem? xs j ≡ some u → P j u) → P i w → (j : ℕ) (u : A) → get_elem? (set xs i w) j ≡ some u → P j u
  each_set xs i w P others here j u at =
      ⊎_elim
      (λ (x : (j ≡ i) × (w ≡ u)). subst (λ (y : ℕ × A). P y.0 y.1) (λ k. (sym x.0 k, x.1 k)) here)
      (λ (x : (j ≢ i) × (get_elem? xs j ≡ some u)). others j u x.0 x.1)
      (at_set xs i j w u at)

  pub each_append : (P : A → Type 0) (xs ys : List A) → Each P xs → Each P ys → Each P (xs ++ ys)
  each_append P [] ys p q = q
  each_append P (x ∷ xs) ys p q = (p.0, each_append P xs ys p.1 q)

  pub each_back : (P : A → Type 0) (xs ys : List A) → Each P (xs ++ ys) → Each P ys
  each_back P [] ys p = p
  each_back P (x ∷ xs) ys p = each_back P xs ys p.1

  -- what holds of what a map makes of each, by recursion and by place
  pub all_of_map : {X : Type 0} (f : X → A) (P : A → Type 0) (xs : List X) → Each P (map f xs) → All (λ x. P (f x)) xs
  all_of_map f P [] p = All-nil (λ x. P (f x))
  all_of_map f P (x ∷ xs) p = All-cons (λ x. P (f x)) x xs p.0 (all_of_map f P xs p.1)

  -- a list that grows begins with what it began with
  pub begins_longer : (items more seen : List A) → BeginsWith items seen → BeginsWith (items ++ more) seen
  begins_longer items more seen begins = (begins.0 ++ more, ap (λ (l : List A). l ++ more) begins.1 ∙ append_assoc seen begins.0 more)

  pub each_begins_longer : (items more : List A) (seens : List (List A)) → Each (BeginsWith items) seens → Each (BeginsWith (items ++ more)) seens
  each_begins_longer items more [] begins = tt
  each_begins_longer items more (seen ∷ seens) begins = (begins_longer items more seen begins.0, each_begins_longer items more seens begins.1)

  abbrev tail_of : List A → List A
  tail_of [] = []
  tail_of (x ∷ xs) = xs

  pub nil_of_append : (xs ys : List A) → xs ++ ys ≡ [] → xs ≡ []
  nil_of_append [] ys e = refl
  nil_of_append (x ∷ xs) ys e = absurd (cc)

  pub append_cancel : (xs ys zs : List A) → xs ++ ys ≡ xs ++ zs → ys ≡ zs
  append_cancel [] ys zs e = e
  append_cancel (x ∷ xs) ys zs e = append_cancel xs ys zs (ap tail_of e)

-- items and claims

module _ {I : Type 0} where
  abbrev head_claim : Claim I → List (Claim I) → Claim I
  head_claim d [] = d
  head_claim d (c ∷ cs) = c

  -- two lists of one claim each
  pub one_claim : (n m : ℕ) (xs ys : List I) → claim n xs ∷ [] ≡ claim m ys ∷ [] → (n ≡ m) × (xs ≡ ys)
  one_claim n m xs ys e = (ap (λ (cs : List (Claim I)). (head_claim (claim n xs) cs).number) e, ap (λ (cs : List (Claim I)). (head_claim (claim n xs) cs).mine) e)

  pub times_one : (n m : ℕ) (xs : List I) → times n (claim m xs ∷ []) ≡ one_if m n
  times_one n m xs = omega arith

  -- a list with claims claims some number
  pub some_number : (cs : List (Claim I)) → 0 < length cs → (n : ℕ) × (0 < times n cs)
  some_number [] lt = absurd (omega arith)
  some_number (c ∷ cs) lt = (c.number, (let o = one_if_same c.number in omega arith))

  pub times_append : (n : ℕ) (cs ds : List (Claim I)) → times n (cs ++ ds) ≡ times n cs + times n ds
  times_append n cs ds = total_append (λ (c : Claim I). one_if c.number n) cs ds

  module _ (owner : I → ℕ) where
    pub items_append : (n : ℕ) (xs ys : List I) → items_of owner n (xs ++ ys) ≡ items_of owner n xs ++ items_of owner n ys
    items_append n xs ys = filter-append (λ x. owner x == n) xs ys

    pub own_of_one : (items : List I) (cs : List (Claim I)) → Each (IsOwn owner items) cs → IsOwnOfOne owner items cs
    own_of_one items cs each n mine is = (subst (Each (IsOwn owner items)) is each).0

    -- where a list has no item of n, its front has none
    pub none_in_front : (n : ℕ) (items seen : List I) → BeginsWith items seen → items_of owner n items ≡ [] → items_of owner n seen ≡ []
    none_in_front n items seen begins free =
        nil_of_append (items_of owner n seen) (items_of owner n begins.0) (sym (items_append n seen begins.0) ∙ (sym (ap (items_of owner n) begins.1) ∙ free))

    pub all_of_same : (n : ℕ) (xs : List I) → IsAllOf owner n xs → items_of owner n xs ≡ xs
    all_of_same n [] all = refl
    all_of_same n (x ∷ xs) all = ap (λ (b : Bool). cond b (x ∷ items_of owner n xs) (items_of owner n xs)) (eq-eqb (owner x) n all.0) ∙ ap (λ (l : List I). x ∷ l) (all_of_same n xs all.1)

    pub all_of_other : (n m : ℕ) (xs : List I) → n ≢ m → IsAllOf owner n xs → items_of owner m xs ≡ []
    all_of_other n m [] apart all = refl
    all_of_other n m (x ∷ xs) apart all = ap (λ (b : Bool). cond b (x ∷ items_of owner m xs) (items_of owner m xs)) (ne_eqb (owner x) m (λ e. apart (sym all.0 ∙ e))) ∙ all_of_other n m xs apart all.1

    -- claims of other numbers stay true where items of n come
    pub others_stay : (n : ℕ) (items more : List I) (cs : List (Claim I)) → IsAllOf owner n more → times n cs ≡ 0 → Each (IsOwn owner items) cs → Each (IsOwn owner (items ++ more)) cs
    others_stay n items more [] all free own = tt
    others_stay n items more (c ∷ cs) all free own =
        let first : one_if c.number n ≡ 0 = omega arith in
        let rest : times n cs ≡ 0 = omega arith in
        let apart : n ≢ c.number = λ (e : n ≡ c.number). let one : one_if c.number n ≡ 1 = subst (λ (k : ℕ). one_if c.number k ≡ 1) (sym e) (one_if_same c.number) in omega arith in (
          items_append c.number items more ∙ (ap (λ (l : List I). items_of owner c.number items ++ l) (all_of_other n c.number more apart all) ∙ (append-nil (items_of owner c.number items) ∙ own.0)),
          others_stay n items more cs all rest own.1,
        )

-- counting: where each of k numbers is claimed at most once, and there are k claims of these numbers, each is claimed once

abbrev pub below : (ℕ → ℕ) → ℕ → ℕ
below f zero = 0
below f (suc k) = below f k + f k

below_sum : (f g h : ℕ → ℕ) → ((n : ℕ) → f n ≡ g n + h n) → (k : ℕ) → below f k ≡ below g k + below h k
below_sum f g h e zero = refl
below_sum f g h e (suc k) = let t = below_sum f g h e k in let u = e k in omega arith

below_none : (c k : ℕ) → k ≤ c → below (λ n. one_if c n) k ≡ 0
below_none c zero le = refl
below_none c (suc k) le = let t = below_none c k (omega arith) in let z = one_if_apart c k (λ (e : c ≡ k). omega arith) in omega arith

below_once : (c k : ℕ) → c < k → below (λ n. one_if c n) k ≡ 1
below_once c zero lt = absurd (omega arith)
below_once c (suc k) lt =
    dite (ℕ_discrete c k)
    (λ (e : c ≡ k). let t = below_none c k (omega arith) in let o : one_if c k ≡ 1 = subst (λ (x : ℕ). one_if c x ≡ 1) e (one_if_same c) in omega arith)
    (λ (ne : c ≢ k). let t = below_once c k (omega arith) in let z = one_if_apart c k ne in omega arith)

below_most : (f : ℕ → ℕ) (k : ℕ) → ((n : ℕ) → n < k → f n ≤ 1) → below f k ≤ k
below_most f zero most = omega arith
below_most f (suc k) most = let t = below_most f k (λ n lt. most n (omega arith)) in let l = most k (omega arith) in omega arith

below_full : (f : ℕ → ℕ) (k : ℕ) → ((n : ℕ) → n < k → f n ≤ 1) → below f k ≡ k → (n : ℕ) → n < k → f n ≡ 1
below_full f zero most full n lt = absurd (omega arith)
below_full f (suc k) most full n lt =
    let t = below_most f k (λ m l. most m (omega arith)) in
    let l = most k (omega arith) in
    dite (ℕ_discrete n k)
    (λ (e : n ≡ k). subst (λ (x : ℕ). f x ≡ 1) (sym e) (let g : f k ≡ 1 = omega arith in g))
    (λ (ne : n ≢ k). below_full f k (λ m l. most m (omega arith)) (omega arith) n (omega arith))

below_zero : (k : ℕ) → below (λ n. 0) k ≡ 0
below_zero zero = refl
below_zero (suc k) = let t = below_zero k in omega arith

below_times : {I : Type 0} (cs : List (Claim I)) (k : ℕ) → ((n : ℕ) → k ≤ n → times n cs ≡ 0) → below (λ n. times n cs) k ≡ length cs
below_times [] k past = below_zero k
below_times (c ∷ cs) k past =
    let few : (n : ℕ) → k ≤ n → times n cs ≡ 0 = λ n le. let z = past n le in omega arith in
    let t = below_times cs k few in
    let s = below_sum (λ n. times n (c ∷ cs)) (λ n. one_if c.number n) (λ n. times n cs) (λ n. refl) k in
    let here : c.number < k = lt_of_not-le (λ (le : k ≤ c.number). let z = past c.number le in let i = one_if_same c.number in omega arith) in
    let o = below_once c.number k here in
    omega arith

pub each_once : {I : Type 0} (cs : List (Claim I)) → ((n : ℕ) → length cs ≤ n → times n cs ≡ 0) → ((n : ℕ) → n < length cs → times n cs ≤ 1) → (n : ℕ) → n < length cs → times n cs ≡ 1
each_once cs past most = below_full (λ n. times n cs) (length cs) most (below_times cs (length cs) past)

-- the claims in another order

module _ {A : Type 0} where
  total_fold : (f : A → ℕ) (xs : List A) (a : ℕ) → fold (λ b x. b + f x) a xs ≡ a + total f xs
  total_fold f [] a = omega arith
  total_fold f (x ∷ xs) a = let t = total_fold f xs (a + f x) in omega arith

  total_permuted : (f : A → ℕ) (xs ys : List A) → IsPermutation xs ys → total f ys ≡ total f xs
  total_permuted f xs ys p =
      let s = total_fold f xs 0 in
      let t = total_fold f ys 0 in
      let e : fold (λ b x. b + f x) 0 ys ≡ fold (λ b x. b + f x) 0 xs = sum_by-IsPermutation f xs ys p in
      omega arith

  each_of_all : (P : A → Type 0) (xs : List A) → All P xs → Each P xs
  each_of_all P [] all = tt
  each_of_all P (x ∷ xs) all = (all 0 x (omega arith), each_of_all P xs (λ k d lt. all (suc k) d (omega arith)))

  all_of_each : (P : A → Type 0) (xs : List A) → Each P xs → All P xs
  all_of_each P [] each = All-nil P
  all_of_each P (x ∷ xs) each = All-cons P x xs each.0 (all_of_each P xs each.1)

module _ {I : Type 0} where
  pub shares_permuted : (owner : I → ℕ) (items : List I) (cs ds : List (Claim I)) → IsPermutation cs ds → Shares owner items cs → Shares owner items ds
  shares_permuted owner items cs ds p s =
      let long : length ds ≡ length cs = length_permutation cs ds p in
      record {
        each = each_of_all (IsOwn owner items) ds (All-permutation (IsOwn owner items) cs ds p (all_of_each (IsOwn owner items) cs s.each));
        once = λ n lt. total_permuted (λ (c : Claim I). one_if c.number n) cs ds p ∙ s.once n (omega arith);
        none = λ n le. s.none n (omega arith);
      }
