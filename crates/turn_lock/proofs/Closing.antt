-- Who has all seats finds the value at home, and each item in just one seat.
use Rattle.std.proofs.Common.{◌≡◌, ◌≢◌, ℕ, ◌<◌, ◌≤◌, List, length, false, Option, Some, None, sym, ap, ◌∙◌, subst, arith, lt_of_not-le}
use mathlib.Core.Option.{some, some-injective}
use mathlib.Core.Logic.{dite}
use native.Mathlib.Decide.{ℕ_discrete, dec_le}
use lib.ListN.{get_elem?}
use Rattle.atomic_table.specs.Table.{State, Final, Seen}
use Rattle.turn_lock.specs.declared.views.Known.{Known}
use Rattle.turn_lock.specs.Items.{items_of, Each, IsOwn, times, Shares}
use Rattle.turn_lock.specs.Views.{BeginsWithAll}
use Rattle.turn_lock.specs.Rule.{Knows, LockRule}
use Rattle.turn_lock.proofs.Lists.{total_one, total_two, some_number, each_once}
use Rattle.turn_lock.proofs.Steps.{not_holder, at_most_once}

module _ {A : Type 0} where
  abbrev in_some : A → Option A → A
  in_some d (Some a) = a
  in_some d None = d

  some_same : (a c : A) → Some a ≡ Some c → a ≡ c
  some_same a c e = ap (in_some a) e

  none_some : {a : A} → None ≡ Some a → ⊥
  none_some e = cc

module _ {H I B M : Type 0} (items : H → List I) (base : H → B) (owner : B → I → ℕ) (mark_of : H → M) (grows : M → M → Type 0)
    (stays : (m : M) → grows m m) (goes_on : (a b c : M) → grows a b → grows b c → grows a c) where
  closes : (b : B) (id : ℕ) (v : Known I B M) → length v.view.claims ≡ v.view.made → 0 < v.view.made → v.view.holds ≡ false
      → (s : State (Option H) (Known I B M)) → Seen (LockRule items base owner mark_of grows b) id v s
      → (h : H) × (get_elem? s.homes 0 ≡ some (some (Some h))) × (base h ≡ b) × (v.view.base ≡ Some b) × Shares (owner b) (items h) v.view.claims × BeginsWithAll (items h) v.view
  closes b id v all first waits s seen = (
    h.0,
    h.1,
    h.3,
    k.base (omega arith),
    record {
      each = subst (λ (l : List I). Each (IsOwn (owner b) l) v.view.claims) (sym h.2) k.own;
      once = once;
      none = λ n le. ap (items_of (owner b) n) h.2 ∙ (r.none n (past n le)).1;
    },
    subst (λ (l : List I). BeginsWithAll l v.view) (sym h.2) k.seen,
  )
    where
      r : LockRule items base owner mark_of grows b s
      r = seen.0

      k : Knows (owner b) grows b r.list r.mark r.made r.held r.holder id v
      k = r.each id v seen.1

      past : (n : ℕ) → length v.view.claims ≤ n → r.made ≤ n
      past n le = let m : v.view.made ≡ r.made = (k.makes first).1 in omega arith

      none_past : (n : ℕ) → length v.view.claims ≤ n → times n v.view.claims ≡ 0
      none_past n le =
          let z = (r.none n (past n le)).0 in
          let o = total_one (λ (x : Known I B M). times n x.view.claims) s.views id v seen.1 in
          omega arith

      at_most : (n : ℕ) → n < length v.view.claims → times n v.view.claims ≤ 1
      at_most n lt =
          let z = at_most_once items base owner mark_of grows stays goes_on b s r n in
          let o = total_one (λ (x : Known I B M). times n x.view.claims) s.views id v seen.1 in
          omega arith

      once : (n : ℕ) → n < length v.view.claims → times n v.view.claims ≡ 1
      once = each_once v.view.claims none_past at_most

      not_busy : r.held ≡ 1 → ⊥
      not_busy busy =
          let u = r.busy busy in
          let apart = not_holder s.views id r.holder v u.0 seen.1 u.1 waits u.2 in
          let q = some_number u.0.view.claims u.3 in
          let two = total_two (λ (x : Known I B M). times q.0 x.view.claims) s.views id r.holder v u.0 (λ e. apart (sym e)) seen.1 u.1 in
          let one = at_most_once items base owner mark_of grows stays goes_on b s r q.0 in
          let there = q.1 in
          dite (dec_le (length v.view.claims) q.0)
          (λ (le : length v.view.claims ≤ q.0). let z = (r.none q.0 (past q.0 le)).0 in let never : ⊥ = omega arith in never)
          (λ (more : ¬ (length v.view.claims ≤ q.0)). let o = once q.0 (lt_of_not-le more) in let never : ⊥ = omega arith in never)

      idle : r.held ≡ 0
      idle =
          let m = r.most in
          dite (ℕ_discrete r.held 1)
          (λ (e : r.held ≡ 1). absurd (not_busy e))
          (λ (ne : r.held ≢ 1). let z : r.held ≡ 0 = omega arith in z)

      h : (x : H) × (get_elem? s.homes 0 ≡ some (some (Some x))) × (items x ≡ r.list) × (base x ≡ b) × (mark_of x ≡ r.mark)
      h = r.home idle

  closed_with : (b : B) (id : ℕ) (v : Known I B M) → length v.view.claims ≡ v.view.made → 0 < v.view.made → v.view.holds ≡ false
      → (words : List ℕ) (slots : List (Option H)) (got : Option H) → Final (Seen (LockRule items base owner mark_of grows b) id v) words slots → get_elem? slots 0 ≡ some got
      → (h : H) × (got ≡ Some h) × (base h ≡ b) × (v.view.base ≡ Some b) × Shares (owner b) (items h) v.view.claims × BeginsWithAll (items h) v.view
  closed_with b id v all first waits words slots got final at =
      let c = closes b id v all first waits final.0 final.1 in
      (c.0, some-injective got (Some c.0) (sym at ∙ final.4 0 (Some c.0) c.1), c.2, c.3, c.4, c.5)

  -- the slot has a value
  pub closed_some : (b : B) (id : ℕ) (v : Known I B M) → length v.view.claims ≡ v.view.made → 0 < v.view.made → v.view.holds ≡ false
      → (words : List ℕ) (slots : List (Option H)) (got : Option H) → Final (Seen (LockRule items base owner mark_of grows b) id v) words slots → get_elem? slots 0 ≡ some got
      → got ≡ None → ⊥
  closed_some b id v all first waits words slots got final at none =
      let c = closed_with b id v all first waits words slots got final at in
      none_some (sym none ∙ c.1)

  -- each item of that value is an own item of one seat, and its list begins with what each seat has seen
  pub closed_value : (b : B) (id : ℕ) (v : Known I B M) → length v.view.claims ≡ v.view.made → 0 < v.view.made → v.view.holds ≡ false
      → (words : List ℕ) (slots : List (Option H)) (got : Option H) → Final (Seen (LockRule items base owner mark_of grows b) id v) words slots → get_elem? slots 0 ≡ some got
      → (home : H) → got ≡ Some home → (v.view.base ≡ Some (base home)) × Shares (owner (base home)) (items home) v.view.claims × BeginsWithAll (items home) v.view
  closed_value b id v all first waits words slots got final at home is =
      let c = closed_with b id v all first waits words slots got final at in
      let same : c.0 ≡ home = some_same c.0 home (sym c.1 ∙ is) in
      let based : b ≡ base home = sym c.2 ∙ ap base same in (
        c.3 ∙ ap (λ (x : B). Some x) based,
        subst (λ (x : B). Shares (owner x) (items home) v.view.claims) based (subst (λ (h : H). Shares (owner b) (items h) v.view.claims) same c.4),
        subst (λ (h : H). BeginsWithAll (items h) v.view) same c.5,
      )
