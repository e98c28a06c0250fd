-- The places of what a role can do, where the takes of a message that has come are put among them.
use Rattle.std.proofs.Common.{◌≡◌, ◌+◌, ◌<◌, ◌≤◌, ℕ, suc, List, [], ◌∷◌, ◌++◌, Bool, true, false, length, take, drop, get_or, Some, None, refl, ap, ◌∙◌, sym, arith, subst, ⊎_elim}
use Rattle.std.specs.Prelude.{◌||◌, if◌then◌else◌, nat_le, nat_lt}
use Rattle.std.specs.List.{insert, position, position_from}
use Rattle.std.proofs.lemmas.Bool.{and_from, and_parts, cases_Bool, cond-true, cond-false, leb-false, leb-true, lt-ltb, ltb-false, ltb-true}
use Rattle.std.proofs.lemmas.Iterator.Adapters.{position_from-zero}
use Rattle.std.proofs.lemmas.List.{append_assoc, drop_more, length-take-le}
use Rattle.dioc_terms.specs.declared.entries.Act.{Act}
use Rattle.dioc_terms.specs.declared.processes.Key.{Key}
use Rattle.marked_laws.proofs.Shapes.{none_some, some_same}
use Rattle.net_core.proofs.PlacesLemmas.{places_more, places_stay}
use Rattle.net_core.specs.MovesIn.{are_places}
use Rattle.net_core.specs.Places.{places_from, places_of}
use Rattle.schedule.specs.Agendas.{takes, with_place}

some_none : {i : ℕ} → Some i ≡ None → ⊥
some_none e = none_some (sym e)

-- a test of two numbers, answered
below_or_at : (n m : ℕ) → n ≤ m → nat_le n m ≡ true
below_or_at n m h = ⊎_elim (λ t. t) (λ f. absurd (omega (arith, h, leb-false n m f))) (cases_Bool (nat_le n m))

above : (n m : ℕ) → m < n → nat_le n m ≡ false
above n m h = ⊎_elim (λ t. absurd (omega (arith, h, leb-true n m t))) (λ f. f) (cases_Bool (nat_le n m))

-- a place before a list, in it, and behind its first
module _ (n m : ℕ) (ms : List ℕ) where
  pub with_before : n < m → with_place n (m ∷ ms) ≡ n ∷ m ∷ ms
  with_before h =
      cond-true (nat_le n m) (if nat_le m n then m ∷ ms else n ∷ m ∷ ms) (m ∷ with_place n ms) (below_or_at n m (omega (arith, h)))
      ∙ cond-false (nat_le m n) (m ∷ ms) (n ∷ m ∷ ms) (above m n h)

  pub with_same : n ≡ m → with_place n (m ∷ ms) ≡ m ∷ ms
  with_same h =
      cond-true (nat_le n m) (if nat_le m n then m ∷ ms else n ∷ m ∷ ms) (m ∷ with_place n ms) (below_or_at n m (omega (arith, h)))
      ∙ cond-true (nat_le m n) (m ∷ ms) (n ∷ m ∷ ms) (below_or_at m n (omega (arith, h)))

  pub with_behind : m < n → with_place n (m ∷ ms) ≡ m ∷ with_place n ms
  with_behind h = cond-false (nat_le n m) (if nat_le m n then m ∷ ms else n ∷ m ∷ ms) (m ∷ with_place n ms) (above n m h)

module _ (n : ℕ) where
  from_at : (ms : List ℕ) (j i : ℕ) → position_from (nat_le n) j ms ≡ Some i
      → (k : ℕ) × (i ≡ j + k) × (k < length ms) × (get_or ms k 0 ≡ n → with_place n ms ≡ ms)
      × ((get_or ms k 0 ≡ n → ⊥) → with_place n ms ≡ insert ms k n)
  from_at [] j i h = absurd (none_some h)
  from_at (m ∷ ms) j i h = ⊎_elim
      (λ here. (
        0,
        omega (arith, some_same (sym (cond-true (nat_le n m) (Some j) (position_from (nat_le n) (j + 1) ms) here) ∙ h)),
        omega arith,
        (λ same. with_same n m ms (sym same)),
        (λ apart. with_before n m ms (less m (leb-true n m here) apart)),
      ))
      (λ there. let later = from_at ms (j + 1) i (sym (cond-false (nat_le n m) (Some j) (position_from (nat_le n) (j + 1) ms) there) ∙ h) in (
        suc later.0,
        omega (arith, later.1),
        omega (arith, later.2),
        (λ same. with_behind n m ms (leb-false n m there) ∙ ap (λ l. m ∷ l) (later.3 same)),
        (λ apart. with_behind n m ms (leb-false n m there) ∙ ap (λ l. m ∷ l) (later.4 apart)),
      ))
      (cases_Bool (nat_le n m))
    where
      less : (m : ℕ) → n ≤ m → (m ≡ n → ⊥) → n < m
      less m h apart = ⊎_elim (λ t. ltb-true n m t) (λ f. absurd (apart (omega (arith, h, ltb-false n m f)))) (cases_Bool (nat_lt n m))

  from_none : (ms : List ℕ) (j : ℕ) → position_from (nat_le n) j ms ≡ None → with_place n ms ≡ ms ++ n ∷ []
  from_none [] j h = refl
  from_none (m ∷ ms) j h = ⊎_elim
      (λ here. absurd (some_none (sym (cond-true (nat_le n m) (Some j) (position_from (nat_le n) (j + 1) ms) here) ∙ h)))
      (λ there. with_behind n m ms (leb-false n m there)
      ∙ ap (λ l. m ∷ l) (from_none ms (j + 1) (sym (cond-false (nat_le n m) (Some j) (position_from (nat_le n) (j + 1) ms) there) ∙ h)))
      (cases_Bool (nat_le n m))

  -- where the first place that isn't below it is, and where none is
  pub place_found : (ms : List ℕ) (i : ℕ) → position (nat_le n) ms ≡ Some i
      → (i < length ms) × (get_or ms i 0 ≡ n → with_place n ms ≡ ms) × ((get_or ms i 0 ≡ n → ⊥) → with_place n ms ≡ insert ms i n)
  place_found ms i h =
      let found = from_at ms 0 i (sym (position_from-zero (nat_le n) ms) ∙ h) in
      let at : found.0 ≡ i = omega (arith, found.1) in
      subst (λ k. (k < length ms) × (get_or ms k 0 ≡ n → with_place n ms ≡ ms) × ((get_or ms k 0 ≡ n → ⊥) → with_place n ms ≡ insert ms k n)) at
      (found.2, found.3, found.4)

  pub none_found : (ms : List ℕ) → position (nat_le n) ms ≡ None → with_place n ms ≡ ms ++ n ∷ []
  none_found ms h = from_none ms 0 (sym (position_from-zero (nat_le n) ms) ∙ h)

  -- a place among others stands for an act where each of them does
  pub place_stands : (acts : List Act) → n < length acts → (ms : List ℕ) → are_places ms acts ≡ true → are_places (with_place n ms) acts ≡ true
  place_stands acts inside [] h = and_from (nat_lt n (length acts)) true (lt-ltb n (length acts) inside) refl
  place_stands acts inside (m ∷ ms) h =
      let parts = and_parts (nat_lt m (length acts)) (are_places ms acts) h in
      by_tests (nat_le n m) (nat_le m n) (and_from (nat_lt m (length acts)) (are_places (with_place n ms) acts) parts.0 (place_stands acts inside ms parts.1))
    where
      by_tests : (s t : Bool) → are_places (m ∷ with_place n ms) acts ≡ true
          → are_places (if s then if t then m ∷ ms else n ∷ m ∷ ms else m ∷ with_place n ms) acts ≡ true
      by_tests true true rest = h
      by_tests true false rest = and_from (nat_lt n (length acts)) (are_places (m ∷ ms) acts) (lt-ltb n (length acts) inside) h
      by_tests false t rest = rest

  -- behind the places of acts that stand before it
  pub with_front : (f : Act → Bool) (j : ℕ) (front : List Act) (ms : List ℕ) → j + length front ≤ n
      → with_place n (places_from f j front ++ ms) ≡ places_from f j front ++ with_place n ms
  with_front f j [] ms h = refl
  with_front f j (a ∷ front) ms h = by_test (f a) (with_front f (j + 1) front ms (omega (arith, h)))
    where
      by_test : (t : Bool) → with_place n (places_from f (j + 1) front ++ ms) ≡ places_from f (j + 1) front ++ with_place n ms
          → with_place n ((if t then j ∷ places_from f (j + 1) front else places_from f (j + 1) front) ++ ms)
          ≡ (if t then j ∷ places_from f (j + 1) front else places_from f (j + 1) front) ++ with_place n ms
      by_test true rest = with_behind n j (places_from f (j + 1) front ++ ms) (omega (arith, h)) ∙ ap (λ l. j ∷ l) rest
      by_test false rest = rest

  -- before those of acts that stand behind it, and at its own act
  pub with_later : (f : Act → Bool) (j : ℕ) (acts : List Act) → n < j → with_place n (places_from f j acts) ≡ n ∷ places_from f j acts
  with_later f j [] h = refl
  with_later f j (a ∷ acts) h = by_test (f a) (with_later f (j + 1) acts (omega (arith, h)))
    where
      by_test : (t : Bool) → with_place n (places_from f (j + 1) acts) ≡ n ∷ places_from f (j + 1) acts
          → with_place n (if t then j ∷ places_from f (j + 1) acts else places_from f (j + 1) acts)
          ≡ n ∷ (if t then j ∷ places_from f (j + 1) acts else places_from f (j + 1) acts)
      by_test true rest = with_before n j (places_from f (j + 1) acts) h
      by_test false rest = rest

  with_here : (f : Act → Bool) (a : Act) (acts : List Act) → with_place n (places_from f n (a ∷ acts)) ≡ n ∷ places_from f (n + 1) acts
  with_here f a acts = by_test (f a)
    where
      by_test : (t : Bool) → with_place n (if t then n ∷ places_from f (n + 1) acts else places_from f (n + 1) acts) ≡ n ∷ places_from f (n + 1) acts
      by_test true = with_same n n (places_from f (n + 1) acts) refl
      by_test false = with_later f (n + 1) acts (omega arith)

-- the places so far are those of the acts so far with the takes, and then those from before
module _ (k : Key) (p : Act → Bool) (acts : List Act) (i : ℕ) (a : Act) (inside : i < length acts) (is : a ≡ get_or acts i a) where
  abbrev both : Act → Bool
  both b = takes k b || p b

  abbrev so_far : ℕ → List ℕ
  so_far j = places_of both (take j acts) ++ places_from p j (drop j acts)

  left : places_from p i (drop i acts) ≡ places_from p i (a ∷ drop (i + 1) acts)
  left = ap (places_from p i) (drop_more acts i a inside ∙ ap (λ b. b ∷ drop (i + 1) acts) (sym is))

  -- a take is put among them
  pub come_more : takes k a ≡ true → (places : List ℕ) → places ≡ so_far i → with_place i places ≡ so_far (i + 1)
  come_more h places here =
      ap (with_place i) (here ∙ ap (λ l. places_of both (take i acts) ++ l) left)
      ∙ with_front i both 0 (take i acts) (places_from p i (a ∷ drop (i + 1) acts)) (omega (arith, length-take-le i acts (omega (arith, inside))))
      ∙ ap (λ l. places_of both (take i acts) ++ l) (with_here i p a (drop (i + 1) acts))
      ∙ sym (append_assoc (places_of both (take i acts)) (i ∷ []) (places_from p (i + 1) (drop (i + 1) acts)))
      ∙ ap (λ l. l ++ places_from p (i + 1) (drop (i + 1) acts)) (sym (places_more both acts i a inside is (ap (λ t. t || p a) h)))

  -- of another act nothing changes
  pub come_same : takes k a ≡ false → so_far i ≡ so_far (i + 1)
  come_same h = ap (λ l. places_of both (take i acts) ++ l) left ∙ ⊎_elim ready other (cases_Bool (p a))
    where
      rest : List ℕ
      rest = places_from p (i + 1) (drop (i + 1) acts)

      ready : p a ≡ true → places_of both (take i acts) ++ places_from p i (a ∷ drop (i + 1) acts) ≡ so_far (i + 1)
      ready t =
          ap (λ l. places_of both (take i acts) ++ l) (cond-true (p a) (i ∷ rest) rest t)
          ∙ sym (append_assoc (places_of both (take i acts)) (i ∷ []) rest)
          ∙ ap (λ l. l ++ rest) (sym (places_more both acts i a inside is (ap (λ s. s || p a) h ∙ t)))

      other : p a ≡ false → places_of both (take i acts) ++ places_from p i (a ∷ drop (i + 1) acts) ≡ so_far (i + 1)
      other f =
          ap (λ l. places_of both (take i acts) ++ l) (cond-false (p a) (i ∷ rest) rest f)
          ∙ ap (λ l. l ++ rest) (sym (places_stay both acts i a inside is (ap (λ s. s || p a) h ∙ f)))
