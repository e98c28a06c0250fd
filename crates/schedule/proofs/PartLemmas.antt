-- The places of what a role can do, where other acts stand in place of the one that it did.
use Rattle.std.proofs.Common.{◌≡◌, ◌+◌, ◌-◌, ◌<◌, ◌≤◌, ℕ, zero, suc, List, [], ◌∷◌, ◌++◌, Bool, true, false, length, map, take, drop, get_or, Some, refl, ap, ap₂, ◌∙◌, sym, subst, arith, ⊎_elim, slice_get}
use Rattle.std.specs.Prelude.{◌||◌, filter, if◌then◌else◌, nat_le, nat_lt, slice_set}
use Rattle.std.specs.List.{list_all, remove}
use Rattle.std.proofs.Math.Seq.{drop-append-add, drop-append_seam, take-append_seam}
use Rattle.std.proofs.lemmas.Bool.{and_from, and_parts, both_ways, cases_Bool, cond-true, cond-false, false_from_ne_true, leb-false, leb-true, lt-ltb, ltb-true}
use Rattle.std.proofs.lemmas.List.{append-nil, append_assoc, drop_all, drop_more, get_or_at, get_or_default, length-append, length-drop, length-map, length-take-le, map-append, take-append-drop, take_all}
use Rattle.std.proofs.lemmas.List.Edits.{map_over_more, remove-append_right}
use Rattle.std.proofs.lemmas.List.Folds.{list_all-append}
use Rattle.dioc_terms.specs.declared.entries.Act.{Act}
use Rattle.dioc_terms.specs.Equality.{act_eq}
use Rattle.marked_laws.proofs.Equality.{act_itself}
use Rattle.marked_laws.proofs.Shapes.{none_some, some_same}
use Rattle.net_core.proofs.PlacesLemmas.{places_append, places_more, places_stay}
use Rattle.net_core.specs.MovesIn.{are_places}
use Rattle.net_core.specs.Places.{places_from, places_of}
use Rattle.process_steps.specs.Steps.{is_offered}
use Rattle.schedule.proofs.ComeLemmas.{with_front, with_later}
use Rattle.schedule.specs.Agendas.{StandsAt, moved, parted, with_place}

not_less : (n m : ℕ) → m ≤ n → nat_lt n m ≡ false
not_less n m h = false_from_ne_true (nat_lt n m) (λ less. omega (arith, h, ltb-true n m less))

at_most : (n m : ℕ) → n ≤ m → nat_le n m ≡ true
at_most n m h = ⊎_elim (λ t. t) (λ f. absurd (omega (arith, h, leb-false n m f))) (cases_Bool (nat_le n m))

neither : (s t : Bool) → (s || t) ≡ false → (s ≡ false) × (t ≡ false)
neither true t h = cc
neither false t h = (refl, h)

module _ (p : Act → Bool) where
  -- what holds of all numbers from the first place to the last holds of each of the places
  each_place : (f : ℕ → Bool) (n : ℕ) (acts : List Act) → ((k : ℕ) → n ≤ k → k < n + length acts → f k ≡ true) → list_all f (places_from p n acts) ≡ true
  each_place f n [] holds = refl
  each_place f n (a ∷ acts) holds = by_test (p a) (each_place f (n + 1) acts (λ k above below. holds k (omega (arith, above)) (omega (arith, below))))
    where
      by_test : (t : Bool) → list_all f (places_from p (n + 1) acts) ≡ true → list_all f (if t then n ∷ places_from p (n + 1) acts else places_from p (n + 1) acts) ≡ true
      by_test true rest = and_from (f n) (list_all f (places_from p (n + 1) acts)) (holds n (omega arith) (omega arith)) rest
      by_test false rest = rest

  -- an act stands at each of its places
  pub places_inside : (acts : List Act) → are_places (places_of p acts) acts ≡ true
  places_inside acts = each_place (λ k. nat_lt k (length acts)) 0 acts (λ k above below. lt-ltb k (length acts) (omega (arith, below)))

  all_moved : (f : ℕ → ℕ) (n m : ℕ) (acts : List Act) → ((k : ℕ) → k < length acts → f (n + k) ≡ m + k) → map f (places_from p n acts) ≡ places_from p m acts
  all_moved f n m [] goes = refl
  all_moved f n m (a ∷ acts) goes =
      by_test (p a) (all_moved f (n + 1) (m + 1) acts (λ k inside. ap f (omega arith) ∙ goes (k + 1) (omega (arith, inside)) ∙ omega arith))
    where
      by_test : (t : Bool) → map f (places_from p (n + 1) acts) ≡ places_from p (m + 1) acts
          → map f (if t then n ∷ places_from p (n + 1) acts else places_from p (n + 1) acts) ≡ (if t then m ∷ places_from p (m + 1) acts else places_from p (m + 1) acts)
      by_test true rest = ap₂ (λ (x : ℕ) l. x ∷ l) (ap f (omega arith) ∙ goes 0 (omega arith) ∙ omega arith) rest
      by_test false rest = rest

  -- an act that stands once in a list, among those of it that pass
  module _ (a : Act) where
    not_first : (x : Act) (xs : List Act) (i : ℕ) → act_eq a x ≡ false → ((j : ℕ) → slice_get xs j ≡ Some a → ⊥) → slice_get (x ∷ xs) i ≡ Some a → ⊥
    not_first x xs zero other later h =
        both_ways (act_eq a x) other (subst (λ y. act_eq a y ≡ true) (sym (some_same h)) (act_itself a))
    not_first x xs (suc i) other later h = later i h

    not_there : (acts : List Act) (i : ℕ) → is_offered a acts ≡ false → slice_get (filter p acts) i ≡ Some a → ⊥
    not_there [] i none h = none_some h
    not_there (x ∷ xs) i none h =
        let parts = neither (act_eq a x) (is_offered a xs) none in
        ⊎_elim
        (λ yes. not_first x (filter p xs) i parts.0 (λ j. not_there xs j parts.1) (sym (ap (λ l. slice_get l i) (cond-true (p x) (x ∷ filter p xs) (filter p xs) yes)) ∙ h))
        (λ no. not_there xs i parts.1 (sym (ap (λ l. slice_get l i) (cond-false (p x) (x ∷ filter p xs) (filter p xs) no)) ∙ h))
        (cases_Bool (p x))

    at_once : (n : ℕ) (back : List Act) (i : ℕ) → is_offered a back ≡ false → slice_get (filter p (a ∷ back)) i ≡ Some a → (p a ≡ true) × (i ≡ 0)
    at_once n back i none h = ⊎_elim
        (λ yes. (yes, first i (sym (ap (λ l. slice_get l i) (cond-true (p a) (a ∷ filter p back) (filter p back) yes)) ∙ h)))
        (λ no. absurd (not_there back i none (sym (ap (λ l. slice_get l i) (cond-false (p a) (a ∷ filter p back) (filter p back) no)) ∙ h)))
        (cases_Bool (p a))
      where
        first : (i : ℕ) → slice_get (a ∷ filter p back) i ≡ Some a → i ≡ 0
        first zero k = refl
        first (suc i) k = absurd (not_there back i none k)

    pub stands_once : (n : ℕ) (front back : List Act) (i : ℕ) → is_offered a front ≡ false → is_offered a back ≡ false
        → slice_get (filter p (front ++ a ∷ back)) i ≡ Some a → (p a ≡ true) × (i ≡ length (places_from p n front))
    stands_once n [] back i before behind h = at_once n back i behind h
    stands_once n (x ∷ front) back i before behind h =
        let parts = neither (act_eq a x) (is_offered a front) before in
        ⊎_elim
        (λ yes.
        let there = later i parts.0 (sym (ap (λ l. slice_get l i) (cond-true (p x) (x ∷ filter p (front ++ a ∷ back)) (filter p (front ++ a ∷ back)) yes)) ∙ h) in
        let found = stands_once (n + 1) front back there.0 parts.1 behind there.2 in
        (found.0, there.1 ∙ ap suc found.1 ∙ ap length (sym (cond-true (p x) (n ∷ places_from p (n + 1) front) (places_from p (n + 1) front) yes))))
        (λ no.
        let found = stands_once (n + 1) front back i parts.1 behind
        (sym (ap (λ l. slice_get l i) (cond-false (p x) (x ∷ filter p (front ++ a ∷ back)) (filter p (front ++ a ∷ back)) no)) ∙ h) in
        (found.0, found.1 ∙ ap length (sym (cond-false (p x) (n ∷ places_from p (n + 1) front) (places_from p (n + 1) front) no))))
        (cases_Bool (p x))
      where
        later : (i : ℕ) → act_eq a x ≡ false → slice_get (x ∷ filter p (front ++ a ∷ back)) i ≡ Some a
            → (j : ℕ) × (i ≡ suc j) × (slice_get (filter p (front ++ a ∷ back)) j ≡ Some a)
        later zero other k = absurd (both_ways (act_eq a x) other (subst (λ y. act_eq a y ≡ true) (sym (some_same k)) (act_itself a)))
        later (suc j) other k = (j, refl, k)

  -- once the place of an act that was taken out is taken out
  module _ (acts : List Act) (place at : ℕ) (places : List ℕ) (stands : StandsAt p place at acts places) where
    pub taken_out : remove places place ≡ parted p (at + 1) (take at acts) (drop at acts)
    taken_out =
        let front : List ℕ = places_of p (take at acts) in
        let rest : List ℕ = at ∷ places_from p (at + 1) (drop at acts) in
        let none : place - place ≡ 0 = omega arith in
        ap (λ l. remove l place) stands.split ∙ remove-append_right front rest place place (sym stands.long) (omega arith)
        ∙ ap (λ n. front ++ remove rest n) none

    pub place_inside : place < length places
    place_inside =
        omega (arith, stands.long, ap length stands.split, length-append (places_of p (take at acts)) (at ∷ places_from p (at + 1) (drop at acts)))

    left_or_out : (t : Bool) → (if t then places else remove places place)
        ≡ places_of p (take at acts) ++ (if t then at ∷ places_from p (at + 1) (drop at acts) else places_from p (at + 1) (drop at acts))
    left_or_out true = stands.split
    left_or_out false = taken_out

    -- where one act stands in its place
    pub one_came : (new news : List Act) (b : Act) → at ≤ length acts → length news ≡ 1 → new ≡ take at acts ++ (news ++ drop at acts)
        → b ≡ get_or new at b → (if p b then places else remove places place) ≡ places_of p new
    one_came new [] b inside one is here = absurd (omega (arith, one))
    one_came new (n ∷ []) b inside one is here =
        let front : List Act = take at acts in
        let back : List Act = drop at acts in
        let long : length front ≡ at = length-take-le at acts inside in
        let same : b ≡ n = here ∙ ap (λ (l : List Act). get_or l at b) is ∙ get_or_at front n back b at long in
        left_or_out (p b)
        ∙ ap (λ (x : Act). places_of p front ++ (if p x then at ∷ places_from p (at + 1) back else places_from p (at + 1) back)) same
        ∙ ap (λ m. places_of p front ++ places_from p m (n ∷ back)) (sym (omega (arith, long)))
        ∙ sym (places_append p 0 front (n ∷ back))
        ∙ ap (places_of p) (sym is)
    one_came new (n ∷ m ∷ news) b inside one is here = absurd (omega (arith, one))

  -- where so many stand in its place
  pub all_behind : (front back : List Act) (at count : ℕ) → at ≡ length front → map (moved at count) (parted p (at + 1) front back) ≡ parted p (at + count) front back
  all_behind front back at count is =
      map-append (moved at count) (places_of p front) (places_from p (at + 1) back)
      ∙ ap₂ (λ (xs : List ℕ) ys. xs ++ ys)
      (all_moved (moved at count) 0 0 front (λ k inside. cond-false (nat_lt at (0 + k)) (((0 + k) - 1) + count) (0 + k) (not_less at (0 + k) (omega (arith, is, inside)))))
      (all_moved (moved at count) (at + 1) (at + count) back
      (λ k inside. cond-true (nat_lt at ((at + 1) + k)) ((((at + 1) + k) - 1) + count) ((at + 1) + k) (lt-ltb at ((at + 1) + k) (omega arith)) ∙ omega arith))

  -- and none of the places is large
  pub all_small : (front back : List Act) (at count bound : ℕ) → at ≡ length front → (length front + length back) + count < bound
      → list_all (λ k. nat_le (k + count) bound) (parted p (at + 1) front back) ≡ true
  all_small front back at count bound is room =
      let f : ℕ → Bool = λ k. nat_le (k + count) bound in
      list_all-append f (places_of p front) (places_from p (at + 1) back)
      ∙ and_from (list_all f (places_of p front)) (list_all f (places_from p (at + 1) back))
      (each_place f 0 front (λ k above below. at_most (k + count) bound (omega (arith, below, room))))
      (each_place f (at + 1) back (λ k above below. at_most (k + count) bound (omega (arith, below, is, room))))

  -- the others between them
  module _ (old new news : List Act) (at : ℕ) (inside : at ≤ length old) (is : new ≡ take at old ++ (news ++ drop at old)) where
    pub filled_long : length new ≡ length old + length news
    filled_long = omega (
      arith,
      inside,
      ap length is,
      length-append (take at old) (news ++ drop at old),
      length-append news (drop at old),
      length-take-le at old inside,
      length-drop at old,
    )

    long : length (take at old) ≡ at
    long = length-take-le at old inside

    front_is : take at new ≡ take at old
    front_is =
        ap (take at) is ∙ ap (λ n. take n (take at old ++ (news ++ drop at old))) (sym long) ∙ take-append_seam (take at old) (news ++ drop at old)

    back_is : (end : ℕ) → end ≡ at + length news → drop end new ≡ drop at old
    back_is end last =
        ap (drop end) is ∙ ap (λ n. drop n (take at old ++ (news ++ drop at old))) (omega (arith, last, long))
        ∙ drop-append-add (take at old) (news ++ drop at old) (length news)
        ∙ drop-append_seam news (drop at old)

    pub parts_are : (end : ℕ) → end ≡ at + length news → parted p end (take at old) (drop at old) ≡ parted p end (take at new) (drop end new)
    parts_are end last = ap₂ (λ front back. parted p end front back) (sym front_is) (sym (back_is end last))

  module _ (acts : List Act) (end : ℕ) (within : end ≤ length acts) where
    -- with all of the others they are those of all acts
    pub whole : parted p end (take end acts) (drop end acts) ≡ places_of p acts
    whole =
        ap (λ n. places_of p (take end acts) ++ places_from p n (drop end acts)) (sym (omega (arith, length-take-le end acts within)))
        ∙ sym (places_append p 0 (take end acts) (drop end acts)) ∙ ap (places_of p) (take-append-drop end acts)

    -- with one of the others more
    module _ (i : ℕ) (x : Act) (before : i < end) (is : x ≡ get_or acts i x) where
      pub one_ready : p x ≡ true → with_place i (parted p end (take i acts) (drop end acts)) ≡ parted p end (take (i + 1) acts) (drop end acts)
      one_ready h =
          let behind : List ℕ = places_from p end (drop end acts) in
          with_front i p 0 (take i acts) behind (omega (arith, length-take-le i acts (omega (arith, before, within))))
          ∙ ap (λ l. places_of p (take i acts) ++ l) (with_later i p end (drop end acts) before)
          ∙ sym (append_assoc (places_of p (take i acts)) (i ∷ []) behind)
          ∙ ap (λ l. l ++ behind) (sym (places_more p acts i x (omega (arith, before, within)) is h))

      pub one_waits : p x ≡ false → parted p end (take i acts) (drop end acts) ≡ parted p end (take (i + 1) acts) (drop end acts)
      one_waits h = ap (λ l. l ++ places_from p end (drop end acts)) (sym (places_stay p acts i x (omega (arith, before, within)) is h))

-- places that are written one after another
module _ (f : ℕ → ℕ) (old now : List ℕ) (i : ℕ) (lt : i < length old) (lt' : i < length now) (so_far : now ≡ map f (take i old) ++ drop i old) where
  pub still : get_or now i 0 ≡ get_or old i 0
  still =
      let front : List ℕ = map f (take i old) in
      let long : length front ≡ i = length-map (take i old) f ∙ length-take-le i old (omega (arith, lt)) in
      ap (λ l. get_or l i 0) (so_far ∙ ap (λ l. front ++ l) (drop_more old i 0 lt)) ∙ get_or_at front (get_or old i 0) (drop (i + 1) old) 0 i long

  pub one_written : (new : ℕ) → new ≡ f (get_or now i 0) → slice_set now i new ≡ map f (take (i + 1) old) ++ drop (i + 1) old
  one_written new is =
      let x : ℕ = get_or now i 0 in
      ap (slice_set now i) is ∙ map_over_more f old now i x lt so_far (sym (get_or_default now i x 0 lt'))

-- each of them is small where all are
pub small_at : (count bound : ℕ) (places : List ℕ) (i : ℕ) → i < length places → list_all (λ k. nat_le (k + count) bound) places ≡ true → get_or places i 0 + count ≤ bound
small_at count bound [] i inside all = absurd (omega (arith, inside))
small_at count bound (k ∷ ks) zero inside all =
    leb-true (k + count) bound (and_parts (nat_le (k + count) bound) (list_all (λ n. nat_le (n + count) bound) ks) all).0
small_at count bound (k ∷ ks) (suc i) inside all =
    small_at count bound ks i (omega (arith, inside)) (and_parts (nat_le (k + count) bound) (list_all (λ n. nat_le (n + count) bound) ks) all).1

-- what was written over a whole list
pub written : (n : ℕ) (xs ys : List ℕ) → n ≡ length ys → length xs ≡ length ys → take n (xs ++ drop (length xs) ys) ≡ xs
written n xs ys is long =
    ap (λ l. take n (xs ++ l)) (drop_all (length xs) ys (omega (arith, long))) ∙ ap (take n) (append-nil xs) ∙ take_all n xs (omega (arith, is, long))
