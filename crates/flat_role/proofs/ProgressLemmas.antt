-- What the list of the places that can act says of a role over code.
use Rattle.std.proofs.Common.{◌≡◌, ◌+◌, ◌<◌, ◌≤◌, ℕ, suc, List, [], ◌∷◌, ◌++◌, Bool, true, false, ◌||◌, map, length, get_or, take, drop, replicate, refl, ap, ap₂, ◌∙◌, sym, subst, arith, ⊎_elim, append-nil, get_or-take, length-take-le, take_all, Option, None, Some}
use mathlib.Core.Path.{fun_ext}
use Rattle.std.specs.Prelude.{nat_eq, nat_lt, vec_capacity}
use Rattle.std.specs.List.{list_all, list_any, position, position_or_len}
use Rattle.std.proofs.lemmas.Bool.Decides.{nat_tests}
use Rattle.std.proofs.lemmas.Bool.{both_ways, cases_lt, cond-true, lt-ltb, ltb-true, or_parts}
use Rattle.std.proofs.lemmas.List.{drop_more, get_or-replicate, get_or_past, length-replicate, map-append, take-append-drop, take_more}
use Rattle.std.proofs.lemmas.List.Elements.{All-from_get_or, All-get_or}
use Rattle.std.proofs.lemmas.List.Folds.{list_any-append, list_any_none}
use Rattle.std.proofs.lemmas.List.Quantifiers.{position-Some}
use Rattle.std.proofs.lemmas.List.Sums.{AllPass-from_list_all, fails_before_first}
use Rattle.dioc_terms.specs.declared.names.Role.{Role}
use Rattle.dioc_terms.specs.declared.entries.Act.{Act}
use Rattle.dioc_terms.specs.Equality.{act_eq}
use Rattle.dioc_terms.specs.Processes.{Process}
use Rattle.flat_code.specs.Codes.{process_of}
use Rattle.flat_code.specs.declared.plan.Plan.{Plan}
use Rattle.flat_code.specs.Levels.{level_at}
use Rattle.flat_code.proofs.WayLemmas.{levels_say}
use Rattle.flat_role.specs.declared.marks.Mark.{Mark as KeptMark}
use Rattle.flat_role.specs.declared.marks.Mark.TheVariants as kept_mark
use Rattle.flat_role.specs.declared.progress.Progress.{Progress}
use Rattle.flat_role.specs.KeptMarks.{meant}
use Rattle.flat_role.specs.Leaves.{is_leaf}
use Rattle.flat_role.specs.PlanMarks.{low_at, places_at, plan_layout, plan_len, plan_marks, static_at}
use Rattle.flat_role.specs.Progress.{AreOf, IsFound, IsProgress, marks_by, offers_there, runs_by}
use Rattle.flat_role.proofs.SpotLeaves.{whole-acts}
use Rattle.process_steps.specs.Steps.{ended, is_offered, offers}
use Rattle.role_statuses.specs.Flat.{Marks, inner}
use Rattle.role_statuses.specs.Kept.{IsKept, kept, running}
use Rattle.role_statuses.specs.ListLaws.{active, places_of, spot_at}
use Rattle.role_statuses.specs.Local.{Layout}
use Rattle.role_statuses.specs.Marks as mark
use Rattle.role_statuses.specs.PlaceLaws.{IsCodeOf, IsPlaceStep, status_at}
use Rattle.role_statuses.specs.Spots.{Spot, acts_of, spots}
use Rattle.role_statuses.specs.Statuses.{leaves}
use Rattle.role_statuses.proofs.ListLemmas.{places-are_listed}
use Rattle.role_statuses.proofs.RoleLemmas.{marks-are_exact}
use Rattle.role_statuses.proofs.SpotLemmas.{acts-append}

pub is-code : (plan : Plan) → IsCodeOf (plan_layout plan) (plan_len plan) (process_of plan.code)
is-code plan = levels_say plan.code.ops.items plan.code.start plan.levels.items plan.code.placed plan.code.laid plan.longer plan.says

-- Of lists.

passes_at : {X : Type 0} (p : X → Bool) (xs : List X) (i : ℕ) (d : X) → i < length xs → list_all p xs ≡ true → p (get_or xs i d) ≡ true
passes_at p xs i d h e = All-get_or (λ x. p x ≡ true) xs i d h (AllPass-from_list_all p xs e)

clash : (test : ℕ → Bool) (y : ℕ) (zs : List ℕ) → list_any test (y ∷ zs) ≡ false → test y ≡ true → ⊥
clash test y zs none passes = both_ways (test y) (or_parts (test y) (list_any test zs) none).0 passes

first_is : (y z : ℕ) (ys zs : List ℕ) → y ∷ ys ≡ z ∷ zs → y ≡ z
first_is y z ys zs e = cc

rest_is : (y z : ℕ) (ys zs : List ℕ) → y ∷ ys ≡ z ∷ zs → ys ≡ zs
rest_is y z ys zs e = cc

-- two splits of one list at the first that passes are the same
record OneSplit (xs us : List ℕ) (x u : ℕ) (ys vs : List ℕ) : Type 0 where
  front : xs ≡ us
  here : x ≡ u
  end : ys ≡ vs

one_split : (test : ℕ → Bool) (xs us : List ℕ) (x u : ℕ) (ys vs : List ℕ) → xs ++ x ∷ ys ≡ us ++ u ∷ vs
    → list_any test xs ≡ false → test x ≡ true → list_any test us ≡ false → test u ≡ true → OneSplit xs us x u ys vs
one_split test [] [] x u ys vs e hx px hu pu = record { front = refl; here = first_is x u ys vs e; end = rest_is x u ys vs e }
one_split test [] (w ∷ us) x u ys vs e hx px hu pu =
    absurd (clash test w us hu (ap test (sym (first_is x w ys (us ++ u ∷ vs) e)) ∙ px))
one_split test (w ∷ xs) [] x u ys vs e hx px hu pu =
    absurd (clash test w xs hx (ap test (first_is w u (xs ++ x ∷ ys) vs e) ∙ pu))
one_split test (w ∷ xs) (z ∷ us) x u ys vs e hx px hu pu =
    let rest = one_split test xs us x u ys vs (rest_is w z (xs ++ x ∷ ys) (us ++ u ∷ vs) e)
    (or_parts (test w) (list_any test xs) hx).1 px (or_parts (test z) (list_any test us) hu).1 pu in
    record { front = ap₂ (λ y zs. y ∷ zs) (first_is w z (xs ++ x ∷ ys) (us ++ u ∷ vs) e) rest.front; here = rest.here; end = rest.end }

none_test : (xs : List ℕ) (t : Bool) → (xs ≡ [] → t ≡ true) → (t ≡ true → xs ≡ []) → nat_eq (length xs) 0 ≡ t
none_test [] t h k = sym (h refl)
none_test (x ∷ xs) false h k = grind (arith, nat_tests)
none_test (x ∷ xs) true h k = let e : x ∷ xs ≡ [] = k refl in cc

pub same_everywhere : (n i : ℕ) → get_or (replicate n kept_mark.Untouched) i kept_mark.Untouched ≡ kept_mark.Untouched
same_everywhere n i = ⊎_elim
    (λ inside. get_or-replicate n i kept_mark.Untouched kept_mark.Untouched inside)
    (λ past. get_or_past (replicate n kept_mark.Untouched) i kept_mark.Untouched (omega (arith, past, length-replicate n kept_mark.Untouched)))
    (cases_lt i n)

-- none of the first so many passes
pub none_passes : (p : ℕ → Bool) (xs : List ℕ) (n : ℕ) → n ≤ length xs → ((k : ℕ) → k < n → p (get_or xs k 0) ≡ false) → list_any p (take n xs) ≡ false
none_passes p xs n le none = list_any_none p (take n xs) (All-from_get_or (λ x. p x ≡ false) (take n xs) 0 at)
  where
    at : (i : ℕ) → i < length (take n xs) → p (get_or (take n xs) i 0) ≡ false
    at i h = let inside : i < n = omega (arith, h, length-take-le n xs le) in
        ap p (get_or-take n xs i 0 inside) ∙ none i inside

pub position-found : (p : ℕ → Bool) (xs : List ℕ) (r : Option ℕ) (i : ℕ) → r ≡ position p xs → r ≡ Some i
    → (i < length xs) × ((list_any p (take i xs) ≡ false) × (p (get_or xs i 0) ≡ true))
position-found p xs r i e found =
    let at = position-Some p xs i 0 (sym e ∙ found) in
    (at.0, (none_passes p xs i (omega (arith, at.0)) at.2, at.1))

pub position-none : (p : ℕ → Bool) (xs : List ℕ) (r : Option ℕ) → r ≡ position p xs → r ≡ None → list_any p xs ≡ false
position-none p xs r e none = ⊎_elim
    (λ inside. let some : position p xs ≡ Some (position_or_len p xs) = cond-true (nat_lt (position_or_len p xs) (length xs)) (Some (position_or_len p xs)) None (lt-ltb (position_or_len p xs) (length xs) inside) in cc)
    (λ past. ap (list_any p) (sym (take_all (length xs) xs (omega arith))) ∙ none_passes p xs (length xs) (omega arith) (λ k h. fails_before_first p xs k 0 (omega (arith, h, past))))
    (cases_lt (position_or_len p xs) (length xs))

split_here : (xs ys : List ℕ) (y : ℕ) → (take (length xs) (xs ++ y ∷ ys) ≡ xs) × (drop (suc (length xs)) (xs ++ y ∷ ys) ≡ ys)
split_here [] ys y = (refl, refl)
split_here (x ∷ xs) ys y = let rest = split_here xs ys y in (ap (λ zs. x ∷ zs) rest.0, rest.1)

split_at : (xs ys : List ℕ) (y i : ℕ) (zs : List ℕ) → i ≡ length xs → zs ≡ xs ++ y ∷ ys → (take i zs ≡ xs) × (drop (i + 1) zs ≡ ys)
split_at xs ys y i zs e f =
    let rest = split_here xs ys y in
    let next : i + 1 ≡ suc (length xs) = omega (arith, e) in
    (ap₂ take e f ∙ rest.0, ap₂ drop next f ∙ rest.1)

-- What places offer.

module _ (me : Role) (code : Layout) (marks : Marks) where
  pub offers-places : (a : Act) (ps : List ℕ) → is_offered a (acts_of (map (spot_at me code marks) ps))
      ≡ list_any (λ p. is_offered a (leaves me (status_at marks p) (code.statics p))) ps
  offers-places a [] = refl
  offers-places a (p ∷ ps) =
      list_any-append (act_eq a) (leaves me (status_at marks p) (code.statics p)) (acts_of (map (spot_at me code marks) ps))
      ∙ ap (λ t. is_offered a (leaves me (status_at marks p) (code.statics p)) || t) (offers-places a ps)

  pub acts-more : (ps : List ℕ) (i d : ℕ) → i < length ps → acts_of (map (spot_at me code marks) (take (i + 1) ps))
      ≡ acts_of (map (spot_at me code marks) (take i ps)) ++ leaves me (status_at marks (get_or ps i d)) (code.statics (get_or ps i d))
  acts-more ps i d h = let f : ℕ → Spot = spot_at me code marks in
      ap (λ qs. acts_of (map f qs)) (take_more ps i d h)
      ∙ ap acts_of (map-append f (take i ps) (get_or ps i d ∷ []))
      ∙ acts-append (map f (take i ps)) (f (get_or ps i d) ∷ [])
      ∙ ap (λ acts. acts_of (map f (take i ps)) ++ acts) (append-nil (leaves me (status_at marks (get_or ps i d)) (code.statics (get_or ps i d))))

-- Of a role over code.

module _ (me : Role) (plan : Plan) (progress : Progress) (k : IsProgress me plan progress) where
  abbrev ms : Marks
  ms = marks_by me plan progress

  abbrev W : Process
  W = process_of plan.code

  abbrev here : ℕ → Spot
  here = spot_at me (plan_layout plan) ms

  spots_listed : spots me 0 (kept ms 0 W) W ≡ map here progress.active.items
  spots_listed = places-are_listed.listed me (plan_layout plan) (plan_len plan) ms W (is-code plan) k.kept ∙ ap (map here) (sym k.listed)

  pub offers-acts : acts_of (map here progress.active.items) ≡ offers me (runs_by me plan progress)
  offers-acts = ap acts_of (sym spots_listed) ∙ marks-are_exact.offered me ms W k.kept

  pub place-inside : (i : ℕ) → i < length progress.active.items → get_or progress.active.items i 0 < plan_len plan
  place-inside i h = ltb-true (get_or progress.active.items i 0) (plan_len plan)
      (passes_at (λ p. nat_lt p (plan_len plan)) progress.active.items i 0 h
      (ap (list_all (λ p. nat_lt p (plan_len plan))) k.listed ∙ places-are_listed.inside me (plan_layout plan) (plan_len plan) ms W (is-code plan)))

  pub place-acts : (i : ℕ) → i < length progress.active.items
      → is_leaf (ms (get_or progress.active.items i 0)) (static_at plan (get_or progress.active.items i 0)) ≡ true
  place-acts i h = passes_at (λ p. is_leaf (ms p) (static_at plan p)) progress.active.items i 0 h
      (ap (list_all (λ p. is_leaf (ms p) (static_at plan p))) k.listed ∙ whole-acts me (plan_layout plan) ms (plan_len plan) W (is-code plan) k.kept)

  pub found-at : (a : Act) (i : ℕ) → i < length progress.active.items → list_any (offers_there me plan ms a) (take i progress.active.items) ≡ false
      → offers_there me plan ms a (get_or progress.active.items i 0) ≡ true → IsFound me plan progress a i (get_or progress.active.items i 0)
  found-at a i h none passes = record {
    before = take i progress.active.items;
    behind = drop (i + 1) progress.active.items;
    stands = sym (take-append-drop i progress.active.items) ∙ ap (λ ys. take i progress.active.items ++ ys) (drop_more progress.active.items i 0 h);
    is_at = sym (length-take-le i progress.active.items (omega (arith, h)));
    none_before = none;
    offers = passes;
  }

  pub none-found : (a : Act) → list_any (offers_there me plan ms a) progress.active.items ≡ false → is_offered a (offers me (runs_by me plan progress)) ≡ false
  none-found a none = ap (is_offered a) (sym offers-acts) ∙ offers-places me (plan_layout plan) ms a progress.active.items ∙ none

  -- nothing is left to do exactly where no place can act
  pub none-done : progress.active.items ≡ [] → ended (runs_by me plan progress) ≡ true
  none-done e = places-are_listed.none_over me ms W k.kept (spots_listed ∙ ap (map here) e)

  pub done-none : ended (runs_by me plan progress) ≡ true → progress.active.items ≡ []
  done-none e = k.listed ∙ ap places_of (places-are_listed.over_none me ms W k.kept e)

  pub done-is : nat_eq (length progress.active.items) 0 ≡ ended (runs_by me plan progress)
  done-is = none_test progress.active.items (ended (runs_by me plan progress)) none-done done-none

-- Before anything was done.

module _ (me : Role) (plan : Plan) where
  fresh_marks : plan_marks me plan (replicate (plan_len plan) kept_mark.Untouched) ≡ (λ k. mark.Untouched)
  fresh_marks = fun_ext (λ k. ap (meant me (static_at plan k)) (same_everywhere (plan_len plan) k))

  low_whole : low_at plan plan.code.start ≡ 0
  low_whole = let start : plan.code.start ≡ 0 + inner (process_of plan.code) = omega (arith, plan.code.laid.0) in
      ap (λ l. l.low) (ap (level_at plan.levels.items) start ∙ plan.says.own.is)

  -- those that can act of the process at the place of the whole are those of the whole
  pub places-whole : (marks : List KeptMark) → places_at me plan marks plan.code.start ≡ active me (plan_marks me plan marks) (process_of plan.code)
  places-whole marks = ap (λ low. places_of (spots me low (kept (plan_marks me plan marks) low (process_of plan.code)) (process_of plan.code))) low_whole

  pub few-places : (marks : List KeptMark) → length (places_at me plan marks plan.code.start) ≤ plan_len plan
  few-places marks =
      let few : length (active me (plan_marks me plan marks) (process_of plan.code)) ≤ suc (inner (process_of plan.code)) = places-are_listed.few me (plan_marks me plan marks) (process_of plan.code) in
      let room : inner (process_of plan.code) < plan_len plan = (is-code plan).room in
      subst (λ ps. length ps ≤ plan_len plan) (sym (places-whole marks)) (omega (arith, few, room))

  pub begins : (progress : Progress) → progress.marks.items ≡ replicate (plan_len plan) kept_mark.Untouched
      → progress.active.items ≡ places_at me plan progress.marks.items plan.code.start
      → plan_len plan ≤ vec_capacity progress.active → plan_len plan ≤ vec_capacity progress.fresh
      → AreOf me progress.marks.items → IsProgress me plan progress
  begins progress fresh places room spare mine = record {
    as_long = ap length fresh ∙ length-replicate (plan_len plan) kept_mark.Untouched;
    kept = subst (λ ms. IsKept me ms (process_of plan.code)) (sym (ap (plan_marks me plan) fresh ∙ fresh_marks)) (marks-are_exact.begins me (process_of plan.code)).0;
    listed = places ∙ places-whole progress.marks.items;
    room = room;
    spare = spare;
    mine = mine;
  }

  pub begins-with : (progress : Progress) → progress.marks.items ≡ replicate (plan_len plan) kept_mark.Untouched
      → runs_by me plan progress ≡ process_of plan.code
  begins-with progress fresh = ap (λ ms. running me ms (process_of plan.code)) (ap (plan_marks me plan) fresh ∙ fresh_marks) ∙ (marks-are_exact.begins me (process_of plan.code)).1

-- The place that was found is that of the step, with the same places before it and behind it.

pub record IsSameSplit (me : Role) (plan : Plan) (progress : Progress) (a : Act) (at place q : ℕ)
    (found : IsFound me plan progress a at place)
    (step : IsPlaceStep me (plan_layout plan) (plan_len plan) (marks_by me plan progress) (process_of plan.code) a q) : Type 0 where
  pub place_is : place ≡ q
  pub before_is : found.before ≡ places_of step.before
  pub behind_is : found.behind ≡ places_of step.behind

module _ (me : Role) (plan : Plan) (progress : Progress) (k : IsProgress me plan progress) (a : Act) where
  pub same-split : (at place q : ℕ) (found : IsFound me plan progress a at place)
      (step : IsPlaceStep me (plan_layout plan) (plan_len plan) (marks_by me plan progress) (process_of plan.code) a q)
      → IsSameSplit me plan progress a at place q found step
  same-split at place q found step =
      let ms : Marks = marks_by me plan progress in
      let W : Process = process_of plan.code in
      let here : ℕ → Spot = spot_at me (plan_layout plan) ms in
      let stepped : Spot = record { place = q; acts = leaves me (status_at ms q) (static_at plan q) } in
      let test : ℕ → Bool = offers_there me plan ms a in
      let places : progress.active.items ≡ places_of step.before ++ q ∷ places_of step.behind =
      k.listed ∙ ap places_of step.stands ∙ map-append (λ s. s.place) step.before (stepped ∷ step.behind) in
      let seen : step.before ≡ map here (places_of step.before) =
      places-are_listed.some me (plan_layout plan) (plan_len plan) ms W [] step.before (stepped ∷ step.behind) (is-code plan) k.kept step.stands in
      let none : list_any test (places_of step.before) ≡ false =
      sym (offers-places me (plan_layout plan) ms a (places_of step.before)) ∙ ap (λ ss. is_offered a (acts_of ss)) (sym seen) ∙ step.none_before in
      let one = one_split test found.before (places_of step.before) place q found.behind (places_of step.behind) (sym found.stands ∙ places) found.none_before found.offers none step.offered in
      record { place_is = one.here; before_is = one.front; behind_is = one.end }

-- other places in the place of one, among those before and behind
places_between : (before between behind : List Spot) → places_of (before ++ (between ++ behind)) ≡ places_of before ++ (places_of between ++ places_of behind)
places_between before between behind =
    map-append (λ s. s.place) before (between ++ behind) ∙ ap (λ ps. places_of before ++ ps) (map-append (λ s. s.place) between behind)

-- the list once others came in the place of the one that was found
pub active-after : (me : Role) (plan : Plan) (progress : Progress) → IsProgress me plan progress → (a : Act) (at place q : ℕ) (found : IsFound me plan progress a at place)
    (step : IsPlaceStep me (plan_layout plan) (plan_len plan) (marks_by me plan progress) (process_of plan.code) a q) (after : Marks) (between : List Spot)
    → spots me 0 (kept after 0 (process_of plan.code)) (process_of plan.code) ≡ step.before ++ (between ++ step.behind)
    → active me after (process_of plan.code) ≡ take at progress.active.items ++ (places_of between ++ drop (at + 1) progress.active.items)
active-after me plan progress k a at place q found step after between stands =
    let same = same-split me plan progress k a at place q found step in
    let sides = split_at found.before found.behind place at progress.active.items found.is_at found.stands in
    ap places_of stands ∙ places_between step.before between step.behind
    ∙ ap₂ (λ xs ys. xs ++ (places_of between ++ ys)) (sym same.before_is ∙ sym sides.0) (sym same.behind_is ∙ sym sides.1)
