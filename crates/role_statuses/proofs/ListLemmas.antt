-- What the list of the places that can act says of code and marks.
use Rattle.std.proofs.Common.{◌≡◌, ◌+◌, ◌<◌, ◌≤◌, ℕ, suc, List, [], ◌∷◌, ◌++◌, true, false, ◌&&◌, length, map, refl, ap, ap₂, ◌∙◌, sym, subst, arith, ⊎_elim}
use Rattle.std.specs.Prelude.{nat_le, nat_lt}
use Rattle.std.specs.List.{list_all}
use Rattle.std.proofs.lemmas.Bool.Decides.{nat_tests}
use Rattle.std.proofs.lemmas.Bool.{cases_Bool, cond-true, cond-false}
use Rattle.dioc_terms.specs.declared.names.Role.{Role}
use Rattle.dioc_terms.specs.Processes.{Process, Seq, Par, IfLead, IfFollow, WhileLead, WhileFollow, ScopeLead, ScopeFollow}
use Rattle.process_steps.specs.Steps.{ended}
use Rattle.role_statuses.specs.Flat.{Marks, PathAt, Stands, inner, size}
use Rattle.role_statuses.specs.Kept.{IsKept, kept, marked}
use Rattle.role_statuses.specs.ListLaws.{PlacesAreListed, active, places_of, rises, spot_at}
use Rattle.role_statuses.specs.Local.{Layout}
use Rattle.role_statuses.specs.Marks as mark
use Rattle.role_statuses.specs.Paths.{Hole, InFirst, InSecond, InLeft, InRight, InLeadBranch, InFollowBranch, InLeadTurn, InFollowTurn, InLeadScope, InFollowScope, top_static}
use Rattle.role_statuses.specs.PlaceLaws.{IsCodeOf, status_at}
use Rattle.role_statuses.specs.Spots.{Spot, spot_of, spots, still}
use Rattle.role_statuses.specs.Statuses.{Status, Untouched, Finished, First, Second, Both, Branch, Body, is_over, leaves}
use Rattle.role_statuses.proofs.ActiveLemmas.{over-spots}
use Rattle.role_statuses.proofs.PlaceStepLemmas.{all_fresh}
use Rattle.role_statuses.proofs.ReadLemmas.{over-reads}
use Rattle.role_statuses.proofs.SpotLemmas.{none-over}

-- The code says each part at its place.

abbrev pub PartsLaid : Layout → ℕ → Process → Type 0
PartsLaid code b (Seq P Q) =
    ((code.statics (b + inner P) ≡ P) × PartsLaid code b P) × ((code.statics (b + size P + inner Q) ≡ Q) × PartsLaid code (b + size P) Q)
PartsLaid code b (Par P Q) =
    ((code.statics (b + inner P) ≡ P) × PartsLaid code b P) × ((code.statics (b + size P + inner Q) ≡ Q) × PartsLaid code (b + size P) Q)
PartsLaid code b (IfLead i g others P Q) =
    ((code.statics (b + inner P) ≡ P) × PartsLaid code b P) × ((code.statics (b + size P + inner Q) ≡ Q) × PartsLaid code (b + size P) Q)
PartsLaid code b (IfFollow i leader P Q) =
    ((code.statics (b + inner P) ≡ P) × PartsLaid code b P) × ((code.statics (b + size P + inner Q) ≡ Q) × PartsLaid code (b + size P) Q)
PartsLaid code b (WhileLead i g others P) = (code.statics (b + inner P) ≡ P) × PartsLaid code b P
PartsLaid code b (WhileFollow i leader P) = (code.statics (b + inner P) ≡ P) × PartsLaid code b P
PartsLaid code b (ScopeLead head others P) = (code.statics (b + inner P) ≡ P) × PartsLaid code b P
PartsLaid code b (ScopeFollow i leader P) = (code.statics (b + inner P) ≡ P) × PartsLaid code b P
PartsLaid code b P = Unit {0}

abbrev pub Laid : Layout → ℕ → Process → Type 0
Laid code b P = (code.statics (b + inner P) ≡ P) × PartsLaid code b P

module _ (code : Layout) (n : ℕ) (W : Process) (laid : IsCodeOf code n W) where
  flat_base : (b : ℕ) → b ≡ b + 0
  flat_base b = omega arith

  own_laid : (hs : List Hole) (P : Process) (b : ℕ) → PathAt 0 b hs P → top_static hs P ≡ W → PartsLaid code b P → Laid code b P
  own_laid hs P b p e parts = ((laid.ways hs P b p e).static, parts)

  -- what it says of a way, it says of each part of its part
  parts_laid : (hs : List Hole) (P : Process) (b : ℕ) → PathAt 0 b hs P → top_static hs P ≡ W → PartsLaid code b P
  parts_laid hs (Seq P Q) b p e = (
    own_laid (InFirst Q ∷ hs) P b (b, flat_base b, p) e (parts_laid (InFirst Q ∷ hs) P b (b, flat_base b, p) e),
    own_laid (InSecond P ∷ hs) Q (b + size P) (b, refl, p) e (parts_laid (InSecond P ∷ hs) Q (b + size P) (b, refl, p) e),
  )
  parts_laid hs (Par P Q) b p e = (
    own_laid (InLeft Untouched Q ∷ hs) P b (b, flat_base b, p) e (parts_laid (InLeft Untouched Q ∷ hs) P b (b, flat_base b, p) e),
    own_laid (InRight Untouched P ∷ hs) Q (b + size P) (b, refl, p) e (parts_laid (InRight Untouched P ∷ hs) Q (b + size P) (b, refl, p) e),
  )
  parts_laid hs (IfLead i g others P Q) b p e = (
    own_laid (InLeadBranch true i g others Q ∷ hs) P b (b, flat_base b, p) e (parts_laid (InLeadBranch true i g others Q ∷ hs) P b (b, flat_base b, p) e),
    own_laid (InLeadBranch false i g others P ∷ hs) Q (b + size P) (b, refl, p) e (parts_laid (InLeadBranch false i g others P ∷ hs) Q (b + size P) (b, refl, p) e),
  )
  parts_laid hs (IfFollow i leader P Q) b p e = (
    own_laid (InFollowBranch true i leader Q ∷ hs) P b (b, flat_base b, p) e (parts_laid (InFollowBranch true i leader Q ∷ hs) P b (b, flat_base b, p) e),
    own_laid (InFollowBranch false i leader P ∷ hs) Q (b + size P) (b, refl, p) e (parts_laid (InFollowBranch false i leader P ∷ hs) Q (b + size P) (b, refl, p) e),
  )
  parts_laid hs (WhileLead i g others P) b p e = own_laid (InLeadTurn i g others ∷ hs) P b (b, flat_base b, p) e (parts_laid (InLeadTurn i g others ∷ hs) P b (b, flat_base b, p) e)
  parts_laid hs (WhileFollow i leader P) b p e = own_laid (InFollowTurn i leader ∷ hs) P b (b, flat_base b, p) e (parts_laid (InFollowTurn i leader ∷ hs) P b (b, flat_base b, p) e)
  parts_laid hs (ScopeLead head others P) b p e = own_laid (InLeadScope head others ∷ hs) P b (b, flat_base b, p) e (parts_laid (InLeadScope head others ∷ hs) P b (b, flat_base b, p) e)
  parts_laid hs (ScopeFollow i leader P) b p e = own_laid (InFollowScope i leader ∷ hs) P b (b, flat_base b, p) e (parts_laid (InFollowScope i leader ∷ hs) P b (b, flat_base b, p) e)
  parts_laid hs P b p e = tt

  pub part-laid : (hs : List Hole) (P : Process) (b : ℕ) → PathAt 0 b hs P → top_static hs P ≡ W → Laid code b P
  part-laid hs P b p e = own_laid hs P b p e (parts_laid hs P b p e)

module _ (me : Role) (code : Layout) (marks : Marks) where
  -- what the places of a list say
  abbrev pub seen : List Spot → List Spot
  seen ss = map (spot_at me code marks) (places_of ss)

  seen-append : (xs ys : List Spot) → seen (xs ++ ys) ≡ seen xs ++ seen ys
  seen-append [] ys = refl
  seen-append (x ∷ xs) ys = ap (λ ss. spot_at me code marks x.place ∷ ss) (seen-append xs ys)

  both_seen : (xs ys : List Spot) → xs ≡ seen xs → ys ≡ seen ys → xs ++ ys ≡ seen (xs ++ ys)
  both_seen xs ys h k = ap₂ (λ us vs. us ++ vs) h k ∙ sym (seen-append xs ys)

  -- a place with its own status
  lone : (b : ℕ) (x : Status) (P : Process) → code.statics (b + inner P) ≡ P → status_at marks (b + inner P) ≡ x → spot_of me b x P ≡ seen (spot_of me b x P)
  lone b x P static says = ⊎_elim
      (λ over. none_seen over)
      (λ goes. one_seen goes)
      (cases_Bool (is_over me x P))
    where
      none_seen : is_over me x P ≡ true → spot_of me b x P ≡ seen (spot_of me b x P)
      none_seen over = let e = cond-true (is_over me x P) [] (record { place = b + inner P; acts = leaves me x P } ∷ []) over in e ∙ ap seen (sym e)

      one_seen : is_over me x P ≡ false → spot_of me b x P ≡ seen (spot_of me b x P)
      one_seen goes = let e = cond-false (is_over me x P) [] (record { place = b + inner P; acts = leaves me x P } ∷ []) goes in
          e ∙ ap₂ (λ y S. record { place = b + inner P; acts = leaves me y S } ∷ []) (sym says) (sym static) ∙ ap seen (sym e)

  -- of a static process
  still_seen : (b : ℕ) (P : Process) → Laid code b P → ((k : ℕ) → b ≤ k → k < b + size P → marks k ≡ mark.Untouched) → still me b P ≡ seen (still me b P)
  still_seen b (Seq P Q) laid fresh = ⊎_elim
      (λ over. let e = cond-true (ended P) (still me (b + size P) Q) (still me b P) over in
      e ∙ still_seen (b + size P) Q laid.1.1 (λ k l u. fresh k (omega arith) (omega arith)) ∙ ap seen (sym e))
      (λ goes. let e = cond-false (ended P) (still me (b + size P) Q) (still me b P) goes in
      e ∙ still_seen b P laid.1.0 (λ k l u. fresh k l (omega arith)) ∙ ap seen (sym e))
      (cases_Bool (ended P))
  still_seen b (Par P Q) laid fresh = both_seen (still me b P) (still me (b + size P) Q)
      (still_seen b P laid.1.0 (λ k l u. fresh k l (omega arith))) (still_seen (b + size P) Q laid.1.1 (λ k l u. fresh k (omega arith) (omega arith)))
  still_seen b P laid fresh = lone b Untouched P laid.0 (ap (λ m. marked m Finished Finished) (fresh (b + inner P) (omega arith) (omega arith)))

  pub spots-seen : (b : ℕ) (x : Status) (P : Process) → Laid code b P → Stands me marks b x P → spots me b x P ≡ seen (spots me b x P)
  spots-seen b Untouched P laid s = still_seen b P laid (all_fresh me marks b P s)
  spots-seen b (First x) (Seq P Q) laid s = spots-seen b x P laid.1.0 s.1.0
  spots-seen b (Second x) (Seq P Q) laid s = spots-seen (b + size P) x Q laid.1.1 s.1
  spots-seen b (Both x y) (Par P Q) laid s = both_seen (spots me b x P) (spots me (b + size P) y Q) (spots-seen b x P laid.1.0 s.1.0) (spots-seen (b + size P) y Q laid.1.1 s.1.1)
  spots-seen b (Branch true x) (IfLead i g others P Q) laid s = spots-seen b x P laid.1.0 s.1
  spots-seen b (Branch false x) (IfLead i g others P Q) laid s = spots-seen (b + size P) x Q laid.1.1 s.1
  spots-seen b (Branch true x) (IfFollow i leader P Q) laid s = spots-seen b x P laid.1.0 s.1
  spots-seen b (Branch false x) (IfFollow i leader P Q) laid s = spots-seen (b + size P) x Q laid.1.1 s.1
  spots-seen b (Body x) (WhileLead i g others P) laid s = spots-seen b x P laid.1 s.1
  spots-seen b (Body x) (WhileFollow i leader P) laid s = spots-seen b x P laid.1 s.1
  spots-seen b (Body x) (ScopeLead head others P) laid s = spots-seen b x P laid.1 s.1
  spots-seen b (Body x) (ScopeFollow i leader P) laid s = spots-seen b x P laid.1 s.1
  spots-seen b (First x) P laid s = refl
  spots-seen b (Second x) P laid s = refl
  spots-seen b (Both x y) P laid s = refl
  spots-seen b (Branch t x) P laid s = refl
  spots-seen b (Body x) P laid s = refl
  spots-seen b x P laid s = lone b x P laid.0 (ap (λ m. marked m Finished Finished) s.0)

  -- of two lists side by side, each
  sides_seen : (xs ys : List Spot) → xs ++ ys ≡ seen (xs ++ ys) → (xs ≡ seen xs) × (ys ≡ seen ys)
  sides_seen [] ys h = (refl, h)
  sides_seen (x ∷ xs) ys h = let k = sides_seen xs ys (same_rest h) in (ap₂ (λ z ss. z ∷ ss) (same_first h) k.0, k.1)
    where
      same_first : {u v : Spot} {us vs : List Spot} → u ∷ us ≡ v ∷ vs → u ≡ v
      same_first h = cc

      same_rest : {u v : Spot} {us vs : List Spot} → u ∷ us ≡ v ∷ vs → us ≡ vs
      same_rest h = cc

-- Where they stand.

abbrev pub Rises : ℕ → ℕ → List Spot → Type 0
Rises low high [] = low ≤ high
Rises low high (s ∷ ss) = (low ≤ s.place) × Rises (suc s.place) high ss

rise_later : (low b high : ℕ) (ss : List Spot) → low ≤ b → Rises b high ss → Rises low high ss
rise_later low b high [] l h = omega (arith, l, h)
rise_later low b high (s ∷ ss) l h = (omega (arith, l, h.0), h.1)

rise_both : (low b high : ℕ) (xs ys : List Spot) → Rises low b xs → Rises b high ys → Rises low high (xs ++ ys)
rise_both low b high [] ys h k = rise_later low b high ys h k
rise_both low b high (x ∷ xs) ys h k = (h.0, rise_both (suc x.place) b high xs ys h.1 k)

rise_to : (low b high : ℕ) (ss : List Spot) → Rises low b ss → b ≤ high → Rises low high ss
rise_to low b high [] h l = omega (arith, l, h)
rise_to low b high (s ∷ ss) h l = (h.0, rise_to (suc s.place) b high ss h.1 l)

module _ (me : Role) where
  spot_rises : (b : ℕ) (x : Status) (P : Process) → Rises b (b + size P) (spot_of me b x P)
  spot_rises b x P = ⊎_elim
      (λ over. subst (Rises b (b + size P)) (sym (cond-true (is_over me x P) [] (record { place = b + inner P; acts = leaves me x P } ∷ []) over)) (omega arith))
      (λ goes. subst (Rises b (b + size P)) (sym (cond-false (is_over me x P) [] (record { place = b + inner P; acts = leaves me x P } ∷ []) goes)) (omega arith, omega arith))
      (cases_Bool (is_over me x P))

  -- those of the first part, and those of the second
  first_rises : (b : ℕ) (P Q : Process) (ss : List Spot) → Rises b (b + size P) ss → Rises b (b + suc (size P + size Q)) ss
  first_rises b P Q ss h = rise_to b (b + size P) (b + suc (size P + size Q)) ss h (omega arith)

  second_rises : (b : ℕ) (P Q : Process) (ss : List Spot) → Rises (b + size P) (b + size P + size Q) ss → Rises b (b + suc (size P + size Q)) ss
  second_rises b P Q ss h = rise_later b (b + size P) (b + suc (size P + size Q)) ss (omega arith) (rise_to (b + size P) (b + size P + size Q) (b + suc (size P + size Q)) ss h (omega arith))

  both_rise : (b : ℕ) (P Q : Process) (xs ys : List Spot) → Rises b (b + size P) xs → Rises (b + size P) (b + size P + size Q) ys → Rises b (b + suc (size P + size Q)) (xs ++ ys)
  both_rise b P Q xs ys h k = rise_to b (b + size P + size Q) (b + suc (size P + size Q)) (xs ++ ys) (rise_both b (b + size P) (b + size P + size Q) xs ys h k) (omega arith)

  only_rises : (b : ℕ) (P : Process) (ss : List Spot) → Rises b (b + size P) ss → Rises b (b + suc (size P)) ss
  only_rises b P ss h = rise_to b (b + size P) (b + suc (size P)) ss h (omega arith)

  still_rises : (b : ℕ) (P : Process) → Rises b (b + size P) (still me b P)
  still_rises b (Seq P Q) = ⊎_elim
      (λ over. subst (Rises b (b + size (Seq P Q))) (sym (cond-true (ended P) (still me (b + size P) Q) (still me b P) over)) (second_rises b P Q (still me (b + size P) Q) (still_rises (b + size P) Q)))
      (λ goes. subst (Rises b (b + size (Seq P Q))) (sym (cond-false (ended P) (still me (b + size P) Q) (still me b P) goes)) (first_rises b P Q (still me b P) (still_rises b P)))
      (cases_Bool (ended P))
  still_rises b (Par P Q) = both_rise b P Q (still me b P) (still me (b + size P) Q) (still_rises b P) (still_rises (b + size P) Q)
  still_rises b P = spot_rises b Untouched P

  pub spots-rise : (b : ℕ) (x : Status) (P : Process) → Rises b (b + size P) (spots me b x P)
  spots-rise b Untouched P = still_rises b P
  spots-rise b (First x) (Seq P Q) = first_rises b P Q (spots me b x P) (spots-rise b x P)
  spots-rise b (Second x) (Seq P Q) = second_rises b P Q (spots me (b + size P) x Q) (spots-rise (b + size P) x Q)
  spots-rise b (Both x y) (Par P Q) = both_rise b P Q (spots me b x P) (spots me (b + size P) y Q) (spots-rise b x P) (spots-rise (b + size P) y Q)
  spots-rise b (Branch true x) (IfLead i g others P Q) = first_rises b P Q (spots me b x P) (spots-rise b x P)
  spots-rise b (Branch false x) (IfLead i g others P Q) = second_rises b P Q (spots me (b + size P) x Q) (spots-rise (b + size P) x Q)
  spots-rise b (Branch true x) (IfFollow i leader P Q) = first_rises b P Q (spots me b x P) (spots-rise b x P)
  spots-rise b (Branch false x) (IfFollow i leader P Q) = second_rises b P Q (spots me (b + size P) x Q) (spots-rise (b + size P) x Q)
  spots-rise b (Body x) (WhileLead i g others P) = only_rises b P (spots me b x P) (spots-rise b x P)
  spots-rise b (Body x) (WhileFollow i leader P) = only_rises b P (spots me b x P) (spots-rise b x P)
  spots-rise b (Body x) (ScopeLead head others P) = only_rises b P (spots me b x P) (spots-rise b x P)
  spots-rise b (Body x) (ScopeFollow i leader P) = only_rises b P (spots me b x P) (spots-rise b x P)
  spots-rise b x P = spot_rises b x P

  -- of a whole
  whole_rises : (marks : Marks) (W : Process) → Rises 0 (suc (inner W)) (spots me 0 (kept marks 0 W) W)
  whole_rises marks W = rise_to 0 (0 + size W) (suc (inner W)) (spots me 0 (kept marks 0 W) W) (spots-rise 0 (kept marks 0 W) W) (omega arith)

is_le : (i j : ℕ) → i ≤ j → nat_le i j ≡ true
is_le i j h = grind (arith, nat_tests)

is_lt : (i j : ℕ) → i < j → nat_lt i j ≡ true
is_lt i j h = grind (arith, nat_tests)

rises_tell : (low high : ℕ) (ss : List Spot) → Rises low high ss → rises low high (places_of ss) ≡ true
rises_tell low high [] h = is_le low high h
rises_tell low high (s ∷ ss) h = ap₂ (λ t u. t && u) (is_le low s.place h.0) (rises_tell (suc s.place) high ss h.1)

rise_room : (low high : ℕ) (ss : List Spot) → Rises low high ss → low + length (places_of ss) ≤ high
rise_room low high [] h = omega (arith, h)
rise_room low high (s ∷ ss) h = let rest : suc s.place + length (places_of ss) ≤ high = rise_room (suc s.place) high ss h.1 in
    omega (arith, h.0, rest)

all_inside : (low high n : ℕ) (ss : List Spot) → Rises low high ss → high ≤ n → list_all (λ p. nat_lt p n) (places_of ss) ≡ true
all_inside low high n [] h l = refl
all_inside low high n (s ∷ ss) h l = let rest : suc s.place + length (places_of ss) ≤ high = rise_room (suc s.place) high ss h.1 in
    ap₂ (λ t u. t && u) (is_lt s.place n (omega (arith, rest, l))) (all_inside (suc s.place) high n ss h.1 l)

pub places-are_listed : PlacesAreListed
places-are_listed = record {
  listed = whole;
  part = λ me code n marks W laid hs P b p e stands. spots-seen me code marks b (kept marks b P) P (part-laid code n W laid hs P b p e) stands;
  some = λ me code n marks W before between behind laid k e.
      (sides_seen me code marks between behind (sides_seen me code marks before (between ++ behind) (sym e ∙ whole me code n marks W laid k ∙ ap (seen me code marks) e)).1).0;
  inside = λ me code n marks W laid. all_inside 0 (suc (inner W)) n (spots me 0 (kept marks 0 W) W) (whole_rises me marks W) (omega (arith, laid.room));
  sorted = λ me marks W. rises_tell 0 (suc (inner W)) (spots me 0 (kept marks 0 W) W) (whole_rises me marks W);
  few = λ me marks W. let room : 0 + length (active me marks W) ≤ suc (inner W) = rise_room 0 (suc (inner W)) (spots me 0 (kept marks 0 W) W) (whole_rises me marks W) in omega (arith, room);
  none_over = λ me marks W k h. sym (over-reads me (kept marks 0 W) W) ∙ none-over me 0 (kept marks 0 W) W k.sound h;
  over_none = λ me marks W k h. over-spots me 0 (kept marks 0 W) W k.sound (over-reads me (kept marks 0 W) W ∙ h);
}
  where
    whole : (me : Role) (code : Layout) (n : ℕ) (marks : Marks) (W : Process) → IsCodeOf code n W → IsKept me marks W
        → spots me 0 (kept marks 0 W) W ≡ seen me code marks (spots me 0 (kept marks 0 W) W)
    whole me code n marks W laid k = spots-seen me code marks 0 (kept marks 0 W) W (part-laid code n W laid [] W 0 refl refl) k.stands
