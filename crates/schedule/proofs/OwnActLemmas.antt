-- What a role lists that acted, once its act is taken out of its list.
use Rattle.std.proofs.Common.{◌≡◌, ◌+◌, ◌-◌, ◌<◌, ℕ, List, [], ◌∷◌, ◌++◌, Bool, true, false, not, length, take, drop, get_or, slice_get, refl, sym, ap, ap₂, ◌∙◌, subst, arith}
use Rattle.std.specs.Prelude.{◌||◌}
use Rattle.std.specs.List.{list_any, remove}
use Rattle.std.proofs.Math.Seq.{drop-append_seam, take-append_seam}
use Rattle.std.proofs.lemmas.Bool.{and_parts, both_ways, cond-true, false_from_ne_true, or_from, or_left, or_right}
use Rattle.std.proofs.lemmas.List.{get_or_at, length-append}
use Rattle.std.proofs.lemmas.List.Edits.{remove-append_right}
use Rattle.std.proofs.lemmas.List.Folds.{list_any-append}
use Rattle.dioc_terms.specs.declared.entries.Act.{Act}
use Rattle.dioc_terms.specs.declared.entries.Act.TheVariants as act
use Rattle.dioc_terms.specs.declared.names.Role.{Role}
use Rattle.dioc_terms.specs.declared.processes.Key.{Key}
use Rattle.dioc_terms.specs.Equality.{act_eq}
use Rattle.dpoc_process.specs.LocalStates.{LacksAt}
use Rattle.marked_laws.proofs.Equality.{act_itself, key_same}
use Rattle.marked_laws.specs.Offers.{distinct_acts}
use Rattle.net_core.proofs.PlacesLemmas.{chosen_places, places_append}
use Rattle.net_core.specs.MovesIn.{chosen}
use Rattle.net_core.specs.Places.{offers_of, places_from, places_of}
use Rattle.network_steps.specs.Network.{Network}
use Rattle.network_steps.specs.Schedule.{is_ready}
use Rattle.process_steps.specs.Steps.{is_offered}
use Rattle.schedule.proofs.PartLemmas.{stands_once}
use Rattle.schedule.proofs.RoleLemmas.{apart_too}
use Rattle.schedule.specs.Agendas.{DidAt, MakesWay, Shown, StandsAt, disturbs, puts_to, takes}

-- an act that stands once in a list is none of the others
module _ (a : Act) where
  none_behind : (front back : List Act) → distinct_acts (front ++ a ∷ back) ≡ true → is_offered a back ≡ false
  none_behind [] back once = not_true (is_offered a back) (and_parts (not (is_offered a back)) (distinct_acts back) once).0
    where
      not_true : (t : Bool) → not t ≡ true → t ≡ false
      not_true true h = cc
      not_true false h = refl
  none_behind (x ∷ front) back once = none_behind front back (and_parts (not (is_offered x (front ++ a ∷ back))) (distinct_acts (front ++ a ∷ back)) once).1

  others_too : (front back : List Act) → is_offered a front ≡ false → is_offered a back ≡ false → is_offered a (front ++ back) ≡ false
  others_too front back before behind = list_any-append (act_eq a) front back ∙ ap₂ (λ s t. s || t) before behind

-- no other takes the message of a take that stands once
none_takes : (k : Key) (acts : List Act) → is_offered (act.Take k) acts ≡ false → list_any (takes k) acts ≡ false
none_takes k [] none = refl
none_takes k (x ∷ xs) none =
    or_from (takes k x) (list_any (takes k) xs)
    (false_from_ne_true (takes k x) (λ yes. both_ways (is_offered (act.Take k) (x ∷ xs)) none (or_left (act_eq (act.Take k) x) (is_offered (act.Take k) xs) (alike x yes))))
    (none_takes k xs (false_from_ne_true (is_offered (act.Take k) xs) (λ yes. both_ways (is_offered (act.Take k) (x ∷ xs)) none (or_right (act_eq (act.Take k) x) (is_offered (act.Take k) xs) yes))))
  where
    alike : (x : Act) → takes k x ≡ true → act_eq (act.Take k) x ≡ true
    alike (act.Take j) h = subst (λ (i : Key). act_eq (act.Take k) (act.Take i) ≡ true) (sym (key_same j k h)) (act_itself (act.Take k))
    alike (act.Put j) h = absurd (both_ways false refl h)
    alike (act.Set j) h = absurd (both_ways false refl h)
    alike (act.Input j) h = absurd (both_ways false refl h)
    alike (act.Pick j) h = absurd (both_ways false refl h)
    alike (act.Scope j) h = absurd (both_ways false refl h)

-- so an act that stands once disturbs another only where it puts a message to its own role
disturbs_none : (q : Role) (a : Act) (others : List Act) → is_offered a others ≡ false → puts_to a q ≡ false → disturbs q a others ≡ false
disturbs_none q (act.Put k) others none other = apart_too q k.to other
disturbs_none q (act.Take k) others none other = none_takes k others none
disturbs_none q (act.Set i) others none other = refl
disturbs_none q (act.Input i) others none other = refl
disturbs_none q (act.Pick i) others none other = refl
disturbs_none q (act.Scope i) others none other = refl

module _ (N : Network) (q : Role) (place : ℕ) (acts : List Act) (places : List ℕ) (did : DidAt N place (q, chosen places acts, acts, places)) where
  abbrev M : Network
  M = did.own.before

  abbrev pub way : MakesWay did.act (offers_of M q) (offers_of N q)
  way = did.own.acted.way

  split : acts ≡ way.front ++ did.act ∷ way.back
  split = ap (λ (x : Shown). x.2) did.own.listed ∙ way.was

  behind : is_offered did.act way.back ≡ false
  behind = none_behind did.act way.front way.back (ap distinct_acts (sym way.was) ∙ did.distinct)

  places_are : places ≡ places_of (is_ready M) (way.front ++ did.act ∷ way.back)
  places_are = ap (λ (x : Shown). x.3) did.own.listed ∙ ap (places_of (is_ready M)) way.was

  -- it stands once among what the role can do
  found : (is_ready M did.act ≡ true) × (place ≡ length (places_of (is_ready M) way.front))
  found =
      stands_once (is_ready M) did.act 0 way.front way.back place way.first behind
      (ap (λ l. slice_get l place)
      (sym (ap₂ (λ (ps : List ℕ) (l : List Act). chosen ps l) places_are split ∙ chosen_places (is_ready M) (way.front ++ did.act ∷ way.back)))
      ∙ did.listed)

  parts : places ≡ places_of (is_ready M) way.front ++ (length way.front ∷ places_from (is_ready M) (length way.front + 1) way.back)
  parts =
      places_are ∙ places_append (is_ready M) 0 way.front (did.act ∷ way.back)
      ∙ ap (λ n. places_of (is_ready M) way.front ++ places_from (is_ready M) n (did.act ∷ way.back)) (omega arith)
      ∙ ap (λ l. places_of (is_ready M) way.front ++ l)
      (cond-true (is_ready M did.act) (length way.front ∷ places_from (is_ready M) (length way.front + 1) way.back) (places_from (is_ready M) (length way.front + 1) way.back) found.0)

  pub place_inside : place < length places
  place_inside =
      omega (
        arith,
        found.1,
        ap length parts,
        length-append (places_of (is_ready M) way.front) (length way.front ∷ places_from (is_ready M) (length way.front + 1) way.back),
      )

  module _ (at : ℕ) (is : at ≡ get_or places place at) where
    at_front : length way.front ≡ at
    at_front = sym (
        is ∙ ap (λ l. get_or l place at) parts
        ∙ get_or_at (places_of (is_ready M) way.front) (length way.front) (places_from (is_ready M) (length way.front + 1) way.back) at place (sym found.1))

    pub inside : at < length acts
    inside = omega (arith, sym at_front, ap length split, length-append way.front (did.act ∷ way.back))

    abbrev pub left : List Act
    left = remove acts at

    -- it is what is taken out
    pub is_taken : (b : Act) → b ≡ get_or acts at b → b ≡ did.act
    is_taken b here = here ∙ ap (λ (l : List Act). get_or l at b) split ∙ get_or_at way.front did.act way.back b at at_front

    rest : left ≡ way.front ++ way.back
    rest =
        let none : at - at ≡ 0 = omega arith in
        ap (λ l. remove l at) split ∙ remove-append_right way.front (did.act ∷ way.back) at at at_front (omega arith)
        ∙ ap (λ n. way.front ++ remove (did.act ∷ way.back) n) none

    front_is : take at left ≡ way.front
    front_is = ap₂ (λ n (l : List Act). take n l) (sym at_front) rest ∙ take-append_seam way.front way.back

    back_is : drop at left ≡ way.back
    back_is = ap₂ (λ n (l : List Act). drop n l) (sym at_front) rest ∙ drop-append_seam way.front way.back

    -- they lack what comes in its place
    pub lacks : LacksAt at left (offers_of N q)
    lacks = (way.news, way.now ∙ ap₂ (λ (xs : List Act) ys. xs ++ (way.news ++ ys)) (sym front_is) (sym back_is))

    -- and of them the role can do what it could
    pub stands : puts_to did.act q ≡ false → StandsAt (is_ready N) place at left places
    stands other =
        let calm : disturbs q did.act (way.front ++ way.back) ≡ false =
        disturbs_none q did.act (way.front ++ way.back) (others_too did.act way.front way.back way.first behind) other in
        let front : places_of (is_ready M) way.front ≡ places_of (is_ready N) (take at left) =
        sym (did.own.acted.front calm) ∙ ap (places_of (is_ready N)) (sym front_is) in
        let back : places_from (is_ready M) (length way.front + 1) way.back ≡ places_from (is_ready N) (at + 1) (drop at left) =
        sym (did.own.acted.back calm) ∙ ap₂ (λ n (l : List Act). places_from (is_ready N) (n + 1) l) at_front (sym back_is) in
        record {
          split = parts ∙ ap₂ (λ (xs : List ℕ) ys. xs ++ ys) front (ap₂ (λ (n : ℕ) ns. n ∷ ns) at_front back);
          long = found.1 ∙ ap length front;
        }
