-- The places of the acts that a role can do.
use Rattle.std.proofs.Common.{◌≡◌, ◌+◌, ◌<◌, ℕ, List, [], ◌∷◌, ◌++◌, Bool, true, false, length, take, get_or, Option, None, Some, refl, ap, ap₂, ◌∙◌, sym, arith, append-nil}
use Rattle.std.specs.Prelude.{filter, if◌then◌else◌, option_map, slice_get}
use Rattle.std.specs.Option.{option_map_or}
use Rattle.std.specs.List.{cons_option}
use Rattle.std.proofs.lemmas.Bool.{cond-true, cond-false}
use Rattle.std.proofs.lemmas.List.{append_assoc, length-append, length-take-le, take_more}
use Rattle.std.proofs.lemmas.Option.{slice_get-map}
use Rattle.dioc_terms.specs.declared.entries.Act.{Act}
use Rattle.dioc_terms.specs.declared.names.Role.{Role}
use Rattle.dioc_terms.specs.Plain.{PlainBundle}
use Rattle.dpoc_process.specs.LocalStates.{LocalState, offered}
use Rattle.marked_laws.proofs.Shapes.{none_some, some_same}
use Rattle.network_steps.specs.Network.{Network}
use Rattle.network_steps.specs.Schedule.{is_ready}
use Rattle.net_core.proofs.NetLemmas.{local_is, network_is, ready_is}
use Rattle.net_core.specs.Deeds.{IsAt, is_there}
use Rattle.net_core.specs.MovesIn.{chosen}
use Rattle.net_core.specs.Nets.{NetState, network_at, network_of}
use Rattle.net_core.specs.Places.{ListedAt, offers_at, offers_of, places_from, places_of}
use Rattle.net_core.specs.Standing.{Parts, HoldsRun, local_in}

-- those of one list behind another
pub places_append : (p : Act → Bool) (n : ℕ) (xs ys : List Act) → places_from p n (xs ++ ys) ≡ places_from p n xs ++ places_from p (n + length xs) ys
places_append p n [] ys = ap (λ m. places_from p m ys) (omega arith)
places_append p n (x ∷ xs) ys = by_test (p x) (places_append p (n + 1) xs ys ∙ ap (λ m. places_from p (n + 1) xs ++ places_from p m ys) (omega arith))
  where
    by_test : (t : Bool) → places_from p (n + 1) (xs ++ ys) ≡ places_from p (n + 1) xs ++ places_from p (n + length (x ∷ xs)) ys
        → (if t then n ∷ places_from p (n + 1) (xs ++ ys) else places_from p (n + 1) (xs ++ ys))
        ≡ (if t then n ∷ places_from p (n + 1) xs else places_from p (n + 1) xs) ++ places_from p (n + length (x ∷ xs)) ys
    by_test true rest = ap (λ l. n ∷ l) rest
    by_test false rest = rest

-- those of one act more
module _ (p : Act → Bool) (xs : List Act) (i : ℕ) (x : Act) (inside : i < length xs) (is : x ≡ get_or xs i x) where
  more : places_of p (take (i + 1) xs) ≡ places_of p (take i xs) ++ (if p x then i ∷ [] else [])
  more =
      ap (places_of p) (take_more xs i x inside)
      ∙ ap (λ (y : Act). places_of p (take i xs ++ y ∷ [])) (sym is)
      ∙ places_append p 0 (take i xs) (x ∷ [])
      ∙ ap (λ n. places_of p (take i xs) ++ (if p x then n ∷ [] else [])) (omega (arith, length-take-le i xs (omega (arith, inside))))

  pub places_more : p x ≡ true → places_of p (take (i + 1) xs) ≡ places_of p (take i xs) ++ i ∷ []
  places_more h = more ∙ ap (λ l. places_of p (take i xs) ++ l) (cond-true (p x) (i ∷ []) [] h)

  pub places_stay : p x ≡ false → places_of p (take (i + 1) xs) ≡ places_of p (take i xs)
  places_stay h = more ∙ ap (λ l. places_of p (take i xs) ++ l) (cond-false (p x) (i ∷ []) [] h) ∙ append-nil (places_of p (take i xs))

got_past : (pre acts : List Act) (a : Act) → slice_get (pre ++ a ∷ acts) (length pre) ≡ Some a
got_past [] acts a = refl
got_past (x ∷ pre) acts a = got_past pre acts a

chosen_behind : (p : Act → Bool) (pre acts : List Act) → chosen (places_from p (length pre) acts) (pre ++ acts) ≡ filter p acts
chosen_behind p pre [] = refl
chosen_behind p pre (a ∷ acts) =
    by_test (p a)
    (ap₂ (λ n xs. chosen (places_from p n acts) xs) (sym (length-append pre (a ∷ []))) (sym (append_assoc pre (a ∷ []) acts))
    ∙ chosen_behind p (pre ++ a ∷ []) acts)
  where
    by_test : (t : Bool) → chosen (places_from p (length pre + 1) acts) (pre ++ a ∷ acts) ≡ filter p acts
        → chosen (if t then length pre ∷ places_from p (length pre + 1) acts else places_from p (length pre + 1) acts) (pre ++ a ∷ acts)
        ≡ (if t then a ∷ filter p acts else filter p acts)
    by_test true rest = ap₂ (λ o ys. cons_option o ys) (got_past pre acts a) rest
    by_test false rest = rest

-- what stands at the places is what passes
pub chosen_places : (p : Act → Bool) (acts : List Act) → chosen (places_of p acts) acts ≡ filter p acts
chosen_places p acts = chosen_behind p [] acts

-- what the role at a place of the cast offers
pub offers_placed : (net : NetState) (place : ℕ) (q : Role) → slice_get net.bundle.cast place ≡ Some q → offers_at net place ≡ offers_of (network_of net) q
offers_placed net place q at = ap (λ (o : Option Role). option_map_or (offers_of (network_of net)) o []) at

module _ (b : PlainBundle) (limit : ℕ) (parts : Parts) (is : HoldsRun b limit parts) where
  -- what a role offers, by its local
  pub offered_is : (q : Role) (local : LocalState) → IsAt parts.cast parts.locals q local → offered local ≡ offers_of (network_at b parts.history) q
  offered_is q local at =
      ap offered (local_is b limit parts is at.place q local at.at at.here)
      ∙ ap (λ (N : Network). offers_of N q) (sym (network_is b parts.history is.network is.runs))

  -- and so by the local at a place of the cast
  pub offers_here : (place : ℕ) (local : LocalState) → slice_get parts.locals place ≡ Some local
      → offered local ≡ offers_at (record { bundle = b; history = parts.history; limit = limit }) place
  offers_here place local here =
      by_role (slice_get b.cast place) (sym (slice_get-map (local_in is.network) b.cast place) ∙ ap (λ l. slice_get l place) (sym is.locals) ∙ here)
      ∙ ap (λ (N : Network). option_map_or (offers_of N) (slice_get b.cast place) []) (sym (network_is b parts.history is.network is.runs))
    where
      by_role : (o : Option Role) → option_map (local_in is.network) o ≡ Some local → offered local ≡ option_map_or (offers_of is.network) o []
      by_role None h = absurd (none_some h)
      by_role (Some q) h = ap offered (sym (some_same h))

  -- and whether what an act needs is there, by the mail
  pub there_is : (a : Act) → is_there a parts.mail ≡ is_ready (network_at b parts.history) a
  there_is a = ready_is b limit parts is a ∙ ap (λ (N : Network). is_ready N a) (sym (network_is b parts.history is.network is.runs))

  module _ (q : Role) (acts : List Act) (places : List ℕ) (at : ListedAt parts.cast parts.locals parts.mail q acts places) where
    pub acts_are : acts ≡ offers_of (network_at b parts.history) q
    acts_are = at.offers ∙ offered_is q at.local at.is_at

    pub places_are : places ≡ places_of (is_ready (network_at b parts.history)) acts
    places_are = at.ready ∙ (λ j. places_of (λ a. there_is a j) acts)
