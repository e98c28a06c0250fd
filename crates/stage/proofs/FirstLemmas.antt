-- A look for the first act that may come: what it leaves its seat, and what it says of each act where it finds none.
use Rattle.std.proofs.Common.{◌≡◌, ◌+◌, ℕ, zero, suc, List, [], ◌∷◌, Bool, false, Option, Some, None, slice_get, refl, sym, ◌∙◌, subst, ⊎_elim}
use Rattle.std.specs.List.{position, position_from}
use Rattle.std.specs.Prelude.{not}
use Rattle.std.proofs.lemmas.Bool.{cases_Bool, cond-true, cond-false}
use Rattle.std.proofs.lemmas.Iterator.Adapters.{position_from-zero}
use Rattle.dioc_terms.specs.declared.entries.Act.{Act}
use Rattle.dioc_terms.specs.declared.entries.Entry.{Entry}
use Rattle.marked_laws.proofs.Shapes.{none_some, some_same}
use Rattle.turn_lock.specs.declared.views.View.{View}
use Rattle.turn_lock.specs.Views.{entered, left}
use Rattle.stage.proofs.HoldLemmas.{left_same}
use Rattle.stage.specs.declared.faults.CommitFault.{CommitFault}
use Rattle.stage.specs.declared.faults.CommitFault.TheVariants as fault
use Rattle.stage.specs.Faults.{act_fault, comes_now, says_not_yet}
use Rattle.stage.specs.Holds.{FoundFirst}
use Rattle.stage.specs.Homes.{HomeState, IsSoundHome}
use Rattle.stage.specs.Seats.{Base, RefusedFor, StillStands}

-- from what the calls of a hold say, of which one was lent the home as it was found
pub found_first : (v u w : View Entry Base) (home lent : HomeState) → v.base ≡ Some (home.bundle, home.limit) → StillStands v home.history → IsSoundHome home
    → u ≡ entered v home.history → lent ≡ home → w ≡ left u → (acts : List Act) (first : Option ℕ) → first ≡ position (comes_now lent) acts
    → FoundFirst v w acts first
found_first v u w home lent base still sound view same leaves acts first is =
    subst (λ x. FoundFirst v x acts first) (sym (left_same v u w home view leaves)) (record {
      looked = record { same_base = refl; same_number = refl; same_made = refl; same_mine = refl; still = still };
      home = home;
      found = record { base = base; history = refl; sound = sound };
      first_is = subst (λ (h : HomeState). first ≡ position (comes_now h) acts) same is;
    })

module _ (p : Act → Bool) where
  some_none : {A : Type 0} {x : A} → Some x ≡ None → ⊥
  some_none h = cc

  none_from : (acts : List Act) (n : ℕ) → position_from p n acts ≡ None → (i : ℕ) (a : Act) → slice_get acts i ≡ Some a → p a ≡ false
  none_from [] n h i a at = absurd (none_some at)
  none_from (x ∷ xs) n h zero a at = subst (λ y. p y ≡ false) (some_same at)
      (⊎_elim (λ here. absurd (some_none (sym (cond-true (p x) (Some n) (position_from p (n + 1) xs) here) ∙ h))) (λ there. there) (cases_Bool (p x)))
  none_from (x ∷ xs) n h (suc i) a at = ⊎_elim
      (λ here. absurd (some_none (sym (cond-true (p x) (Some n) (position_from p (n + 1) xs) here) ∙ h)))
      (λ there. none_from xs (n + 1) (sym (cond-false (p x) (Some n) (position_from p (n + 1) xs) there) ∙ h) i a at)
      (cases_Bool (p x))

  -- a test that finds no place passes for none
  none_at : (acts : List Act) → position p acts ≡ None → (i : ℕ) (a : Act) → slice_get acts i ≡ Some a → p a ≡ false
  none_at acts h = none_from acts 0 (sym (position_from-zero p acts) ∙ h)

not_yet : (f : Option CommitFault) → not (says_not_yet f) ≡ false → f ≡ Some fault.NotYet
not_yet None h = cc
not_yet (Some (fault.Stopped why)) h = cc
not_yet (Some fault.Ended) h = cc
not_yet (Some fault.NoMore) h = cc
not_yet (Some fault.Full) h = cc
not_yet (Some fault.NotYet) h = refl
not_yet (Some fault.Memory) h = cc

-- where no act may come each is refused so
pub none_comes : (acts : List Act) (v w : View Entry Base) (first : Option ℕ) → FoundFirst v w acts first → first ≡ None
    → (i : ℕ) (a : Act) → slice_get acts i ≡ Some a → RefusedFor (act_fault a) v w fault.NotYet
none_comes acts v w first found none i a at = record {
  looked = found.looked;
  home = found.home;
  found = found.found;
  first = λ _. not_yet (act_fault a found.home) (none_at (comes_now found.home) acts (sym found.first_is ∙ none) i a at);
}
