-- A whole hold with the marks, from the equations that its calls give.
use Rattle.std.proofs.Common.{◌≡◌, ◌≢◌, ◌∷◌, ◌++◌, [], ℕ, zero, suc, List, Bool, true, Option, Some, None, refl, sym, ap, ◌∙◌, subst, slice_get, slice_set}
use Rattle.std.specs.Option.{option_or}
use Rattle.dioc_terms.specs.declared.entries.Entry.{Entry}
use Rattle.dioc_terms.specs.declared.names.Role.{Role}
use Rattle.turn_lock.specs.Views.{entered_known, left_known, left_with_known}
use Rattle.stage.specs.declared.faults.CommitFault.{CommitFault}
use Rattle.stage.specs.declared.faults.CommitFault.TheVariants as fault
use Rattle.stage.specs.declared.faults.Why.{Why}
use Rattle.stage.specs.declared.marks.Marks.{Marks}
use Rattle.stage.specs.Held.{AddedOnce, HeldOnce, KnownHere, RefusedOnce}
use Rattle.stage.specs.Homes.{HomeState, IsSoundHome, with_entry}
use Rattle.stage.specs.Marks.{MarksGrow, marks_of, with_finished, with_stop}
use Rattle.stage.specs.Owners.{cast_place}

-- a mark more leaves the others

pub stop_grows : (home : HomeState) (why : Why) → MarksGrow (marks_of home) (marks_of (with_stop home why))
stop_grows home why = record { stop = λ first h. ap (λ (o : Option Why). option_or o (Some why)) h; finish = λ place h. h }

set_stays : (finished : List Bool) (i place : ℕ) → slice_get finished place ≡ Some true → slice_get (slice_set finished i true) place ≡ Some true
set_stays [] i place h = h
set_stays (m ∷ ms) zero zero h = refl
set_stays (m ∷ ms) zero (suc place) h = h
set_stays (m ∷ ms) (suc i) zero h = h
set_stays (m ∷ ms) (suc i) (suc place) h = set_stays ms i place h

pub finish_grows : (home : HomeState) (q : Role) → MarksGrow (marks_of home) (marks_of (with_finished home q))
finish_grows home q = record { stop = λ why h. h; finish = set_stays home.finished (cast_place home.bundle.cast q) }

some_marks : (m n : Marks) → Some m ≡ Some n → m ≡ n
some_marks m n e = ap (marks_in m) e
  where
    marks_in : Marks → Option Marks → Marks
    marks_in d None = d
    marks_in d (Some x) = x

-- A seat that knew k has the turn and knows u: it has found `home`.
pub record Entered (k u : KnownHere) (home : HomeState) : Type 0 where
  pub base : k.view.base ≡ Some (home.bundle, home.limit)
  pub sound : IsSoundHome home
  pub grown : (m : Marks) → k.at ≡ Some m → MarksGrow m (marks_of home)
  pub knows : u ≡ entered_known k home.history (marks_of home)

module _ (k u : KnownHere) (home : HomeState) (here : Entered k u home) where
  -- what is left has the marks that were found, where what it is meant to be has them
  pub kept : (next after : HomeState) → next ≡ after → MarksGrow (marks_of home) (marks_of after) → (m : Marks) → u.found ≡ Some m → MarksGrow m (marks_of next)
  kept next after is grows m found =
      let same : marks_of home ≡ m = some_marks (marks_of home) m (sym (ap (λ (x : KnownHere). x.found) here.knows) ∙ found) in
      subst (λ (x : Marks). MarksGrow x (marks_of next)) same (subst (λ (h : HomeState). MarksGrow (marks_of home) (marks_of h)) (sym is) grows)

  module _ (l : KnownHere) (next : HomeState) where
    -- the seat has left, and added nothing
    pub held : (after : HomeState) → next ≡ after → home.history ≡ after.history → l ≡ left_known u (marks_of next) → HeldOnce k l home after
    held after is same left =
        let all : l ≡ left_known (entered_known k home.history (marks_of home)) (marks_of after) = left ∙ (λ i. left_known (here.knows i) (marks_of (is i))) in
        record {
          base = here.base;
          sound = here.sound;
          grown = here.grown;
          one_more = ap (λ (x : KnownHere). x.turns) all;
          found = ap (λ (x : KnownHere). x.found) all;
          left = ap (λ (x : KnownHere). x.at) all;
          seen = ap (λ (x : KnownHere). x.view.seen) all ∙ same;
        }

    -- the seat has left with one entry more
    pub held_with : (e : Entry) → next ≡ with_entry home e → ((x : Entry) → next.history ≡ u.view.seen ++ x ∷ [] → l ≡ left_with_known u (x ∷ []) (marks_of next))
        → HeldOnce k l home (with_entry home e)
    held_with e is left =
        let there : next.history ≡ u.view.seen ++ e ∷ [] = ap (λ (h : HomeState). h.history) is ∙ ap (λ (x : KnownHere). x.view.seen ++ e ∷ []) (sym here.knows) in
        let all : l ≡ left_with_known (entered_known k home.history (marks_of home)) (e ∷ []) (marks_of home) = left e there ∙ (λ i. left_with_known (here.knows i) (e ∷ []) (marks_of (is i))) in
        record {
          base = here.base;
          sound = here.sound;
          grown = here.grown;
          one_more = ap (λ (x : KnownHere). x.turns) all;
          found = ap (λ (x : KnownHere). x.found) all;
          left = ap (λ (x : KnownHere). x.at) all;
          seen = ap (λ (x : KnownHere). x.view.seen) all;
        }

    -- what a commit leaves the seat, from what the calls of its hold say, of which one was lent the home as it was found
    module _ (fault_of : HomeState → Option CommitFault) (lent : HomeState) (same : lent ≡ home) where
      pub refused_once : next ≡ lent → l ≡ left_known u (marks_of next) → (f : CommitFault) → (f ≢ fault.Memory → fault_of lent ≡ Some f) → (f ≡ fault.Memory → fault_of lent ≡ None)
          → RefusedOnce fault_of k l f
      refused_once is left f first short = record {
        home = home;
        held = held home (is ∙ same) refl left;
        first = λ more. ap fault_of (sym same) ∙ first more;
        short = λ none. ap fault_of (sym same) ∙ short none;
      }

      pub added_once : fault_of lent ≡ None → (e : Entry) → next ≡ with_entry home e → ((x : Entry) → next.history ≡ u.view.seen ++ x ∷ [] → l ≡ left_with_known u (x ∷ []) (marks_of next))
          → AddedOnce fault_of k l
      added_once free e is left = record {
        home = home;
        entry = e;
        held = held_with e is left;
        free = ap fault_of (sym same) ∙ free;
      }
