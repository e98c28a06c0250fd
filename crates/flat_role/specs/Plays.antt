-- A role that does act after act.
use Rattle.std.specs.Prelude.{◌≡◌, List, [], ◌∷◌, ◌++◌, Option}
use Rattle.dioc_terms.specs.declared.entries.Act.{Act}
use Rattle.dioc_terms.specs.declared.entries.Entry.{Entry}
use Rattle.dioc_terms.specs.Attempts.{Attempt, Stuck, Does}
use Rattle.dioc_terms.specs.Processes.{Process}
use Rattle.dpoc_process.specs.declared.runs.Got.{Got}
use Rattle.dpoc_process.specs.Handed.{handed, Brings, IsEnabled}
use Rattle.dpoc_process.specs.LocalStates.{LocalState, step_at, local_done}
use Rattle.dpoc_process.specs.RoleSteps.{entry_before}
use Rattle.process_steps.specs.Steps.{Deed, Given}

-- the entries so far, and then the role
abbrev pub PlayedSoFar : Type 0
PlayedSoFar = Attempt (List (Option Entry)) LocalState

abbrev pub with_entry : Option Entry → PlayedSoFar → PlayedSoFar
with_entry e Stuck = Stuck
with_entry e (Does es s) = Does (e ∷ es) s

abbrev pub then_plays : Attempt Deed Process → (Deed → Process → PlayedSoFar) → PlayedSoFar
then_plays Stuck rest = Stuck
then_plays (Does d P) rest = with_entry (entry_before d) (rest d P)

-- what a role does by acts, each with what comes to it from outside: the entries, each as far as it
-- is known before its act, and the role after them
abbrev pub played : LocalState → List Act → List Given → PlayedSoFar
played s [] givens = Does [] s
played s (a ∷ acts) [] = Stuck
played s (a ∷ acts) (given ∷ givens) =
    then_plays (step_at s a given) (λ d P. played (local_done s d P) acts givens)

-- each of these acts can be done with what it is handed, which is what comes to it
abbrev pub CanPlay : LocalState → List (Act × Got) → List Given → Type 0
CanPlay s [] givens = Unit {0}
CanPlay s (x ∷ xs) [] = ⊥
CanPlay s (x ∷ xs) (given ∷ givens) = IsEnabled s x.0 (handed x.1)
    × Brings s x.0 (handed x.1) given
    × ((d : Deed) (P : Process) → step_at s x.0 given ≡ Does d P
    → CanPlay (local_done s d P) xs givens)

-- the acts without what they are handed
abbrev pub acts_of : List (Act × Got) → List Act
acts_of [] = []
acts_of (x ∷ xs) = x.0 ∷ acts_of xs

-- whatever comes to these acts, the new entries and the role are those of the definition
abbrev pub Plays : LocalState → List (Act × Got) → List (Option Entry) → List (Option Entry)
    → LocalState → Type 0
Plays s xs old new last = (givens : List Given) → CanPlay s xs givens
    → (es : List (Option Entry)) × (played s (acts_of xs) givens ≡ Does es last) × (new ≡ old ++ es)

-- the same of the first of these acts, so many as were done
abbrev pub PlaysFront : LocalState → List (Act × Got) → List (Option Entry) → List (Option Entry)
    → LocalState → Type 0
PlaysFront s xs old new last = (front : List (Act × Got)) × (rest : List (Act × Got))
    × (xs ≡ front ++ rest) × Plays s front old new last

-- the act's entry, as far as it is known before the act, was added
pub record AddsEntry (s : LocalState) (a : Act) (old new : List (Option Entry)) : Type 0 where
  pub entry : Option Entry
  pub shows : (given : Given) (d : Deed) (P : Process) → step_at s a given ≡ Does d P
      → entry ≡ entry_before d
  pub added : new ≡ old ++ entry ∷ []

-- any two roles that begin as the same and do the same acts, to which the same comes, give the same
-- entries and are the same in the end
abbrev pub PlaysAgree : Type 0
PlaysAgree = (s : LocalState) (xs ys : List (Act × Got)) (givens : List Given)
    → acts_of xs ≡ acts_of ys → CanPlay s xs givens → CanPlay s ys givens
    → (old new other : List (Option Entry)) (last end : LocalState)
    → Plays s xs old new last → Plays s ys old other end → (new ≡ other) × (last ≡ end)
