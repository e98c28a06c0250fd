-- What statuses become, by computing.
use Rattle.std.proofs.Common.{◌≡◌, ℕ, List, [], ◌∷◌, true, false, refl}
use Rattle.dioc_terms.specs.declared.names.Role.{Role}
use Rattle.dioc_terms.specs.declared.names.Index.{Index}
use Rattle.dioc_terms.specs.declared.values.Value.TheVariants as value
use Rattle.dioc_terms.specs.declared.processes.Tag.TheVariants.{Choice, Go, Turn, Begin, End, Out}
use Rattle.dioc_terms.specs.declared.processes.ScopeHead.{ScopeHead}
use Rattle.dioc_terms.specs.declared.entries.Act.{Act}
use Rattle.dioc_terms.specs.declared.entries.Act.TheVariants as act
use Rattle.dioc_terms.specs.Attempts.{Attempt, Stuck, Does}
use Rattle.dioc_terms.specs.Expressions.{Expression, Const}
use Rattle.dioc_terms.specs.Processes.{Process, Skip, Assign, Seq, Par, IfLead, WhileLead, WhileFollow, ScopeLead, ScopeFollow, Tell, Gather, Nothing, More, Flag, Keep, Part, Done}
use Rattle.dioc_terms.specs.Stores.{fresh_store}
use Rattle.process_steps.specs.Steps.{Deed, Given, Alone, Got, FromBook, Keeps, Replaces, key, step}
use Rattle.role_statuses.specs.Statuses.{Status, Untouched, Finished, First, Second, Both, Telling, Branch, Body, Gathering, Ending, Left, Waiting, Became, read, leaves}
use Rattle.role_statuses.specs.Moves.{move}

abbrev p : Role
p = record { 0 = 112 ∷ [] }

abbrev q : Role
q = record { 0 = 113 ∷ [] }

abbrev at : ℕ → Index
at n = record { epoch = 0; place = n }

abbrev yes : Expression
yes = Const (value.Bool true)

abbrev no : Expression
no = Const (value.Bool false)

abbrev set : ℕ → Process
set n = Assign (at n) (120 ∷ []) yes

data Event : Type 0 where
  by : Act → Given → Event

abbrev free : Act → Event
free a = by a Alone

-- what p's status becomes by these acts, Finished where one is stuck
abbrev next : Attempt Deed Status → Status
next Stuck = Finished
next (Does d x) = x

abbrev one : Process → Status → Event → Status
one P x (by a given) = next (move p (fresh_store []) x P a given)

abbrev run : Process → Status → List Event → Status
run P x [] = x
run P x (e ∷ es) = run P (one P x e) es

-- the same of the process itself, by its steps
abbrev left_of : Process → Attempt Deed Process → Process
left_of P Stuck = P
left_of P (Does d Q) = Q

abbrev one_step : Process → Event → Process
one_step P (by a given) = left_of P (step p (fresh_store []) P a given)

abbrev steps : Process → List Event → Process
steps P [] = P
steps P (e ∷ es) = steps (one_step P e) es

-- 1. a sequence with an ended first part: it stays until the second acts, and then is gone
first_ended : read p Untouched (Seq Skip (set 1)) ≡ Seq Skip (set 1)
first_ended = refl

first_ended_goes : run (Seq Skip (Seq (set 1) (set 2))) Untouched (free (act.Set (at 1)) ∷ []) ≡ Second (Second Untouched)
first_ended_goes = refl

-- 2. a parallel of ended parts ends a sequence's first part, and keeps its own parts where it stands alone
par_ended : run (Seq (Par (set 1) Skip) (set 2)) Untouched (free (act.Set (at 1)) ∷ []) ≡ Second Untouched
par_ended = refl

par_keeps : read p (run (Par (set 1) (Par Skip Skip)) Untouched (free (act.Set (at 1)) ∷ [])) (Par (set 1) (Par Skip Skip)) ≡ Par Skip (Par Skip Skip)
par_keeps = refl

-- 3. a choice that tells one other, and then its empty branch ends the sequence's first part
abbrev choosing : Process
choosing = Seq (IfLead (at 1) no (q ∷ []) (set 2) Skip) (set 3)

chosen_told : run choosing Untouched (free (act.Pick (at 1)) ∷ []) ≡ First (Telling false (key p q (at 1) Choice) (Flag false) Nothing)
chosen_told = refl

chosen_empty : run choosing Untouched (free (act.Pick (at 1)) ∷ free (act.Put (key p q (at 1) Choice)) ∷ []) ≡ Second Untouched
chosen_empty = refl

-- 4. a choice with nobody to tell
chosen_alone : run (IfLead (at 1) yes [] (set 2) Skip) Untouched (free (act.Pick (at 1)) ∷ []) ≡ Branch true Untouched
chosen_alone = refl

-- 5. a loop of one role with an empty body: a pick gives the loop itself
loop_alone : run (WhileLead (at 1) yes [] Skip) Untouched (free (act.Pick (at 1)) ∷ free (act.Pick (at 1)) ∷ []) ≡ Untouched
loop_alone = refl

-- 6. a turn of a loop with another role, from the pick to the pick
abbrev looping : Process
looping = WhileLead (at 1) yes (q ∷ []) (set 2)

abbrev a_turn : List Event
a_turn = free (act.Pick (at 1)) ∷ free (act.Put (key p q (at 1) Go)) ∷ free (act.Set (at 2)) ∷ by (act.Take (key q p (at 1) Turn)) (Got Done) ∷ []

turn_told : run looping Untouched (free (act.Pick (at 1)) ∷ []) ≡ Telling true (key p q (at 1) Go) (Flag true) Nothing
turn_told = refl

turn_begun : run looping Untouched (free (act.Pick (at 1)) ∷ free (act.Put (key p q (at 1) Go)) ∷ []) ≡ Body Untouched
turn_begun = refl

turn_whole : run looping Untouched a_turn ≡ Untouched
turn_whole = refl

turn_steps : steps looping a_turn ≡ looping
turn_steps = refl

loop_left : run (WhileLead (at 1) no (q ∷ []) (set 2)) Untouched (free (act.Pick (at 1)) ∷ []) ≡ Left (key p q (at 1) Go) (Flag false) Nothing
loop_left = refl

-- 7. a follower's turn
follow_whole : run (WhileFollow (at 1) q (set 2)) Untouched (by (act.Take (key q p (at 1) Go)) (Got (Flag true)) ∷ free (act.Set (at 2)) ∷ []) ≡ Ending
follow_whole = refl

follow_read : read p Ending (WhileFollow (at 1) q (set 2)) ≡ Seq (Tell (More (key p q (at 1) Turn) Done Nothing)) (WhileFollow (at 1) q (set 2))
follow_read = refl

module _ (head : ScopeHead) where
  abbrev led : Process
  led = ScopeLead (record head { index = at 1 }) (q ∷ []) (set 2)

  -- 8. a scope that is kept, led
  kept_led : run led Untouched (by (act.Scope (at 1)) (FromBook (λ h. Keeps)) ∷ free (act.Put (key p q (at 1) Begin)) ∷ free (act.Set (at 2)) ∷ [])
      ≡ Gathering (key q p (at 1) End) []
  kept_led = refl

  kept_left : run led Untouched (by (act.Scope (at 1)) (FromBook (λ h. Keeps)) ∷ free (act.Put (key p q (at 1) Begin)) ∷ free (act.Set (at 2))
      ∷ by (act.Take (key q p (at 1) End)) (Got Done) ∷ []) ≡ Left (key p q (at 1) Out) Done Nothing
  kept_left = refl

  -- 9. a scope with an update, led: it has become its steps with the new part
  replaced_led : run led Untouched (by (act.Scope (at 1)) (FromBook (λ h. Replaces [] 7 (λ r. Seq (set 3) (set 4)))) ∷ free (act.Put (key p q (at 1) Begin)) ∷ free (act.Set (at 3)) ∷ [])
      ≡ Became (Seq (set 4) (Seq (Gather (key q p (at 1) End ∷ [])) (Tell (More (key p q (at 1) Out) Done Nothing))))
  replaced_led = refl

  replaced_steps : steps led (by (act.Scope (at 1)) (FromBook (λ h. Replaces [] 7 (λ r. Seq (set 3) (set 4)))) ∷ free (act.Put (key p q (at 1) Begin)) ∷ free (act.Set (at 3)) ∷ [])
      ≡ Seq (set 4) (Seq (Gather (key q p (at 1) End ∷ [])) (Tell (More (key p q (at 1) Out) Done Nothing)))
  replaced_steps = refl

-- 10. a scope that is kept or replaced, followed
kept_followed : run (ScopeFollow (at 1) q (set 2)) Untouched (by (act.Take (key q p (at 1) Begin)) (Got Keep) ∷ free (act.Set (at 2)) ∷ free (act.Put (key p q (at 1) End)) ∷ [])
    ≡ Waiting (key q p (at 1) Out) []
kept_followed = refl

replaced_followed : run (ScopeFollow (at 1) q (set 2)) Untouched (by (act.Take (key q p (at 1) Begin)) (Got (Part 7 (set 3))) ∷ free (act.Set (at 3)) ∷ [])
    ≡ Became (Seq (Tell (More (key p q (at 1) End) Done Nothing)) (Gather (key q p (at 1) Out ∷ [])))
replaced_followed = refl

replaced_over : run (ScopeFollow (at 1) q (set 2)) Untouched (by (act.Take (key q p (at 1) Begin)) (Got (Part 7 Skip)) ∷ free (act.Put (key p q (at 1) End))
    ∷ by (act.Take (key q p (at 1) Out)) (Got Done) ∷ []) ≡ Became Skip
replaced_over = refl

-- 11. what is offered, from left to right
offered_both : leaves p (Both (Second Untouched) Untouched) (Par (Seq Skip (set 1)) (Par (set 2) (set 3))) ≡ act.Set (at 1) ∷ act.Set (at 2) ∷ act.Set (at 3) ∷ []
offered_both = refl
