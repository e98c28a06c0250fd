-- A turn of a schedule: the move at the schedule's place, made without a fault.
use Rattle.std.proofs.Common.{◌≡◌, ℕ, zero, suc, List, [], ◌∷◌, ◌||◌, true, false, Option, Some, not, refl, ap, ap₂, ◌∙◌, sym, slice_get, subst, take, ⊎_elim}
use Rattle.std.proofs.lemmas.Bool.{and_parts, both_ways, cases_Bool, not-true}
use Rattle.dioc_terms.specs.Equality.{act_eq}
use Rattle.dpoc_process.proofs.StateLemmas.{stands-offered}
use Rattle.dpoc_process.specs.LocalStates.{IsNumbered}
use Rattle.marked_laws.proofs.Equality.{act_same}
use Rattle.marked_laws.proofs.Shapes.{none_some}
use Rattle.marked_laws.specs.Offers.{distinct_acts}
use Rattle.process_steps.specs.Steps.{is_offered}
use Rattle.std.specs.Prelude.{option_and_then}
use Rattle.dioc_terms.specs.declared.entries.Act.{Act}
use Rattle.dioc_terms.specs.declared.names.Role.{Role}
use Rattle.dioc_terms.specs.Plain.{setting}
use Rattle.network_steps.specs.declared.moves.Move.{Move}
use Rattle.network_steps.specs.declared.moves.Move.TheVariants as move
use Rattle.network_steps.specs.Schedule.{move_step}
use Rattle.net_core.specs.Changes.{IsChangeOf}
use Rattle.net_core.specs.Nets.{NetState, network_of}
use Rattle.net_core.specs.Steps.{IsStepOf, fault_of}
use Rattle.network_steps.specs.declared.moves.StepFault.{StepFault}
use Rattle.schedule.specs.Turns.{Advances, IsMoveOf, IsScheduled}

pub move_of_change : (old new : NetState) → IsChangeOf old new → IsMoveOf old move.Change new
move_of_change old new made = record { outcome = made.outcome; steps = made.steps; goes = made.goes }

pub move_of_step : (old new : NetState) (q : Role) (a : Act) → IsStepOf old q a new → IsMoveOf old (move.Act q a) new
move_of_step old new q a made = record { outcome = made.outcome; steps = made.steps; goes = made.goes }

-- one act has one fault
pub fault_as : (net : NetState) (r : Role) (x : Act) (q : Role) (a : Act) (f : StepFault) → move.Act r x ≡ move.Act q a → fault_of net r x ≡ Some f → fault_of net q a ≡ Some f
fault_as net r x q a f same h = by_parts parts.0 parts.1
  where
    parts : (r ≡ q) × (x ≡ a)
    parts = (role_is same, act_is same)
      where
        role_is : move.Act r x ≡ move.Act q a → r ≡ q
        role_is e = cc

        act_is : move.Act r x ≡ move.Act q a → x ≡ a
        act_is e = cc

    by_parts : r ≡ q → x ≡ a → fault_of net q a ≡ Some f
    by_parts role act = sym (ap₂ (fault_of net) role act) ∙ h

-- a move that is scheduled, once it is made, is what the schedule takes
pub advances : (old new : NetState) (seed : Option ℕ) (m : Move) → IsScheduled old seed m → IsMoveOf old m new → Advances old seed new
advances old new seed m next made = record {
  outcome = made.outcome;
  takes = ap (option_and_then (move_step (setting old.bundle) (network_of old))) next ∙ made.steps;
  goes = made.goes;
}

-- of acts that differ each has the number of its place
pub is_numbered : (acts : List Act) (number : ℕ) (a : Act) → slice_get acts number ≡ Some a → distinct_acts acts ≡ true → IsNumbered number a acts
is_numbered acts number a there once = record { stands = there; first = not_before acts number a there once }
  where
    differs : (b : Act) (acts : List Act) (a : Act) → is_offered b acts ≡ false → is_offered a acts ≡ true → act_eq a b ≡ false
    differs b acts a none some = ⊎_elim
        (λ same. absurd (both_ways (is_offered b acts) none (subst (λ x. is_offered x acts ≡ true) (act_same a b same) some)))
        (λ other. other)
        (cases_Bool (act_eq a b))

    not_before : (acts : List Act) (number : ℕ) (a : Act) → slice_get acts number ≡ Some a → distinct_acts acts ≡ true → is_offered a (take number acts) ≡ false
    not_before [] number a there once = absurd (none_some there)
    not_before (b ∷ acts) zero a there once = refl
    not_before (b ∷ acts) (suc number) a there once =
        let parts = and_parts (not (is_offered b acts)) (distinct_acts acts) once in
        ap₂ (λ s t. s || t)
        (differs b acts a (not-true (is_offered b acts) parts.0) (stands-offered acts number a there))
        (not_before acts number a there parts.1)
