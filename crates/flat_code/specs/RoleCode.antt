-- What adding the process of a role does, part by part of the choreography.
use Rattle.std.specs.Prelude.{◌≡◌, List, Bool}
use Rattle.dioc_terms.specs.Processes.{Process}
use Rattle.flat_code.specs.declared.ops.Op.{Op}
use Rattle.flat_code.specs.declared.role_code.Added.{Added}
use Rattle.flat_code.specs.Layout.{IsAdded, IsPushed, TwoAreAdded}
use Rattle.process_steps.specs.Steps.{ended}

-- a process, of which it is known whether it has ended
pub record IsPartAdded (old new : List Op) (part : Added) (P : Process) : Type 0 where
  pub added : IsAdded old new part.place P
  pub over : part.ended ≡ ended P

-- two, one after the other
pub record TwoPartsAreAdded (old new : List Op) (a b : Added) (P Q : Process) : Type 0 where
  pub added : TwoAreAdded old new a.place b.place P Q
  pub first_over : a.ended ≡ ended P
  pub second_over : b.ended ≡ ended Q

-- an op, of which this says whether nothing is left to do
pub record IsPartPushed (old new : List Op) (o : Op) (over : Bool) (part : Added) : Type 0 where
  pub pushed : IsPushed old new o part.place
  pub is_over : part.ended ≡ over
