-- The part of a process that does an act.
use Rattle.std.specs.Prelude.{List, Bool, true, false, Option, Some, None, if◌then◌else◌}
use Rattle.std.specs.Option.{option_or, option_and_then}
use Rattle.dioc_terms.specs.declared.names.Role.{Role}
use Rattle.dioc_terms.specs.declared.processes.ScopeHead.{ScopeHead}
use Rattle.dioc_terms.specs.declared.entries.Act.{Act}
use Rattle.dioc_terms.specs.Processes.{Process, Seq, Par, ScopeLead}
use Rattle.process_steps.specs.Steps.{ended, offers, is_offered}
use Rattle.dpoc_process.specs.LocalStates.{LocalState}

-- the part that does the act, neither a sequence nor a parallel; of a parallel that in the left
-- part, where there is one
abbrev pub acting : Role → Act → Process → Option Process
acting me a (Seq P Q) = if ended P then acting me a Q else acting me a P
acting me a (Par P Q) = option_or (acting me a P) (acting me a Q)
acting me a P = if is_offered a (offers me P) then Some P else None

-- neither a sequence nor a parallel
abbrev pub is_single : Process → Bool
is_single (Seq P Q) = false
is_single (Par P Q) = false
is_single P = true

-- a scope that a role leads: what the book sees of it, and the roles that the leader tells
pub record Lead : Type 0 where
  pub head : ScopeHead
  pub others : List Role

abbrev pub lead_of : Process → Option Lead
lead_of (ScopeLead head others P) = Some (record { head = head; others = others })
lead_of _ = None

-- the scope for which the act chooses; none for every other act
abbrev pub acting_lead : LocalState → Act → Option Lead
acting_lead s a = option_and_then lead_of (acting s.role a s.process)

abbrev pub lead_head : Lead → ScopeHead
lead_head lead = lead.head
