-- What the calls of a role that runs promise.
use Rattle.std.specs.Prelude.{◌≡◌, true, Option, Some, None, option_map}
use Rattle.dioc_terms.specs.declared.entries.Act.{Act}
use Rattle.dioc_terms.specs.declared.entries.Entry.{Entry}
use Rattle.dioc_terms.specs.Attempts.{Does}
use Rattle.dioc_terms.specs.Processes.{Process, Load, load}
use Rattle.dpoc_process.specs.declared.runs.Prepared.{Prepared}
use Rattle.dpoc_process.specs.declared.runs.Shown.{Shown}
use Rattle.dpoc_process.specs.Acting.{acting_lead, lead_head}
use Rattle.dpoc_process.specs.Shows.{head_shown, message_shown}
use Rattle.dpoc_process.specs.LocalStates.{LocalState, offered, step_at, local_done}
use Rattle.process_steps.specs.Steps.{Deed, Puts, Chooses, Given, entry_of, is_offered}

-- what is known of the entry before the act is done: all of it, but for a scope, whose choice isn't
-- known yet
abbrev pub entry_before : Deed → Option Entry
entry_before (Chooses i r c) = None
entry_before d = Some (entry_of d)

-- what a deed sends
abbrev pub sent : Deed → Option Load
sent (Puts k l) = Some l
sent _ = None

-- what is shown of an act before it is done, whatever may come with it
pub record IsPrepared (s : LocalState) (a : Act) (p : Prepared) : Type 0 where
  pub act : p.act ≡ a
  pub can_act : is_offered a (offered s) ≡ true
  pub head : p.head ≡ option_map lead_head (acting_lead s a)
  pub entry : (given : Given) (d : Deed) (P : Process) → step_at s a given ≡ Does d P → p.entry
      ≡ entry_before d
  pub payload : (given : Given) (d : Deed) (P : Process) → step_at s a given ≡ Does d P
      → option_map load p.payload ≡ sent d

-- the same but for the act itself
pub record IsShown (s : LocalState) (a : Act) (p : Shown) : Type 0 where
  pub can_act : is_offered a (offered s) ≡ true
  pub head : head_shown p ≡ option_map lead_head (acting_lead s a)
  pub entry : (given : Given) (d : Deed) (P : Process) → step_at s a given ≡ Does d P → p.entry
      ≡ entry_before d
  pub message : (given : Given) (d : Deed) (P : Process) → step_at s a given ≡ Does d P
      → message_shown p ≡ sent d

-- the role did the act with what came from outside
pub record IsStep (s : LocalState) (a : Act) (given : Given) (after : LocalState) : Type 0 where
  pub deed : Deed
  pub left : Process
  pub does : step_at s a given ≡ Does deed left
  pub becomes : after ≡ local_done s deed left
