-- What was made ready of a part that does an act, and what is shown of it.
use Rattle.std.specs.Prelude.{◌≡◌, Option, Some, option_map}
use Rattle.dioc_terms.specs.declared.names.Role.{Role}
use Rattle.dioc_terms.specs.declared.values.Value.{Value}
use Rattle.dioc_terms.specs.declared.entries.Act.{Act}
use Rattle.dioc_terms.specs.Processes.{Process, load}
use Rattle.dioc_terms.specs.Stores.{Store}
use Rattle.dpoc_process.specs.declared.ready.Ready.{Ready}
use Rattle.dpoc_process.specs.declared.runs.Prepared.{Prepared}
use Rattle.dpoc_process.specs.declared.runs.Shown.{Shown}
use Rattle.dpoc_process.specs.Acting.{lead_of, lead_head}
use Rattle.dpoc_process.specs.Growth.{value_at, growth, write_at, entry_at, load_at}
use Rattle.dpoc_process.specs.KeptGrowth.{growth_of, write_of}
use Rattle.dpoc_process.specs.Shows.{head_shown, message_shown}

-- what was made ready of the part is its growth and its write, with the value that it needs
pub record IsReadyFor (me : Role) (a : Act) (v : Value) (R : Process) (ready : Ready) : Type 0 where
  pub act : ready.act.value ≡ a
  pub growth : growth_of ready.growth ≡ growth me v R
  pub write : write_of ready.write ≡ write_at v R

-- what is shown of a part before its act is done
pub record IsPreparedFor (me : Role) (a : Act) (v : Value) (R : Process)
    (p : Prepared) : Type 0 where
  pub act : p.act ≡ a
  pub head : p.head ≡ option_map lead_head (lead_of R)
  pub entry : p.entry ≡ entry_at me v R
  pub payload : option_map load p.payload ≡ load_at v R

-- the same but for the act itself
pub record IsShownFor (me : Role) (v : Value) (R : Process) (p : Shown) : Type 0 where
  pub head : head_shown p ≡ option_map lead_head (lead_of R)
  pub entry : p.entry ≡ entry_at me v R
  pub message : message_shown p ≡ load_at v R

-- what was made ready of the part that does the act, and what is shown of it
pub record IsMade (me : Role) (s : Store) (a : Act) (found : Option Process) (ready : Ready)
    (p : Prepared) : Type 0 where
  pub part : Process
  pub is_found : found ≡ Some part
  pub made : IsReadyFor me a (value_at s part) part ready
  pub shown : IsPreparedFor me a (value_at s part) part p
