-- What is made ready of an act is its step.
use Rattle.std.specs.Prelude.{◌≡◌, Some}
use Rattle.dioc_terms.specs.declared.names.Role.{Role}
use Rattle.dioc_terms.specs.declared.entries.Act.{Act}
use Rattle.dioc_terms.specs.Attempts.{Does}
use Rattle.dioc_terms.specs.Processes.{Process}
use Rattle.dioc_terms.specs.Stores.{Store}
use Rattle.dpoc_process.specs.Acting.{acting, lead_of}
use Rattle.dpoc_process.specs.Changes.{replaced}
use Rattle.dpoc_process.specs.Growth.{value_at, growth, grown, write_at, handed_value, with_written, entry_at, load_at}
use Rattle.dpoc_process.specs.Handed.{Handed, StandsFor, IsEnabled}
use Rattle.dpoc_process.specs.RoleSteps.{entry_before, sent, IsStep}
use Rattle.dpoc_process.specs.LocalStates.{LocalState}
use Rattle.process_steps.specs.Steps.{Deed, Given, step}

abbrev pub local : Role → Process → Store → LocalState
local me P s = record { role = me; process = P; store = s }

-- a role with the part R that does the act: what was made ready of R, with what is handed, gives
-- the step
abbrev pub advanced : Role → Store → Act → Process → Process → Handed → LocalState
advanced me s a P R h =
    local me (replaced me a P (grown (growth me (value_at s R) R) h))
    (with_written (write_at (value_at s R) R) (handed_value h) s)

abbrev pub AdvancesAreSteps : Type 0
AdvancesAreSteps = (me : Role) (s : Store) (a : Act) (P R : Process) (h : Handed) (given : Given)
    → acting me a P ≡ Some R → IsEnabled (local me P s) a h → StandsFor me (lead_of R) h given
    → IsStep (local me P s) a given (advanced me s a P R h)

-- what the part shows before the act is done is what the step does
pub record IsShown (me : Role) (s : Store) (R : Process) (d : Deed) : Type 0 where
  pub entry : entry_at me (value_at s R) R ≡ entry_before d
  pub payload : load_at (value_at s R) R ≡ sent d

abbrev pub PreparedIsDone : Type 0
PreparedIsDone = (me : Role) (s : Store) (a : Act) (P R : Process) (given : Given) (d : Deed)
    (Q : Process)
    → acting me a P ≡ Some R → step me s P a given ≡ Does d Q → IsShown me s R d
