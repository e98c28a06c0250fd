-- What a role state shows, and when it is ready for an act.
use Rattle.std.specs.Prelude.{◌≡◌, ◌<◌, Some}
use Rattle.dioc_terms.specs.declared.entries.Act.{Act}
use Rattle.dioc_terms.specs.KeptStores.{store_of, room}
use Rattle.dioc_terms.specs.Processes.{Process, process}
use Rattle.dpoc_process.specs.declared.ready.Ready.{Ready}
use Rattle.dpoc_process.specs.declared.states.RoleState.{RoleState}
use Rattle.dpoc_process.specs.Acting.{acting}
use Rattle.dpoc_process.specs.Growth.{value_at}
use Rattle.dpoc_process.specs.KeptReady.{IsReadyFor}
use Rattle.dpoc_process.specs.LocalStates.{LocalState}

abbrev pub local_of : RoleState → LocalState
local_of state = record {
  role = state.role;
  process = process state.proc;
  store = store_of
      state.store;
}

-- the state keeps what was made ready of the part that does the act, and has room for one more
-- variable
pub record IsReady (state : RoleState) (a : Act) : Type 0 where
  pub ready : Ready
  pub kept : state.ready ≡ Some ready
  pub part : Process
  pub acts : acting state.role a (process state.proc) ≡ Some part
  pub made : IsReadyFor state.role a (value_at (store_of state.store) part) part ready
  pub has_room : 0 < room state.store
