-- What a role over code shows, and when it is ready for an act.
use Rattle.std.specs.Prelude.{◌≡◌, ◌<◌, ℕ, Some, length}
use Rattle.dioc_terms.specs.declared.entries.Act.{Act}
use Rattle.dioc_terms.specs.KeptStores.{store_of, room}
use Rattle.dpoc_process.specs.LocalStates.{LocalState}
use Rattle.flat_role.specs.declared.states.FlatRole.{FlatRole}
use Rattle.flat_role.specs.declared.steps.Own.{Own}
use Rattle.flat_role.specs.Progress.{runs_by}
use Rattle.flat_role.specs.ReadySteps.{IsReadyBy}
use Rattle.flat_role.specs.Updates.{with_updates}

-- how many ops there are, those of updates included
abbrev pub code_len : FlatRole → ℕ
code_len flat = with_updates (length flat.plan.code.ops.items) flat.progress.marks.items

abbrev pub local_of : FlatRole → LocalState
local_of flat = record {
  role = flat.role;
  process = runs_by flat.role flat.plan flat.progress;
  store = store_of flat.store;
}

-- the state keeps what was made ready of the place that does the act, and has room for one more
-- variable
pub record IsReady (flat : FlatRole) (a : Act) : Type 0 where
  pub own : Own
  pub kept : flat.ready ≡ Some own
  pub made : IsReadyBy flat.role flat.plan flat.progress (store_of flat.store) a own
  pub has_room : 0 < room flat.store
