-- A role that runs has come so far as its marks say.
use Rattle.flat_code.specs.Codes.{process_of}
use Rattle.flat_role.specs.declared.states.FlatRole.{FlatRole}
use Rattle.flat_role.specs.Progress.{IsProgress, marks_by}
use Rattle.role_statuses.proofs.KeptTestLemmas.{kept-is_tested}

pub is-progress : (flat : FlatRole) → IsProgress flat.role flat.plan flat.progress
is-progress flat = record {
  as_long = flat.as_long;
  kept = kept-is_tested.says flat.role (marks_by flat.role flat.plan flat.progress)
      (process_of flat.plan.code) flat.kept;
  listed = flat.listed;
  room = flat.room;
  spare = flat.spare;
  mine = flat.mine;
}
