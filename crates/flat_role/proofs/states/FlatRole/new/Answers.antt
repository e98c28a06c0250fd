-- A role of which nothing was done has its process.
use Rattle.flat_code.specs.Codes.{process_of}
use Rattle.flat_role.specs.Progress.{marks_by}
use Rattle.role_statuses.proofs.KeptTestLemmas.{kept-is_tested}
use Rattle.flat_role.proofs.states.FlatRole.new.Goals as goal

pub invariant_of-result : goal.invariant_of-result
invariant_of-result c =
    let is = c.in-Ok-new.ensures.is in
    record {
      as_long = is.as_long;
      kept = kept-is_tested.said c.args.role
          (marks_by c.args.role c.in-Ok.plan c.in-Ok-new.progress)
          (process_of c.in-Ok.plan.code) is.kept;
      listed = is.listed;
      room = is.room;
      spare = is.spare;
      mine = is.mine;
    }
