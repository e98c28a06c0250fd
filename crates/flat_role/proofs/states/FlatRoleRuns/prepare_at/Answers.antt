-- The place that was found offers the act. What is made ready there leaves the process as it is.
use Rattle.flat_code.specs.Codes.{process_of}
use Rattle.flat_role.specs.Progress.{marks_by}
use Rattle.flat_role.proofs.FlatLemmas.{is-progress}
use Rattle.role_statuses.proofs.KeptTestLemmas.{kept-is_tested}
use Rattle.flat_role.proofs.states.FlatRoleRuns.prepare_at.Goals as goal

pub find_at-at-requires-clause-progress : goal.find_at-at-requires-clause-progress
find_at-at-requires-clause-progress c = is-progress c.args.self.now

pub prepare_found-requires-clause-progress : goal.prepare_found-requires-clause-progress
prepare_found-requires-clause-progress c = is-progress c.args.self.now

pub invariant_of-self : goal.invariant_of-self
invariant_of-self c =
    let flat = c.args.self.now in
    let is = c.prepare_found.ensures.progress in
    record {
      as_long = is.as_long;
      kept = kept-is_tested.said flat.role (marks_by flat.role flat.plan c.prepare_found.new.progress)
          (process_of flat.plan.code) is.kept;
      listed = is.listed;
      room = is.room;
      spare = is.spare;
      mine = is.mine;
    }
