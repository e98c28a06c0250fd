-- The marks hang together before the act, and so they do after it.
use Rattle.flat_code.specs.Codes.{process_of}
use Rattle.flat_role.specs.Progress.{marks_by}
use Rattle.flat_role.proofs.FlatLemmas.{is-progress}
use Rattle.role_statuses.proofs.KeptTestLemmas.{kept-is_tested}
use Rattle.flat_role.proofs.states.FlatRoleRuns.advance.Goals as goal

pub advance-requires-clause-progress : goal.advance-requires-clause-progress
advance-requires-clause-progress c = is-progress c.args.self.now

pub invariant_of-self : goal.invariant_of-self
invariant_of-self c =
    let flat = c.args.self.now in
    let is = c.advance.ensures.progress in
    record {
      as_long = is.as_long;
      kept = kept-is_tested.said flat.role (marks_by flat.role flat.plan c.advance.new.progress)
          (process_of flat.plan.code) is.kept;
      listed = is.listed;
      room = is.room;
      spare = is.spare;
      mine = is.mine;
    }
