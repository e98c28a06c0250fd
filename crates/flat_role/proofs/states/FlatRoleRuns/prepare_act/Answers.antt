-- A place that offers the act is found exactly where the process offers it. What is made ready
-- there leaves the process as it is.
use Rattle.std.proofs.Common.{◌≡◌, true, false, get_or, refl, sym, ◌∙◌}
use Rattle.flat_code.specs.Codes.{process_of}
use Rattle.flat_role.specs.Progress.{marks_by, runs_by}
use Rattle.flat_role.proofs.FlatLemmas.{is-progress}
use Rattle.flat_role.proofs.FoundLemmas.{found-offered}
use Rattle.process_steps.specs.Steps.{is_offered, offers}
use Rattle.role_statuses.proofs.KeptTestLemmas.{kept-is_tested}
use Rattle.flat_role.proofs.states.FlatRoleRuns.prepare_act.Goals as goal

pub find-requires : goal.find-requires
find-requires c = is-progress c.args.self.now

pub prepare_found-requires-clause-progress : goal.prepare_found-requires-clause-progress
prepare_found-requires-clause-progress c = is-progress c.args.self.now

pub invariant_of-self-2 : goal.invariant_of-self-2
invariant_of-self-2 c =
    let flat = c.args.self.now in
    let is = c.prepare_found.ensures.progress in
    record {
      as_long = is.as_long;
      kept = kept-is_tested.said flat.role (marks_by flat.role flat.plan c.prepare_found.new.progress)
          (process_of flat.plan.code) is.kept;
      listed = is.listed;
      room = is.room;
      spare = is.spare;
      mine = is.mine;
    }

not_both : true ≡ false → ⊥
not_both e = cc

pub returns-in-Err-clause-no_act : goal.returns-in-Err-clause-no_act
returns-in-Err-clause-no_act c =
    let flat = c.args.self.now in
    let a = c.args.act.now in
    let offered : is_offered a (offers flat.role (runs_by flat.role flat.plan flat.progress)) ≡ true =
    found-offered flat.role flat.plan flat.progress (is-progress flat) a c.in-Some.at
    (get_or flat.progress.active.items c.in-Some.at 0)
    (c.in-Some.ensures.found c.in-Some.at refl) in (λ fault. cc, λ none. absurd (not_both (sym offered ∙ none)))
