-- What comes of the threads leaves the seats as their places do.
use Rattle.std.proofs.Common.{◌∙◌}
use Rattle.dioc_terms.specs.Plain.{plain}
use Rattle.role_runner.proofs.JobLemmas.{all_end}
use Rattle.role_runner.proofs.starting.fn.run_jobs.scope.Goals as goal

pub returns : goal.returns
returns g c = record {
  all = c.join_all.ensures.all ∙ c.start_all-started.ensures.all;
  ends = all_end c.captures.stage.now (plain c.captures.bundle.now) c.captures.seats.items c.start_all-started.result.0.items c.join_all.result.items c.start_all-started.ensures.all c.start_all-started.ensures.starts
      c.join_all.ensures.gives;
}
