-- The laws, each by the call of its crate.
use Rattle.aioc_top.proofs.service.know_laws.Goals as goal

pub returns : goal.returns
returns c = record {
  one = c.one_bundle.ensures;
  formed = c.spelled_is_formed.ensures;
  written = c.written_is_spelled.ensures;
  mended = c.mended_accepted.ensures;
  made = c.made_are_accepted.ensures;
  accepted = c.accepted_is_sound.ensures;
  every_run = c.every_run.ensures;
  sound = c.runs_are_sound.ensures;
  runs = c.runs_read_no_version.ensures;
  schedules = c.schedules_read_no_version.ensures;
  resumed = c.resumed_runs.ensures;
  strays = c.run_strays_are_exact.ensures;
  driven = c.driven_runs.ensures;
  exactly = c.driven_exactly.ensures;
  drive_strays = c.drive_strays_are_exact.ensures;
}
