-- What the crates below prove, as far as the top call rests on it.
use Rattle.bundle_text.specs.Laws.{OneBundle, SpelledIsFormed, WrittenIsSpelled}
use Rattle.mend.specs.Laws.{MendedAccepted}
use Rattle.load_gen.specs.Laws.{MadeAreAccepted}
use Rattle.marked_laws.specs.Versions.{RunsReadNoVersion}
use Rattle.net_laws.specs.Headline.{EveryRun}
use Rattle.net_laws.specs.Laws.{AcceptedIsSound, RunsAreSound, SchedulesReadNoVersion}
use Rattle.net_drive.specs.Laws.{DrivenExactly, DrivenRuns}
use Rattle.net_drive.specs.Strays.{DriveStraysAreExact}
use Rattle.net_drive.specs.ResumedLaws.{ResumedRuns, RunStraysAreExact}

pub record KnownLaws : Type 0 where
  -- of texts
  pub one : OneBundle
  pub formed : SpelledIsFormed
  pub written : WrittenIsSpelled
  -- of bundles
  pub mended : MendedAccepted
  pub made : MadeAreAccepted
  pub accepted : AcceptedIsSound
  -- of runs
  pub every_run : EveryRun
  pub sound : RunsAreSound
  pub runs : RunsReadNoVersion
  pub schedules : SchedulesReadNoVersion
  -- of traces
  pub resumed : ResumedRuns
  pub strays : RunStraysAreExact
  pub driven : DrivenRuns
  pub exactly : DrivenExactly
  pub drive_strays : DriveStraysAreExact
