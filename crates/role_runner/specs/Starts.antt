-- What is known of a thread before it is joined.
use Rattle.std.specs.Prelude.{◌≡◌, ℕ}
use Rattle.dioc_terms.specs.Plain.{PlainBundle, plain}
use Rattle.role_runner.specs.declared.starting.Started.{Started}
use Rattle.role_runner.specs.declared.starting.Started.TheVariants.{There, Refused}
use Rattle.role_runner.specs.declared.threads.Job.{Job}
use Rattle.role_runner.specs.Jobs.{EndsJob, HomeSeat}
use Rattle.stage.specs.declared.stage.Stage.{Stage}

-- what comes of a thread that was promised to leave its seat so, or was refused
abbrev pub Gives : Started → Job → Type 0
Gives (There handle) job =
    EndsJob handle.promise.stage.value (plain handle.promise.bundle.value) handle.promise.place
    handle.promise.seat.value job
Gives (Refused given) job = job ≡ given

-- whatever comes of the thread, it is what the place leaves of the seat
abbrev pub IsStarted : Stage → PlainBundle → ℕ → HomeSeat → Started → Type 0
IsStarted stage bundle place seat started =
    (job : Job) → Gives started job → EndsJob stage bundle place seat job
