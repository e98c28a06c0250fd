-- The text is that of the run that the schedule takes from the start.
use Rattle.std.proofs.Common.{◌≡◌, ◌∙◌}
use Rattle.dioc_terms.specs.Plain.{plain}
use Rattle.network_steps.specs.Schedule.{sched_from}
use Rattle.aioc_top.specs.Replies.{run_reply, step_history}
use Rattle.aioc_top.proofs.Judged.{with_reply}
use Rattle.aioc_top.proofs.commands.step.step.Goals as goal

pub start-requires : goal.start-requires
start-requires c = c.accepted_is_sound.ensures (plain c.args.bundle.now) c.requires.accepted

pub returns-in-Ok : goal.returns-in-Ok
returns-in-Ok c =
    let options = c.args.options.now in
    let b = plain c.args.bundle.now in
    let old = c.in_ok-net.net in
    let new = c.run_seeded.new.net in
    let began = c.in_ok-net.ensures in
    let ran = c.in-Ok.ensures in
    let goes : run_reply options new.bundle new.history ≡ run_reply options old.bundle (sched_from old.bundle old.history options.seed old.limit) =
    (λ j. run_reply options (ran.same_bundle j) (ran.history j)) in
    let starts : run_reply options old.bundle (sched_from old.bundle old.history options.seed old.limit) ≡ run_reply options b (step_history options b) =
    (λ j. run_reply options (began.bundle j) (sched_from (began.bundle j) (began.history j) options.seed (began.limit j))) in
    with_reply c.say_run.result _ _ (goes ∙ starts) c.say_run.ensures
