-- The run is the schedule's, and so is its end.
use Rattle.std.proofs.Common.{◌≡◌, Ok, sym, ap, ◌∙◌}
use Rattle.dioc_terms.specs.Plain.{plain}
use Rattle.network_steps.specs.Schedule.{sched, sched_from}
use Rattle.session_pool.specs.Answers.{answered, ended_after}
use Rattle.session_pool.proofs.answers.run.Goals as goal

pub start-requires : goal.start-requires
start-requires c = c.accepted_is_sound.ensures (plain c.args.bundle.now) c.requires.accepted

pub returns-in-Ok : goal.returns-in-Ok
returns-in-Ok c =
    let b = plain c.args.bundle.now in
    let new = c.run_seeded.new.net in
    let ran = c.in-Ok.ensures in
    let began = c.in_ok-net.ensures in
    let owner : new.bundle ≡ b = ran.same_bundle ∙ began.bundle in
    let same : new.history ≡ sched b c.args.seed c.args.limit =
    ran.history ∙ (λ j. sched_from (began.bundle j) (began.history j) c.args.seed (began.limit j)) in
    c.answer_of_run.ensures ∙ (λ j. Ok (same j, ended_after (owner j) (same j)))
    ∙ sym (ap (answered b c.args.seed c.args.limit) c.requires.accepted.no_refusal)
