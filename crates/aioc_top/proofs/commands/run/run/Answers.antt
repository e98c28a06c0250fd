-- The text is that of the threads' run.
use Rattle.std.proofs.Common.{◌≡◌, IfOk, subst, arith}
use Rattle.dioc_terms.specs.Plain.{plain}
use Rattle.aioc_top.specs.Replies.{ended_reply, reply_of}
use Rattle.aioc_top.proofs.Judged.{mapped_reply}
use Rattle.aioc_top.proofs.Printing.{run_replied}
use Rattle.aioc_top.proofs.Projected.{few_roles}
use Rattle.aioc_top.proofs.commands.run.run.Goals as goal

pub run-requires-clause-sound : goal.run-requires-clause-sound
run-requires-clause-sound g c κs within = c.accepted_is_sound.ensures (plain c.args.bundle.now) c.requires.accepted

pub run-requires-clause-few : goal.run-requires-clause-few
run-requires-clause-few g c κs within = let few = few_roles (plain c.args.bundle.now) c.requires.accepted in omega (arith, few)

pub returns : goal.returns
returns g c =
    let ran = c.in_ok-outcome.ensures in
    let made = c.in_ok-outcome.outcome in
    let options = c.args.options.now in
    let H = made.history.entries in
    let replied : IfOk c.run_written.result (λ written. reply_of written ≡ ended_reply options H made.ended) =
    subst (λ es. IfOk c.run_written.result (λ written. reply_of written ≡ ended_reply options es made.ended)) c.as_slice.ensures c.run_written.ensures in
    mapped_reply (λ written e. run_replied options (plain c.args.bundle.now) H made.ended written ran.run ran.prompt ran.within ran.ended ran.full e) c.run_written.result replied
