-- The reply is that of the resumed run, or of the first entry that the network can't do.
use Rattle.std.proofs.Common.{◌≡◌, ◌<◌, List, length, take, Some, sym, ap, ◌∙◌, subst}
use Rattle.dioc_terms.specs.declared.entries.Entry.{Entry}
use Rattle.dioc_terms.specs.Plain.{plain}
use Rattle.network_steps.specs.Network.{network_run}
use Rattle.network_steps.specs.Schedule.{sched_from}
use Rattle.net_drive.specs.Faults.{FullAt}
use Rattle.net_core.specs.Nets.{network_of}
use Rattle.aioc_top.specs.Replies.{run_reply}
use Rattle.aioc_top.proofs.Judged.{with_reply}
use Rattle.aioc_top.proofs.Resuming.{cut, whole}
use Rattle.aioc_top.proofs.commands.resume.resume.Goals as goal

pub returns-in-Ok-run_seeded : goal.returns-in-Ok-run_seeded
returns-in-Ok-run_seeded c =
    let b = plain c.args.bundle.now in
    let options = c.args.options.now in
    let old = c.in-Ok.net in
    let new = c.run_seeded.new.net in
    let at = c.in-Ok.ensures.resumed in
    let ran = c.in-Ok-run_seeded.ensures in
    let es = c.as_slice-entries.result.now in
    let runs : network_run b es ≡ Some (network_of old) = (λ j. network_run (sym at.bundle j) (sym at.history j)) ∙ at.run.runs in
    let goes : run_reply options new.bundle new.history ≡ run_reply options old.bundle (sched_from old.bundle old.history options.seed old.limit) =
    (λ j. run_reply options (ran.same_bundle j) (ran.history j)) in
    let resumes : run_reply options old.bundle (sched_from old.bundle old.history options.seed old.limit) ≡ run_reply options b (sched_from b es options.seed options.steps) =
    (λ j. run_reply options (at.bundle j) (sched_from (at.bundle j) (at.history j) options.seed (at.limit j))) in
    whole c.run_strays_are_exact.ensures options b c.say_run.result es (network_of old) runs c.as_slice-entries.ensures c.in-Ok.ensures.within
    (with_reply c.say_run.result _ _ (goes ∙ resumes) c.say_run.ensures)

pub returns-in-Err-Full : goal.returns-in-Err-Full
returns-in-Err-Full c =
    let b = plain c.args.bundle.now in
    let options = c.args.options.now in
    let net = c.in-Err-Full.net in
    let entries = c.as_slice-entries.result.now in
    let full = subst (λ f. FullAt b entries options.steps f) c.in-Err-Full.field-0-is c.in-Err-Full.ensures.full in
    let at = full.1 in
    let es = take options.steps entries in
    let runs : network_run b es ≡ Some (network_of net) = (λ j. network_run (sym at.bundle j) (sym at.history j)) ∙ at.run.runs in
    let same : run_reply options net.bundle net.history ≡ run_reply options b es = (λ j. run_reply options (at.bundle j) (at.history j)) in
    let long : options.steps < length b.trace.entries = subst (λ (xs : List Entry). options.steps < length xs) c.as_slice-entries.ensures full.0 in
    cut c.run_strays_are_exact.ensures options b c.say_run-in-Err-Full.result es (network_of net) runs (ap (take options.steps) c.as_slice-entries.ensures) long
    (with_reply c.say_run-in-Err-Full.result _ _ same c.say_run-in-Err-Full.ensures)
