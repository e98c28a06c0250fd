-- What the top call ensures, from what it did and from what the crates below prove.
use Rattle.std.proofs.Common.{◌≡◌, Some, refl}
use Rattle.command_words.specs.declared.commands.Command.{Command}
use Rattle.aioc_top.specs.Calls.{Call, Happens}
use Rattle.aioc_top.specs.Laws.{KnownLaws}
use Rattle.aioc_top.specs.Serve.{HeadlineHolds, Serves}
use Rattle.aioc_top.specs.Words.{IsShort}
use Rattle.aioc_top.specs.declared.status.Status.{Status}
use Rattle.aioc_top.specs.declared.status.Status.TheVariants as status
use Rattle.aioc_top.proofs.Clauses as clauses
use Rattle.aioc_top.proofs.Driven.{drive_told}

module _ (laws : KnownLaws) (call : Call) (s : Status) (h : Happens call s) where
  pub headline : HeadlineHolds call s
  headline = clauses.headline laws.formed laws.every_run laws.sound call s h

  pub serves : ((found : Command) → call.asked ≡ Some found → IsShort found) → Serves call s
  serves short = record {
    run_text = λ options is prints. clauses.run_text laws.formed laws.every_run options call s h is prints;
    step_text = λ options is prints. clauses.step_text laws.formed laws.every_run options laws.sound call s h is prints;
    check_text = clauses.check_text laws.formed call s h;
    project_text = clauses.project_text laws.formed call s h;
    replay_text = clauses.replay_text laws.formed call s h;
    monitor_text = clauses.monitor_text laws.formed call s h;
    drive_text = λ options is prints.
        let judged = clauses.drive_judged laws.formed options call s h is prints in
        (judged, drive_told laws.drive_strays laws.driven laws.exactly laws.every_run laws.accepted options judged.bundle judged.accepted s judged.told);
    resume_text = λ options is prints. clauses.resume_text laws.resumed laws.strays laws.formed options call s h is prints;
    sessions_text = clauses.sessions_text laws.every_run laws.sound call s h;
    gen_text = λ number size is prints. clauses.gen_text laws.made laws.every_run laws.sound number size call s short h is prints;
    upgrade_text = clauses.upgrade_text laws.written laws.runs laws.schedules laws.formed call s h;
    mend_text = clauses.mend_text laws.written laws.mended laws.formed call s h;
    usage = clauses.usage call s h;
    done = clauses.comes_exactly laws.one call status.Done s refl h;
    limit = clauses.comes_exactly laws.one call status.Limit s refl h;
    no = clauses.comes_exactly laws.one call status.No s refl h;
    too_long = clauses.comes_exactly laws.one call status.TooLong s refl h;
    syntax = clauses.comes_exactly laws.one call status.Syntax s refl h;
    refused = clauses.comes_exactly laws.one call status.Refused s refl h;
    read_fault = clauses.read_fault call s h;
    write_fault = clauses.write_fault call s h;
    complete = clauses.complete laws.one call s h;
    reads_all = clauses.reads_all call s h;
    silent = clauses.silent call s h;
    says = clauses.says call s h;
  }
