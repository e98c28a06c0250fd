-- What a call did, from the task that was prepared, its answer, and what was told of that.
use Rattle.std.proofs.Common.{◌≡◌, Option, Result, Ok, Err, IfOk, IfErr, sym, subst}
use Rattle.std.specs.Prelude.{OnOk, OnErr}
use Rattle.aioc_io.specs.Sink.{SinkState}
use Rattle.aioc_io.specs.Source.{SourceState}
use Rattle.command_words.specs.declared.commands.Command.{Command}
use Rattle.aioc_top.specs.Calls.{Happens, Judged, PrintsReply, called}
use Rattle.aioc_top.specs.Faults.{IsRefusedSo, Reports, Stops}
use Rattle.aioc_top.specs.Replies.{reply_of}
use Rattle.aioc_top.specs.Spelled.{IsMendable, IsReady, RepliesTo, refusal_in}
use Rattle.aioc_top.specs.Verdicts.{Replied}
use Rattle.aioc_top.specs.declared.faults.Fault.{Fault}
use Rattle.aioc_top.specs.declared.preparing.Task.{Task}
use Rattle.aioc_top.specs.declared.replies.Written.{Written}
use Rattle.aioc_top.specs.declared.status.Status.{Status}
use Rattle.aioc_top.proofs.FaultLemmas.{refusal_stops, replied_so}
use Rattle.aioc_top.proofs.Table.{printed, stopped}

module _ (asked : Option Command) (source source_after : SourceState) (out out_after err err_after : SinkState) (task : Task) (ready : IsReady asked source source_after task) (s : Status) where
  pub finished : (answered : Result Written Fault)
      → IfOk answered (λ written. RepliesTo task.command task.spelled (reply_of written)) → OnOk answered (IsMendable task.command task.spelled)
      → IfErr answered (IsRefusedSo (refusal_in task.command task.spelled))
      → IfOk answered (λ written. PrintsReply (reply_of written) out out_after err err_after s) → IfErr answered (λ fault. Reports fault err err_after s)
      → OnErr answered (out_after ≡ out) → Happens (called asked source source_after out out_after err err_after) s
  finished (Ok written) reply mendable refused prints reports quiet =
      let judged = replied_so task.command source source_after task.spelled (reply_of written) ready.read ready.admits mendable reply in
      printed asked source source_after out out_after err err_after (reply_of written) s
      (subst (λ o. Judged o source source_after (Replied (reply_of written))) (sym ready.asked) judged) prints
  finished (Err fault) reply mendable refused prints reports quiet =
      let stops = refusal_stops task.command source source_after task.spelled ready.read fault refused in
      stopped asked source source_after out out_after err err_after fault s quiet (subst (λ o. Stops o source source_after fault) (sym ready.asked) stops) reports
