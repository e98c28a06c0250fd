-- What a call did, from what its parts did.
use Rattle.std.proofs.Common.{◌≡◌, ◌⊎◌, ℕ, List, true, false, true≢false, Option, Result, Ok, Err, IfOk, IfErr, refl, sym, ap, ◌∙◌, subst, inl, inr, ⊎_elim}
use Rattle.aioc_io.specs.Sink.{SaysLine, SinkState}
use Rattle.aioc_io.specs.Source.{SourceState}
use Rattle.command_words.specs.declared.commands.Command.{Command}
use Rattle.aioc_top.specs.Calls.{Call, Judged, Happens, PrintsReply, SaysSo, StaysWithin, called}
use Rattle.aioc_top.specs.Faults.{Reports, Stops, is_made, line_of, status_of}
use Rattle.aioc_top.specs.Messages.{memory_line}
use Rattle.aioc_top.specs.Reasons.{MayNotRun, CannotBeMended}
use Rattle.aioc_top.specs.Replies.{Reply}
use Rattle.aioc_top.specs.Serve.{has_printed}
use Rattle.aioc_top.specs.Verdicts.{TooLong, Unspelled, Refused, Replied, status_of_end}
use Rattle.aioc_top.specs.declared.replies.End.{End}
use Rattle.aioc_top.specs.declared.replies.End.TheVariants as end
use Rattle.aioc_top.specs.declared.faults.Fault.{Fault}
use Rattle.aioc_top.specs.declared.faults.Fault.TheVariants as fault
use Rattle.aioc_top.specs.declared.status.Status.{Status}
use Rattle.aioc_top.specs.declared.status.Status.TheVariants as status

-- a reply ends with a status that prints
pub prints_always : (s : Status) (e : End) → s ≡ status_of_end e → has_printed s ≡ false → ⊥
prints_always s end.Done is h = true≢false (ap has_printed (sym is) ∙ h)
prints_always s end.Limit is h = true≢false (ap has_printed (sym is) ∙ h)
prints_always s end.No is h = true≢false (ap has_printed (sym is) ∙ h)

-- a line that was made was said, or that memory ran out
pub said_made : {A M : Type 0} (items : A → List ℕ) (line : Result A M) (told s : Status) (wanted : List ℕ) (err err_after : SinkState) → IfOk line (λ made. items made ≡ wanted)
    → IfOk line (λ made. SaysSo told (items made) err err_after s) → IfErr line (λ memory. SaysSo status.Memory memory_line err err_after s)
    → SaysSo told wanted err err_after s ⊎ ((true ≡ true) × SaysSo status.Memory memory_line err err_after s)
said_made items (Ok made) told s wanted err err_after is says ran_out = inl (subst (λ line. SaysSo told line err err_after s) is says)
said_made items (Err memory) told s wanted err err_after is says ran_out = inr (refl, ran_out)

module _ (asked : Option Command) (source source_after : SourceState) (out out_after err err_after : SinkState) where
  abbrev made : Call
  made = called asked source source_after out out_after err err_after

  pub printed : (reply : Reply) (s : Status) → Judged asked source source_after (Replied reply) → PrintsReply reply out out_after err err_after s → Happens made s
  printed reply status.WriteFault so h = (reply, so, h.0, h.1, h.2)
  printed reply status.Done so h = (Replied reply, so, h.0, h.1, h.2)
  printed reply status.Limit so h = (Replied reply, so, h.0, h.1, h.2)
  printed reply status.No so h = (Replied reply, so, h.0, h.1, h.2)
  printed reply status.Usage so h = absurd (prints_always status.Usage reply.end h.0 refl)
  printed reply status.ReadFault so h = absurd (prints_always status.ReadFault reply.end h.0 refl)
  printed reply status.TooLong so h = absurd (prints_always status.TooLong reply.end h.0 refl)
  printed reply status.Syntax so h = absurd (prints_always status.Syntax reply.end h.0 refl)
  printed reply status.Refused so h = absurd (prints_always status.Refused reply.end h.0 refl)
  printed reply status.Memory so h = absurd (prints_always status.Memory reply.end h.0 refl)

  -- the line of the fault was said
  told_so : (f : Fault) → out_after ≡ out → Stops asked source source_after f → SaysLine err err_after (line_of f) → Happens made (status_of f)
  told_so fault.Usage quiet h said = (h.0, h.1, quiet, said)
  told_so fault.ReadFault quiet h said = (h.0, h.1, h.2, quiet, said)
  told_so fault.TooLong quiet h said = (TooLong, h, refl, quiet, said)
  told_so (fault.Syntax byte) quiet h said = (Unspelled byte, h.0, refl, quiet, said)
  told_so (fault.Refused why) quiet h said = (Refused (MayNotRun why), h.0, refl, quiet, said)
  told_so (fault.Unmendable why) quiet h said = (Refused (CannotBeMended why), h.0, refl, quiet, said)
  told_so fault.Memory quiet h said = (quiet, said, h.nothing, h.within)

  -- how the source is left where the line of the fault had to be made
  left_so : (f : Fault) → is_made f ≡ true → Stops asked source source_after f → StaysWithin asked source source_after
  left_so (fault.Syntax byte) is h = h.1
  left_so (fault.Refused why) is h = h.1
  left_so (fault.Unmendable why) is h = h.1
  left_so fault.Usage is h = absurd (true≢false (sym is))
  left_so fault.ReadFault is h = absurd (true≢false (sym is))
  left_so fault.TooLong is h = absurd (true≢false (sym is))
  left_so fault.Memory is h = h

  pub stopped : (f : Fault) (s : Status) → out_after ≡ out → Stops asked source source_after f → Reports f err err_after s → Happens made s
  stopped f s quiet h = ⊎_elim
      (λ said. subst (Happens made) (sym said.is) (told_so f quiet h said.says))
      (λ ran_out.
      let left = left_so f ran_out.0 h in
      subst (Happens made) (sym ran_out.1.is) (quiet, ran_out.1.says, left.nothing, left.within))
