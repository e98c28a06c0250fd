-- What a call does with its source and its sinks, status by status.
use Rattle.std.specs.Prelude.{◌≡◌, ℕ, ◌+◌, List, [], drop, Option, Some, None, IfSome, IsSome}
use Rattle.std.specs.Io.KnownBytes.{Appends, IsAtEnd}
use Rattle.aioc_io.specs.Faults.{Rose}
use Rattle.aioc_io.specs.Sink.{SaysLine, SinkState, TakesPart}
use Rattle.aioc_io.specs.Source.{GivesAtMost, SourceState}
use Rattle.limits.specs.Limits.{most_bytes}
use Rattle.command_words.specs.declared.commands.Command.{Command}
use Rattle.aioc_top.specs.Messages.{usage_line, read_fault_line, write_fault_line, too_long_line, memory_line, syntax_line, refusal_line}
use Rattle.aioc_top.specs.Replies.{Reply, unread_reply}
use Rattle.aioc_top.specs.Verdicts.{Verdict, TooLong, Unspelled, Refused, Replied, Comes, status_of, status_of_end}
use Rattle.aioc_top.specs.declared.status.Status.{Status}
use Rattle.aioc_top.specs.declared.status.Status.TheVariants as status

-- what the words of a call ask for, and its devices before and after it
pub record Call : Type 0 where
  pub asked : Option Command
  pub source : SourceState
  pub source_after : SourceState
  pub out : SinkState
  pub out_after : SinkState
  pub err : SinkState
  pub err_after : SinkState

-- a call that asks for this, with each of its devices before and after it
abbrev pub called : Option Command → SourceState → SourceState
    → SinkState → SinkState → SinkState → SinkState → Call
called asked source source_after out out_after err err_after = record {
  asked = asked;
  source = source;
  source_after = source_after;
  out = out;
  out_after = out_after;
  err = err;
  err_after = err_after;
}

-- the bytes were read: the source's own, where it tells them
abbrev pub IsRead : SourceState → List ℕ → Type 0
IsRead source bytes = IfSome source.left (λ told. told ≡ bytes)

-- one byte more than the limit was read, where the source tells its bytes
abbrev pub ReadsPastLimit : SourceState → SourceState → Type 0
ReadsPastLimit source source_after =
    IfSome source.left (λ told. source_after.left ≡ Some (drop (most_bytes + 1) told))

-- no more bytes than the limit were read, where the source tells them
abbrev pub ReadsWithinLimit : SourceState → SourceState → Type 0
ReadsWithinLimit source source_after = GivesAtMost most_bytes source.left source_after.left

-- a text that is too long isn't read to its end
abbrev pub ReadsTo : Verdict → SourceState → SourceState → Type 0
ReadsTo TooLong source source_after = ReadsPastLimit source source_after
ReadsTo _ source source_after = IsAtEnd source_after.left

-- the bytes were read to their end; a command that has its reply without reads nothing
abbrev pub ReadsWhole : Option Reply → List ℕ → SourceState → SourceState → Type 0
ReadsWhole (Some reply) bytes source source_after = source_after ≡ source
ReadsWhole None bytes source source_after = IsRead source bytes × IsAtEnd source_after.left

-- What was read of the source: its bytes, where it tells them, to their end but where they are too
-- many; and nothing by a command that has its reply without.
abbrev pub ReadsBy : Option Reply → Verdict → List ℕ → SourceState → SourceState
    → Type 0
ReadsBy (Some reply) verdict bytes source source_after = source_after ≡ source
ReadsBy None verdict bytes source source_after =
    IsRead source bytes
    × ReadsTo verdict source source_after

abbrev pub CommandReads : Command → Verdict → List ℕ → SourceState → SourceState
    → Type 0
CommandReads asked verdict bytes source source_after =
    ReadsBy (unread_reply asked) verdict bytes source source_after

-- the words ask for no command, or for one that has its reply without reading
abbrev pub NeedsNoSource : Option Command → Type 0
NeedsNoSource (Some found) = IsSome (unread_reply found)
NeedsNoSource None = Unit {0}

-- then nothing is read
abbrev pub ReadsNothing : Option Command → SourceState → SourceState → Type 0
ReadsNothing asked source source_after = NeedsNoSource asked → source_after ≡ source

-- how the source is left where memory ran out
pub record StaysWithin (asked : Option Command) (source source_after : SourceState) : Type 0 where
  pub nothing : ReadsNothing asked source source_after
  pub within : ReadsWithinLimit source source_after

-- all of a text was written, and nothing else; with an empty one the sink isn't called
abbrev pub WritesText : List ℕ → SinkState → SinkState → Type 0
WritesText text out out_after =
    Appends out.taken out_after.taken text × (text ≡ [] → out_after ≡ out)

abbrev pub Writes : Verdict → SinkState → SinkState → Type 0
Writes (Replied reply) out out_after = WritesText reply.text out out_after
Writes _ out out_after = out_after ≡ out

-- the line of a verdict that isn't a reply
abbrev pub Says : Verdict → SinkState → SinkState → Type 0
Says TooLong err err_after = SaysLine err err_after too_long_line
Says (Unspelled byte) err err_after = SaysLine err err_after (syntax_line byte)
Says (Refused why) err err_after = SaysLine err err_after (refusal_line why)
Says (Replied reply) err err_after = err_after ≡ err

-- this line was said, and the status tells why
pub record SaysSo (told : Status) (line : List ℕ) (err err_after : SinkState) (result : Status) :
    Type 0 where
  pub is : result ≡ told
  pub says : SaysLine err err_after line

-- the verdict comes of the command that was asked for and of the bytes that were read
pub record Judged (asked_for : Option Command) (source source_after : SourceState)
    (verdict : Verdict) : Type 0 where
  pub command : Command
  pub asked : asked_for ≡ Some command
  pub bytes : List ℕ
  pub read : CommandReads command verdict bytes source source_after
  pub comes : Comes command bytes verdict

abbrev pub Judges : Call → Verdict → Type 0
Judges call verdict = Judged call.asked call.source call.source_after verdict

-- a command is asked for that reads a bundle
abbrev pub ReadsText : Option Command → Type 0
ReadsText asked =
    (found : Command)
    × (asked ≡ Some found)
    × (unread_reply found ≡ None)

-- the table: what each status says of a call
abbrev pub Happens : Call → Status → Type 0
Happens call status.Usage =
    (call.asked ≡ None)
    × (call.source_after ≡ call.source)
    × (call.out_after ≡ call.out)
    × SaysLine call.err call.err_after usage_line
Happens call status.Memory =
    (call.out_after ≡ call.out)
    × SaysLine call.err call.err_after memory_line
    × ReadsNothing call.asked call.source call.source_after
    × ReadsWithinLimit call.source call.source_after
Happens call status.ReadFault =
    ReadsText call.asked
    × Rose call.source.faults call.source_after.faults
    × ReadsWithinLimit call.source call.source_after
    × (call.out_after ≡ call.out)
    × SaysLine call.err call.err_after read_fault_line
Happens call status.WriteFault =
    (reply : Reply)
    × Judges call (Replied reply)
    × Rose call.out.faults call.out_after.faults
    × TakesPart call.out.taken call.out_after.taken reply.text
    × SaysLine call.err call.err_after write_fault_line
Happens call result =
    (verdict : Verdict)
    × Judges call verdict
    × (result ≡ status_of verdict)
    × Writes verdict call.out call.out_after
    × Says verdict call.err call.err_after

-- a reply is written whole, or a part of it and the fault is said
abbrev pub PrintsReply : Reply → SinkState → SinkState → SinkState → SinkState
    → Status → Type 0
PrintsReply reply out out_after err err_after status.WriteFault =
    Rose out.faults out_after.faults
    × TakesPart out.taken out_after.taken reply.text
    × SaysLine err err_after write_fault_line
PrintsReply reply out out_after err err_after result =
    (result ≡ status_of_end reply.end)
    × WritesText reply.text out out_after
    × (err_after ≡ err)
