-- Why there is no reply: the status and the line of each fault, and what it tells of the bytes.
use Rattle.std.specs.Prelude.{◌≡◌, ◌⊎◌, ◌<◌, ℕ, List, Bool, true, false, length, Option, Some, None, IfSome}
use Rattle.limits.specs.Limits.{most_bytes}
use Rattle.aioc_io.specs.Faults.{Rose}
use Rattle.aioc_io.specs.Sink.{SinkState}
use Rattle.aioc_io.specs.Source.{SourceState}
use Rattle.dioc_terms.specs.declared.faults.SyntaxFault.{SyntaxFault}
use Rattle.dioc_terms.specs.declared.faults.SyntaxFault.TheVariants as syntax
use Rattle.rule_checks.specs.declared.refusals.Refusal.{Refusal}
use Rattle.rule_checks.specs.declared.refusals.Refusal.TheVariants as refused
use Rattle.mend.specs.declared.refusals.MendRefusal.{MendRefusal}
use Rattle.mend.specs.declared.refusals.MendRefusal.TheVariants as unmended
use Rattle.command_words.specs.declared.commands.Command.{Command}
use Rattle.aioc_top.specs.Calls.{Judged, ReadsPastLimit, ReadsText, ReadsWithinLimit, SaysSo, StaysWithin}
use Rattle.aioc_top.specs.Messages.{memory_line, read_fault_line, refusal_line, syntax_line, too_long_line, usage_line}
use Rattle.aioc_top.specs.Reasons.{Reason, MayNotRun, CannotBeMended}
use Rattle.aioc_top.specs.Verdicts.{TooLong, Unspelled, Refused}
use Rattle.aioc_top.specs.declared.faults.Fault.{Fault}
use Rattle.aioc_top.specs.declared.faults.Fault.TheVariants as fault
use Rattle.aioc_top.specs.declared.status.Status.{Status}
use Rattle.aioc_top.specs.declared.status.Status.TheVariants as status

-- ---- the fault that each call below answers with

abbrev pub syntax_fault : SyntaxFault → Fault
syntax_fault (syntax.Syntax byte) = fault.Syntax byte
syntax_fault syntax.Memory = fault.Memory

abbrev pub refusal_fault : Refusal → Fault
refusal_fault refused.Memory = fault.Memory
refusal_fault why = fault.Refused why

abbrev pub mend_refusal_fault : MendRefusal → Fault
mend_refusal_fault (unmended.Refused refused.Memory) = fault.Memory
mend_refusal_fault why = fault.Unmendable why

-- ---- what a person is told

abbrev pub status_of : Fault → Status
status_of fault.Usage = status.Usage
status_of fault.ReadFault = status.ReadFault
status_of fault.TooLong = status.TooLong
status_of (fault.Syntax byte) = status.Syntax
status_of (fault.Refused why) = status.Refused
status_of (fault.Unmendable why) = status.Refused
status_of fault.Memory = status.Memory

abbrev pub line_of : Fault → List ℕ
line_of fault.Usage = usage_line
line_of fault.ReadFault = read_fault_line
line_of fault.TooLong = too_long_line
line_of (fault.Syntax byte) = syntax_line byte
line_of (fault.Refused why) = refusal_line (MayNotRun why)
line_of (fault.Unmendable why) = refusal_line (CannotBeMended why)
line_of fault.Memory = memory_line

-- whether its line has to be made
abbrev pub is_made : Fault → Bool
is_made (fault.Syntax byte) = true
is_made (fault.Refused why) = true
is_made (fault.Unmendable why) = true
is_made _ = false

-- the line of the fault was said, or that memory ran out while it was made
abbrev pub Reports : Fault → SinkState → SinkState → Status → Type 0
Reports f err err_after result =
    SaysSo (status_of f) (line_of f) err err_after result
    ⊎ ((is_made f ≡ true)
    × SaysSo status.Memory memory_line err err_after result)

-- ---- what it tells of the bytes

-- the fault of the first reason for which a command refuses a bundle; memory may run out
abbrev pub IsRefusedSo : Option Reason → Fault → Type 0
IsRefusedSo first (fault.Refused why) = first ≡ Some (MayNotRun why)
IsRefusedSo first (fault.Unmendable why) = first ≡ Some (CannotBeMended why)
IsRefusedSo first fault.Memory = Unit {0}
IsRefusedSo first _ = ⊥

-- why the bytes of a source aren't had
abbrev pub StopsReading : SourceState → SourceState → Fault → Type 0
StopsReading source source_after fault.ReadFault =
    Rose source.faults source_after.faults
    × ReadsWithinLimit source source_after
StopsReading source source_after fault.TooLong =
    IfSome source.left (λ told. most_bytes < length told)
    × ReadsPastLimit source source_after
StopsReading source source_after fault.Memory = ReadsWithinLimit source source_after
StopsReading source source_after _ = ⊥

-- why there is no reply to what a source has
abbrev pub Stops : Option Command → SourceState → SourceState → Fault → Type 0
Stops asked source source_after fault.Usage =
    (asked ≡ None)
    × (source_after ≡ source)
Stops asked source source_after fault.ReadFault =
    ReadsText asked
    × Rose source.faults source_after.faults
    × ReadsWithinLimit source source_after
Stops asked source source_after fault.TooLong = Judged asked source source_after TooLong
Stops asked source source_after (fault.Syntax byte) =
    Judged asked source source_after (Unspelled byte)
    × StaysWithin asked source source_after
Stops asked source source_after (fault.Refused why) =
    Judged asked source source_after (Refused (MayNotRun why))
    × StaysWithin asked source source_after
Stops asked source source_after (fault.Unmendable why) =
    Judged asked source source_after (Refused (CannotBeMended why))
    × StaysWithin asked source source_after
Stops asked source source_after fault.Memory = StaysWithin asked source source_after
