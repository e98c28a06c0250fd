-- What the clauses of the top call say: each is a part of the table of calls, in words of its own.
use Rattle.std.specs.Prelude.{◌≡◌, ◌⊎◌, ◌↔◌, ◌≤◌, ◌<◌, ℕ, List, length, Bool, true, false, Option, Some, None, IfSome, All}
use Rattle.std.specs.Io.KnownBytes.{Appends, IsAtEnd}
use Rattle.aioc_io.specs.Faults.{Rose}
use Rattle.aioc_io.specs.Sink.{SaysLine, TakesPart}
use Rattle.aioc_io.specs.Source.{SourceState}
use Rattle.dioc_terms.specs.declared.names.Role.{Role}
use Rattle.dioc_terms.specs.declared.entries.Entry.{Entry}
use Rattle.dioc_terms.specs.Equality.{member}
use Rattle.dioc_terms.specs.Messages.{visible}
use Rattle.dioc_terms.specs.Plain.{PlainBundle}
use Rattle.limits.specs.Limits.{most_bytes}
use Rattle.bundle_text.specs.Grammar.{Spells}
use Rattle.bundle_text.specs.Sessions.{SpellsSessions}
use Rattle.global_steps.specs.Follow.{play}
use Rattle.network_steps.specs.Network.{Network, network_ended, network_run}
use Rattle.marked_laws.specs.Versions.{with_version}
use Rattle.network_steps.specs.Schedule.{sched, IsPrompt}
use Rattle.net_laws.specs.Headline.{Headline}
use Rattle.net_drive.specs.Driven.{driven}
use Rattle.net_drive.specs.Strays.{IsDriveStray}
use Rattle.rule_checks.specs.Refusals.{IsAccepted, refusal}
use Rattle.mend.specs.Traces.{mended_bundle}
use Rattle.mend.specs.Refusals.{mend_refusal}
use Rattle.command_words.specs.Commands.{usual_steps}
use Rattle.command_words.specs.declared.commands.Options.{Options}
use Rattle.command_words.specs.declared.commands.Verb.TheVariants.{Gen}
use Rattle.load_gen.specs.Made.{made}
use Rattle.command_words.specs.declared.commands.Command.{Command}
use Rattle.command_words.specs.declared.commands.Command.TheVariants as command
use Rattle.aioc_top.specs.Calls.{Call, IsRead, ReadsNothing, ReadsPastLimit, ReadsText, ReadsWithinLimit}
use Rattle.aioc_top.specs.Judging.{is_cut_short}
use Rattle.aioc_top.specs.Messages.{usage_line, read_fault_line, write_fault_line, too_long_line, memory_line, syntax_line, refusal_line}
use Rattle.aioc_top.specs.Reasons.{Reason}
use Rattle.aioc_top.specs.Replies.{Reply, Replies, drive_history, drive_reply, is_finished, refusal_of, run_reply, step_history, resume_history, resume_reply, resume_stray, line_of_text, check_line, project_text, monitor_reply, replay_reply, trace_stray, upgrade_text, mend_text, session_options, sessions_reply, unread_reply, gen_line, gen_history}
use Rattle.aioc_top.specs.Verdicts.{Unspelled, Replied, Comes, Cause, Refuses, status_of_end}
use Rattle.aioc_top.specs.declared.status.Status.{Status}
use Rattle.aioc_top.specs.declared.status.Status.TheVariants as status

-- the command wrote all of its text
abbrev pub has_printed : Status → Bool
has_printed status.Done = true
has_printed status.Limit = true
has_printed status.No = true
has_printed _ = false

-- The text of a run was printed: that of some history of an accepted bundle which the bytes spell,
-- and these are the source's where it tells them. The headline holds of this very history. It is no
-- longer than the options allow; the status tells how it ended.
pub record RunPrinted (options : Options) (call : Call) (result : Status) : Type 0 where
  pub bytes : List ℕ
  pub read : IsRead call.source bytes
  pub bundle : PlainBundle
  pub spells : Spells bytes bundle
  pub accepted : IsAccepted bundle
  pub history : List Entry
  pub network : Network
  pub printed : Appends call.out.taken call.out_after.taken (run_reply options bundle history).text
  pub headline : Headline bundle history network
  pub within : length history ≤ options.steps
  pub done : (result ≡ status.Done) ↔ (network_ended bundle.cast network ≡ true)
  pub limit : (result ≡ status.Limit) ↔ ((length history ≡ options.steps)
      × (network_ended bundle.cast network ≡ false))

-- with `run` the roles' threads have made the printed history, and each change that was due came
-- before any entry of a role
abbrev pub RunText : Call → Status → Type 0
RunText call result =
    (options : Options)
    → call.asked ≡ Some (command.Run options)
    → has_printed result ≡ true
    → (run : RunPrinted options call result) × IsPrompt run.bundle run.history

-- with `step` the printed history is the one that the schedule takes
abbrev pub StepText : Call → Status → Type 0
StepText call result =
    (options : Options)
    → call.asked ≡ Some (command.Step options)
    → has_printed result ≡ true
    → (run : RunPrinted options call result)
    × (run.history ≡ step_history options run.bundle)

-- a command that runs a bundle from its start, with these options
abbrev pub RunsBundle : Command → Options → Type 0
RunsBundle found options = (found ≡ command.Run options) ⊎ (found ≡ command.Step options)

-- the headline, of the very history behind the text
abbrev pub HeadlineHolds : Call → Status → Type 0
HeadlineHolds call result =
    (options : Options) (found : Command)
    → call.asked ≡ Some found
    → RunsBundle found options
    → has_printed result ≡ true
    → RunPrinted options call result

-- The text of a command that says something of a bundle was printed: that of an accepted bundle
-- which the bytes spell, and these are the source's where it tells them.
pub record TextPrinted (text_of : PlainBundle → List ℕ) (call : Call) (result : Status) : Type 0
  where
    pub bytes : List ℕ
    pub read : IsRead call.source bytes
    pub bundle : PlainBundle
    pub spells : Spells bytes bundle
    pub accepted : IsAccepted bundle
    pub printed : Appends call.out.taken call.out_after.taken (text_of bundle)
    pub done : result ≡ status.Done

-- with `check` it is the line that tells how large the bundle is
abbrev pub CheckText : Call → Status → Type 0
CheckText call result =
    call.asked ≡ Some command.Check
    → has_printed result ≡ true
    → TextPrinted (λ b. line_of_text (check_line b)) call result

-- with `project` a line for each role
abbrev pub ProjectText : Call → Status → Type 0
ProjectText call result =
    call.asked ≡ Some command.Project
    → has_printed result ≡ true
    → TextPrinted project_text call result

-- The judgement of the trace of an accepted bundle was printed, and the status tells it: `Done`
-- where it is `yes`, `No` where it is `no`. The bytes that were read spell this bundle.
pub record JudgementPrinted (judge : PlainBundle → Reply) (call : Call) (result : Status) : Type 0
  where
    pub bytes : List ℕ
    pub read : IsRead call.source bytes
    pub bundle : PlainBundle
    pub spells : Spells bytes bundle
    pub accepted : IsAccepted bundle
    pub printed : Appends call.out.taken call.out_after.taken (judge bundle).text
    pub told : result ≡ status_of_end (judge bundle).end

-- with `replay` it is the judgement of the trace section
abbrev pub ReplayText : Call → Status → Type 0
ReplayText call result =
    call.asked ≡ Some command.Replay
    → has_printed result ≡ true
    → JudgementPrinted replay_reply call result

-- with `monitor` that of one role, which is in the cast
abbrev pub MonitorText : Call → Status → Type 0
MonitorText call result =
    (role : Role)
    → call.asked ≡ Some (command.Monitor role)
    → has_printed result ≡ true
    → (judged : JudgementPrinted (monitor_reply role) call result)
    × (member role judged.bundle.cast ≡ true)

-- the run was printed that goes on from the entries of the trace section, with its headline; or
-- `no` with the number of the first of them that the network can't do
abbrev pub ResumePrinted : Options → Call → Status → Type 0
ResumePrinted options call result =
    ((run : RunPrinted options call result)
    × (run.history ≡ resume_history options run.bundle))
    ⊎ ((judged : JudgementPrinted (resume_reply options) call result) × (n : ℕ)
    × (resume_stray options judged.bundle ≡ Some n))

-- so it is with `resume`
abbrev pub ResumeText : Call → Status → Type 0
ResumeText call result =
    (options : Options)
    → call.asked ≡ Some (command.Resume options)
    → has_printed result ≡ true
    → ResumePrinted options call result

-- the history is the driven one of the visible entries of the trace section, which are exactly what
-- is visible of it, and the headline holds of it
pub record IsDrivenRun (b : PlainBundle) (history : List Entry) : Type 0 where
  pub driven : driven b (visible b.trace.entries) ≡ Some history
  pub shows : visible history ≡ visible b.trace.entries
  pub network : Network
  pub headline : Headline b history network

-- what the status of `drive` tells: there is a driven run; one of the visible entries is the first
-- that makes a trace which isn't both played and settled, or the section says `ended` too soon;
-- there are more of them than the options allow
abbrev pub DriveTold : Options → PlainBundle → Status → Type 0
DriveTold options b status.Done =
    (length (visible b.trace.entries) ≤ options.steps) × IsDrivenRun b (drive_history b)
DriveTold options b status.No =
    (length (visible b.trace.entries) ≤ options.steps)
    × (((n : ℕ) × (trace_stray b ≡ Some n) × IsDriveStray b (visible b.trace.entries) n)
    ⊎ (IsDrivenRun b (drive_history b)
    × (is_cut_short b.trace.last (is_finished b (drive_history b)) ≡ true)))
DriveTold options b status.Limit = options.steps < length (visible b.trace.entries)
DriveTold options b _ = Unit {0}

-- with `drive` it is the text of the driven run, or `no` with the number of an entry, or nothing
abbrev pub DriveText : Call → Status → Type 0
DriveText call result =
    (options : Options)
    → call.asked ≡ Some (command.Drive options)
    → has_printed result ≡ true
    → (judged : JudgementPrinted (drive_reply options) call result)
    × DriveTold options judged.bundle result

-- A bundle with version 2: it is accepted, and its text spells it where it isn't too long. It has
-- the same first refusal, plays, runs and schedules as before.
pub record IsUpgraded (b : PlainBundle) : Type 0 where
  pub accepted : IsAccepted (with_version 2 b)
  pub spelled : length (upgrade_text b) ≤ most_bytes
      → Spells (upgrade_text b) (with_version 2 b)
  pub refusals : refusal (with_version 2 b) ≡ refusal b
  pub plays : (trace : List Entry) → play (with_version 2 b) trace ≡ play b trace
  pub runs : (history : List Entry)
      → network_run (with_version 2 b) history ≡ network_run b history
  pub schedules : (seed : Option ℕ) (limit : ℕ)
      → sched (with_version 2 b) seed limit ≡ sched b seed limit

-- with `upgrade` it is the bundle as it is written with version 2
abbrev pub UpgradeText : Call → Status → Type 0
UpgradeText call result =
    call.asked ≡ Some command.Upgrade
    → has_printed result ≡ true
    → (text : TextPrinted upgrade_text call result) × IsUpgraded text.bundle

-- The text of a mended bundle was printed: that of a bundle which the bytes spell, and these are
-- the source's where it tells them. Nothing keeps it from being mended. The mended bundle is
-- accepted, and that text spells it where it isn't too long.
pub record MendedPrinted (call : Call) (result : Status) : Type 0 where
  pub bytes : List ℕ
  pub read : IsRead call.source bytes
  pub bundle : PlainBundle
  pub spells : Spells bytes bundle
  pub free : mend_refusal bundle ≡ None
  pub printed : Appends call.out.taken call.out_after.taken (mend_text bundle)
  pub accepted : IsAccepted (mended_bundle bundle)
  pub spelled : length (mend_text bundle) ≤ most_bytes
      → Spells (mend_text bundle) (mended_bundle bundle)
  pub done : result ≡ status.Done

-- with `mend` it is the mended bundle
abbrev pub MendText : Call → Status → Type 0
MendText call result =
    call.asked ≡ Some command.Mend
    → has_printed result ≡ true
    → MendedPrinted call result

-- The line of the bundle that is made of these numbers was printed, and the status tells how its
-- run ended. The bundle is accepted, and the headline holds of the very run that is counted there.
pub record GenPrinted (number size : ℕ) (call : Call) (result : Status) : Type 0 where
  pub accepted : IsAccepted (made number size)
  pub network : Network
  pub headline : Headline (made number size) (gen_history number size) network
  pub printed : Appends call.out.taken call.out_after.taken (line_of_text (gen_line number size
      (made number size) (gen_history number size) network.updates))
  pub done : (result ≡ status.Done) ↔ (network_ended (made number size).cast network ≡ true)
  pub limit : (result ≡ status.Limit) ↔ ((length (gen_history number size) ≡ usual_steps Gen)
      × (network_ended (made number size).cast network ≡ false))

-- with `gen` it is the line of the made bundle
abbrev pub GenText : Call → Status → Type 0
GenText call result =
    (number size : ℕ)
    → call.asked ≡ Some (command.Gen number size)
    → has_printed result ≡ true
    → GenPrinted number size call result

-- The text of sessions was printed: that of some bundles which the bytes spell, and these are the
-- source's where it tells them. The headline holds of each run that is printed there.
pub record SessionsPrinted (options : Options) (call : Call) (result : Status) : Type 0 where
  pub bytes : List ℕ
  pub read : IsRead call.source bytes
  pub bundles : List PlainBundle
  pub spells : SpellsSessions bytes bundles
  pub printed : Appends call.out.taken call.out_after.taken (sessions_reply options bundles).text
  pub done : result ≡ status.Done
  pub headlines : All (λ b. refusal b ≡ None
      → (network : Network) × Headline b (step_history options b) network) bundles

-- how `sessions` never ends: no single session makes a refusal or a limit, and none is judged
abbrev pub never_of_sessions : Status → Bool
never_of_sessions status.Usage = true
never_of_sessions status.Refused = true
never_of_sessions status.Limit = true
never_of_sessions status.No = true
never_of_sessions _ = false

-- with `sessions` it is the text of each of them, in their order
abbrev pub SessionsText : Call → Status → Type 0
SessionsText call result =
    (options : Options)
    → call.asked ≡ Some (command.Sessions options)
    → (never_of_sessions result ≡ false)
    × (has_printed result ≡ true → SessionsPrinted options call result)

-- memory ran out, or a device failed: nothing in the bytes makes it come
abbrev pub GivesUp : Status → Type 0
GivesUp status.Memory = Unit {0}
GivesUp status.ReadFault = Unit {0}
GivesUp status.WriteFault = Unit {0}
GivesUp _ = ⊥

-- What of a status the bytes of the source decide. With `run` one bundle may end by one way of its
-- threads and be cut by another, so of these two statuses the bytes tell that one of them comes.
abbrev pub decided : Command → Status → Status
decided (command.Run options) status.Limit = status.Done
decided _ result = result

-- A status comes exactly where its cause is in the bytes of the source, where the source tells
-- them, as far as these decide it; only want of memory and a fault of a device stand before it.
pub record ComesExactly (wanted : Status) (call : Call) (result : Status) : Type 0 where
  pub only : result ≡ wanted
      → (found : Command)
      × (call.asked ≡ Some found)
      × IfSome call.source.left (Cause found wanted)
  pub always : (found : Command)
      → call.asked ≡ Some found
      → IfSome call.source.left (λ bytes.
      Cause found wanted bytes
      → (decided found result ≡ decided found wanted) ⊎ GivesUp result)

-- words that ask for no command get no other answer, but for want of memory; and nothing else gets
-- it
pub record UsageComes (call : Call) (result : Status) : Type 0 where
  pub only : result ≡ status.Usage → call.asked ≡ None
  pub always : call.asked ≡ None → (result ≡ status.Usage) ⊎ (result ≡ status.Memory)

-- with a read fault a source was to be read, and its count of faults rose
abbrev pub ReadFaultComes : Call → Status → Type 0
ReadFaultComes call result =
    result ≡ status.ReadFault
    → ReadsText call.asked
    × Rose call.source.faults call.source_after.faults

-- with a write fault the count of faults of `out` rose
abbrev pub WriteFaultComes : Call → Status → Type 0
WriteFaultComes call result =
    result ≡ status.WriteFault
    → Rose call.out.faults call.out_after.faults

-- Where no device failed, a bundle that is spelled and not refused gets an answer of its command,
-- or want of memory; so do sessions that are spelled; and a command that reads nothing gets its
-- reply, or want of memory.
pub record IsComplete (found : Command) (source : SourceState) (result : Status) : Type 0 where
  pub text : session_options found ≡ None
      → unread_reply found ≡ None
      → IfSome source.left (λ bytes. (b : PlainBundle)
      → Spells bytes b
      → refusal_of found b ≡ None
      → ((reply : Reply) × Replies found b reply × (result ≡ status_of_end reply.end))
      ⊎ (result ≡ status.Memory))
  pub sessions : (options : Options)
      → session_options found ≡ Some options
      → IfSome source.left (λ bytes. (bundles : List PlainBundle)
      → SpellsSessions bytes bundles
      → (result ≡ status.Done) ⊎ (result ≡ status.Memory))
  pub unread : (reply : Reply)
      → unread_reply found ≡ Some reply
      → (result ≡ status_of_end reply.end) ⊎ (result ≡ status.Memory)

abbrev pub Complete : Call → Status → Type 0
Complete call result =
    (found : Command)
    → call.asked ≡ Some found
    → (Rose call.source.faults call.source_after.faults → ⊥)
    → (Rose call.out.faults call.out_after.faults → ⊥)
    → IsComplete found call.source result

-- what a text was read for comes after its end
abbrev pub AfterEnd : Option Command → SourceState → Type 0
AfterEnd asked source_after =
    (found : Command)
    → asked ≡ Some found
    → unread_reply found ≡ None
    → IsAtEnd source_after.left

-- How far a text was read: to its end; of one that is too long one byte more than the limit; and no
-- more than the limit where the source failed or memory ran out.
abbrev pub ReadsSoFar : Call → Status → Type 0
ReadsSoFar call status.Usage = call.source_after ≡ call.source
ReadsSoFar call status.Done = AfterEnd call.asked call.source_after
ReadsSoFar call status.Limit = AfterEnd call.asked call.source_after
ReadsSoFar call status.No = AfterEnd call.asked call.source_after
ReadsSoFar call status.Syntax = AfterEnd call.asked call.source_after
ReadsSoFar call status.Refused = AfterEnd call.asked call.source_after
ReadsSoFar call status.WriteFault = AfterEnd call.asked call.source_after
ReadsSoFar call status.TooLong = ReadsPastLimit call.source call.source_after
ReadsSoFar call status.ReadFault = ReadsWithinLimit call.source call.source_after
ReadsSoFar call status.Memory = ReadsWithinLimit call.source call.source_after

-- Words that ask for no command, or for one that has its reply without reading, read nothing; a
-- text is read so far.
pub record ReadsAll (call : Call) (result : Status) : Type 0 where
  pub so_far : ReadsSoFar call result
  pub nothing : ReadsNothing call.asked call.source call.source_after

-- a part of a text that the command may write for the bytes
pub record PartPrinted (call : Call) : Type 0 where
  pub command : Command
  pub asked_for : call.asked ≡ Some command
  pub bytes : List ℕ
  pub read : unread_reply command ≡ None → IsRead call.source bytes
  pub reply : Reply
  pub comes : Comes command bytes (Replied reply)
  pub part : TakesPart call.out.taken call.out_after.taken reply.text

-- `out` isn't called before a refusal, and not by `drive` at its limit; with a fault of `out` it
-- took a part of a text that it might have taken whole
abbrev pub Silent : Call → Status → Type 0
Silent call status.Done = Unit {0}
Silent call status.Limit =
    (options : Options)
    → call.asked ≡ Some (command.Drive options)
    → call.out_after ≡ call.out
Silent call status.No = Unit {0}
Silent call status.WriteFault = PartPrinted call
Silent call _ = call.out_after ≡ call.out

-- the line of a text that spells nothing: at which byte its reading ends
abbrev pub SaysSyntax : Call → Type 0
SaysSyntax call =
    (found : Command)
    × (call.asked ≡ Some found)
    × ((byte : ℕ)
    × SaysLine call.err call.err_after (syntax_line byte)
    × IfSome call.source.left (λ bytes. Comes found bytes (Unspelled byte)))

-- the line of a bundle that is refused: why
abbrev pub SaysRefusal : Call → Type 0
SaysRefusal call =
    (found : Command)
    × (call.asked ≡ Some found)
    × ((why : Reason)
    × SaysLine call.err call.err_after (refusal_line why)
    × IfSome call.source.left (λ bytes. Refuses found bytes why))

-- `err` isn't called where `out` took the whole text, and else it took the line of the status, or a
-- part of it where it failed
abbrev pub SaysWhy : Call → Status → Type 0
SaysWhy call status.Done = call.err_after ≡ call.err
SaysWhy call status.Limit = call.err_after ≡ call.err
SaysWhy call status.No = call.err_after ≡ call.err
SaysWhy call status.Usage = SaysLine call.err call.err_after usage_line
SaysWhy call status.ReadFault = SaysLine call.err call.err_after read_fault_line
SaysWhy call status.WriteFault = SaysLine call.err call.err_after write_fault_line
SaysWhy call status.TooLong = SaysLine call.err call.err_after too_long_line
SaysWhy call status.Syntax = SaysSyntax call
SaysWhy call status.Refused = SaysRefusal call
SaysWhy call status.Memory = SaysLine call.err call.err_after memory_line

-- What a call ensures: the clauses that `serve` and `serve_alone` share.
pub record Serves (call : Call) (result : Status) : Type 0 where
  -- What is printed: with `run` the text of a run that the roles' threads have made, and with
  -- `step` that of the run which the schedule takes, and no other.
  pub run_text : RunText call result
  pub step_text : StepText call result
  -- With `check` the line that says how large the bundle is, with `project` a line for each role,
  -- with `replay` the judgement of the trace, with `monitor` that of one role, with `drive` the
  -- run that shows exactly this trace, with `resume` the run that goes on from its entries, with
  -- `sessions` what each of them is answered, with `gen` the line of the bundle that is made of
  -- its numbers, with `upgrade` the bundle in its second version, with `mend` the bundle connected
  -- by added messages.
  pub check_text : CheckText call result
  pub project_text : ProjectText call result
  pub replay_text : ReplayText call result
  pub monitor_text : MonitorText call result
  pub drive_text : DriveText call result
  pub resume_text : ResumeText call result
  pub sessions_text : SessionsText call result
  pub gen_text : GenText call result
  pub upgrade_text : UpgradeText call result
  pub mend_text : MendText call result
  -- When each status comes.
  pub usage : UsageComes call result
  pub done : ComesExactly status.Done call result
  pub limit : ComesExactly status.Limit call result
  pub no : ComesExactly status.No call result
  pub too_long : ComesExactly status.TooLong call result
  pub syntax : ComesExactly status.Syntax call result
  pub refused : ComesExactly status.Refused call result
  pub read_fault : ReadFaultComes call result
  pub write_fault : WriteFaultComes call result
  pub complete : Complete call result
  -- What is done with the source and the sinks.
  pub reads_all : ReadsAll call result
  pub silent : Silent call result
  pub says : SaysWhy call result
