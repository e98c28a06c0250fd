-- What the table of calls says by each clause.
use Rattle.std.proofs.Common.{◌≡◌, ◌⊎◌, ◌↔◌, ◌≤◌, ℕ, List, [], ◌∷◌, length, take, Bool, true, false, true≢false, Option, Some, None, IfSome, IsSome, refl, sym, ap, ◌∙◌, subst, inl, inr, ⊎_elim, arith}
use Rattle.std.specs.Prelude.{if◌then◌else◌, option_map}
use Rattle.std.specs.Option.{option_map_or}
use Rattle.std.specs.List.{All}
use Rattle.std.proofs.lemmas.List.Elements.{All-weaker}
use Rattle.std.specs.Io.KnownBytes.{Appends, IsAtEnd}
use Rattle.aioc_io.specs.Faults.{Rose}
use Rattle.aioc_io.specs.Source.{SourceState}
use Rattle.dioc_terms.specs.declared.entries.Entry.{Entry}
use Rattle.dioc_terms.specs.Plain.{PlainBundle}
use Rattle.bundle_text.specs.Grammar.{Spells}
use Rattle.bundle_text.specs.Sessions.{SpellsSessions}
use Rattle.bundle_text.specs.Laws.{OneBundle, SpelledIsFormed, WrittenIsSpelled}
use Rattle.dioc_terms.specs.Bundles.{IsFormed}
use Rattle.marked_laws.proofs.Shapes.{none_some, some_same}
use Rattle.network_steps.specs.Network.{Network, network_start, network_run, network_ended}
use Rattle.net_laws.specs.Headline.{EveryRun, Headline}
use Rattle.network_steps.specs.Schedule.{IsPrompt}
use Rattle.marked_laws.specs.Versions.{RunsReadNoVersion, with_version}
use Rattle.net_laws.specs.Laws.{RunsAreSound, SchedulesReadNoVersion}
use Rattle.net_drive.specs.ResumedLaws.{ResumedRuns, RunStraysAreExact}
use Rattle.dioc_terms.specs.declared.names.Role.{Role}
use Rattle.dioc_terms.specs.Equality.{member}
use Rattle.rule_checks.specs.declared.refusals.Refusal.{Refusal}
use Rattle.rule_checks.specs.declared.refusals.Refusal.TheVariants.{UnknownRole}
use Rattle.rule_checks.specs.declared.refusals.Where.TheVariants as place
use Rattle.rule_checks.specs.Refusals.{IsAccepted, first_refusal, refusal, unknown_role}
use Rattle.mend.specs.Traces.{mended_bundle}
use Rattle.mend.specs.Laws.{MendedAccepted}
use Rattle.mend.specs.Refusals.{mend_refusal}
use Rattle.command_words.specs.declared.commands.Options.{Options}
use Rattle.command_words.specs.declared.commands.Command.{Command}
use Rattle.command_words.specs.declared.commands.Command.TheVariants as command
use Rattle.aioc_top.specs.Calls.{Call, Judges, Happens, IsRead, CommandReads, NeedsNoSource, ReadsBy, ReadsNothing, ReadsPastLimit, ReadsText, ReadsTo, Says, Writes, WritesText}
use Rattle.aioc_top.specs.Replies.{Reply, Replies, drive_reply, monitor_refusal, monitor_reply, is_finished, refusal_of, IsThreadRun, run_reply, step_history, resume_history, resume_reply, resume_stray, resumed_or_no, replay_reply, line_of_text, check_line, project_text as project_lines, session_options, upgrade_text as upgraded, unread_reply, gen_line, gen_reply, gen_history, updates_of}
use Rattle.aioc_top.specs.Serve.{CheckText, ComesExactly, Complete, GenPrinted, GivesUp, HeadlineHolds, AfterEnd, ReadsSoFar, IsComplete, IsUpgraded, JudgementPrinted, MendText, MonitorText, ProjectText, ReadsAll, ReplayText, ResumePrinted, RunPrinted, SaysWhy, SessionsPrinted, SessionsText, Silent, TextPrinted, decided, never_of_sessions, UpgradeText, UsageComes, has_printed}
use Rattle.aioc_top.specs.Verdicts.{Verdict, TooLong, Unspelled, Refused, Replied, MayReply, RepliesToSessions, Cause, Comes, ComesBy, ComesOfInput, ComesOfSessions, ComesOfText, Refuses, status_of, status_of_end}
use Rattle.aioc_top.specs.Words.{IsShort}
use Rattle.command_words.specs.Commands.{usual_steps}
use Rattle.command_words.specs.declared.commands.Verb.TheVariants.{Gen}
use Rattle.load_gen.specs.Laws.{MadeAreAccepted}
use Rattle.load_gen.specs.Made.{made}
use Rattle.aioc_top.specs.Reasons.{Reason, MayNotRun, CannotBeMended}
use Rattle.aioc_top.specs.declared.replies.End.TheVariants as end
use Rattle.aioc_top.specs.declared.status.Status.{Status}
use Rattle.aioc_top.specs.declared.status.Status.TheVariants as status
use Rattle.aioc_top.proofs.Table.{prints_always}
use Rattle.aioc_top.proofs.Causes.{caused, not_too_long, one_cause}
use Rattle.aioc_top.proofs.Driven.{limit_is_silent}

filled : {A : Type 0} {P : A → Type 0} → ((x : A) → P x) → (o : Option A) → IfSome o P
filled f None = tt
filled f (Some x) = f x

pub mapped : {A : Type 0} {P Q : A → Type 0} → ((x : A) → P x → Q x) → (o : Option A) → IfSome o P → IfSome o Q
mapped f None h = h
mapped f (Some x) h = f x h

pub none_is_some : {A : Type 0} (o : Option A) → o ≡ None → IsSome o → ⊥
none_is_some None e h = cc
none_is_some (Some x) e h = cc

is_there : {A : Type 0} (o : Option A) → IsSome o → (x : A) × (o ≡ Some x)
is_there None h = cc
is_there (Some x) h = (x, refl)

-- the statuses that tell a verdict
abbrev tells_verdict : Status → Bool
tells_verdict status.Done = true
tells_verdict status.Limit = true
tells_verdict status.No = true
tells_verdict status.TooLong = true
tells_verdict status.Syntax = true
tells_verdict status.Refused = true
tells_verdict _ = false

abbrev Told : Call → Status → Type 0
Told call s = (verdict : Verdict) × Judges call verdict × (s ≡ status_of verdict) × Writes verdict call.out call.out_after × Says verdict call.err call.err_after

told : (call : Call) (s : Status) → tells_verdict s ≡ true → Happens call s → Told call s
told call status.Done is h = h
told call status.Limit is h = h
told call status.No is h = h
told call status.TooLong is h = h
told call status.Syntax is h = h
told call status.Refused is h = h
told call _ is h = absurd (true≢false (sym is))

-- what a status says of the words
asked_for : (call : Call) (s : Status) → Happens call s → call.asked ≡ None → (s ≡ status.Usage) ⊎ (s ≡ status.Memory)
asked_for call status.Usage h none = inl refl
asked_for call status.Memory h none = inr refl
asked_for call status.ReadFault h none = absurd (none_some (sym none ∙ h.0.1))
asked_for call status.WriteFault h none = absurd (none_some (sym none ∙ h.1.asked))
asked_for call status.Done h none = absurd (none_some (sym none ∙ h.1.asked))
asked_for call status.Limit h none = absurd (none_some (sym none ∙ h.1.asked))
asked_for call status.No h none = absurd (none_some (sym none ∙ h.1.asked))
asked_for call status.TooLong h none = absurd (none_some (sym none ∙ h.1.asked))
asked_for call status.Syntax h none = absurd (none_some (sym none ∙ h.1.asked))
asked_for call status.Refused h none = absurd (none_some (sym none ∙ h.1.asked))

pub usage : (call : Call) (s : Status) → Happens call s → UsageComes call s
usage call s h = record { only = λ e. (subst (Happens call) e h).0; always = asked_for call s h }

pub read_fault : (call : Call) (s : Status) → Happens call s → s ≡ status.ReadFault → ReadsText call.asked × Rose call.source.faults call.source_after.faults
read_fault call s h e = let failed = subst (Happens call) e h in (failed.0, failed.1)

pub write_fault : (call : Call) (s : Status) → Happens call s → s ≡ status.WriteFault → Rose call.out.faults call.out_after.faults
write_fault call s h e = (subst (Happens call) e h).2

-- the end of the source, where a verdict other than too long was told
at_end : (verdict : Verdict) (source source_after : SourceState) (s : Status) → s ≡ status_of verdict → ReadsTo verdict source source_after → (s ≡ status.TooLong → ⊥) → IsAtEnd source_after.left
at_end TooLong source source_after s is h other = absurd (other is)
at_end (Unspelled byte) source source_after s is h other = h
at_end (Refused why) source source_after s is h other = h
at_end (Replied reply) source source_after s is h other = h

unlike_syntax : status.TooLong ≡ status.Syntax → ⊥
unlike_syntax is = cc

unlike_refused : status.TooLong ≡ status.Refused → ⊥
unlike_refused is = cc

-- the limit was passed, where too long was told
past_limit : (verdict : Verdict) (source source_after : SourceState) → status.TooLong ≡ status_of verdict → ReadsTo verdict source source_after → ReadsPastLimit source source_after
past_limit TooLong source source_after is h = h
past_limit (Unspelled byte) source source_after is h = absurd (unlike_syntax is)
past_limit (Refused why) source source_after is h = absurd (unlike_refused is)
past_limit (Replied reply) source source_after is h = absurd (prints_always status.TooLong reply.end is refl)

-- what was read, where it is known whether the command reads
text_read : (o : Option Reply) (verdict : Verdict) (bytes : List ℕ) (source source_after : SourceState) → o ≡ None → ReadsBy o verdict bytes source source_after
    → IsRead source bytes × ReadsTo verdict source source_after
text_read o verdict bytes source source_after none h = subst (λ p. ReadsBy p verdict bytes source source_after) none h

nothing_read : (o : Option Reply) (verdict : Verdict) (bytes : List ℕ) (source source_after : SourceState) → IsSome o → ReadsBy o verdict bytes source source_after → source_after ≡ source
nothing_read None verdict bytes source source_after some h = absurd (none_is_some {A = Reply} None refl some)
nothing_read (Some reply) verdict bytes source source_after some h = h

-- a command whose reply comes of no text that is too long
limit_read : (o : Option Reply) (c : Command) (verdict : Verdict) (bytes : List ℕ) (source source_after : SourceState) → status.TooLong ≡ status_of verdict → ComesBy o c bytes verdict
    → ReadsBy o verdict bytes source source_after → ReadsPastLimit source source_after
limit_read None c verdict bytes source source_after is comes h = past_limit verdict source source_after is h.1
limit_read (Some reply) c verdict bytes source source_after is comes h = absurd (prints_always status.TooLong reply.end (is ∙ ap status_of comes) refl)

module _ (call : Call) (verdict : Verdict) (judges : Judges call verdict) where
  reads_by : (found : Command) → call.asked ≡ Some found → CommandReads found verdict judges.bytes call.source call.source_after
  reads_by found asked = subst (λ c. CommandReads c verdict judges.bytes call.source call.source_after) (some_same (sym judges.asked ∙ asked)) judges.read

  after_end : (s : Status) → s ≡ status_of verdict → (s ≡ status.TooLong → ⊥) → AfterEnd call.asked call.source_after
  after_end s is other found asked none =
      at_end verdict call.source call.source_after s is (text_read (unread_reply found) verdict judges.bytes call.source call.source_after none (reads_by found asked)).1 other

  passes_limit : status.TooLong ≡ status_of verdict → ReadsPastLimit call.source call.source_after
  passes_limit is = limit_read (unread_reply judges.command) judges.command verdict judges.bytes call.source call.source_after is judges.comes judges.read

  judged_nothing : ReadsNothing call.asked call.source call.source_after
  judged_nothing needs = nothing_read (unread_reply judges.command) verdict judges.bytes call.source call.source_after (subst NeedsNoSource judges.asked needs) judges.read

reads_nothing : (call : Call) (s : Status) → Happens call s → ReadsNothing call.asked call.source call.source_after
reads_nothing call status.Usage h = λ needs. h.1
reads_nothing call status.Memory h = h.2
reads_nothing call status.ReadFault h = λ needs. absurd (none_is_some (unread_reply h.0.0) h.0.2 (subst NeedsNoSource h.0.1 needs))
reads_nothing call status.WriteFault h = judged_nothing call (Replied h.0) h.1
reads_nothing call status.Done h = judged_nothing call h.0 h.1
reads_nothing call status.Limit h = judged_nothing call h.0 h.1
reads_nothing call status.No h = judged_nothing call h.0 h.1
reads_nothing call status.TooLong h = judged_nothing call h.0 h.1
reads_nothing call status.Syntax h = judged_nothing call h.0 h.1
reads_nothing call status.Refused h = judged_nothing call h.0 h.1

reads_so_far : (call : Call) (s : Status) → Happens call s → ReadsSoFar call s
reads_so_far call status.Usage h = h.1
reads_so_far call status.Done h = after_end call h.0 h.1 status.Done h.2 (λ e. cc)
reads_so_far call status.Limit h = after_end call h.0 h.1 status.Limit h.2 (λ e. cc)
reads_so_far call status.No h = after_end call h.0 h.1 status.No h.2 (λ e. cc)
reads_so_far call status.Syntax h = after_end call h.0 h.1 status.Syntax h.2 (λ e. cc)
reads_so_far call status.Refused h = after_end call h.0 h.1 status.Refused h.2 (λ e. cc)
reads_so_far call status.WriteFault h = λ found asked none.
    (text_read (unread_reply found) (Replied h.0) h.1.bytes call.source call.source_after none (reads_by call (Replied h.0) h.1 found asked)).1
reads_so_far call status.ReadFault h = h.2
reads_so_far call status.TooLong h = passes_limit call h.0 h.1 h.2
reads_so_far call status.Memory h = h.3

pub reads_all : (call : Call) (s : Status) → Happens call s → ReadsAll call s
reads_all call s h = record { so_far = reads_so_far call s h; nothing = reads_nothing call s h }

-- nothing was written where nothing was printed
quiet : (verdict : Verdict) (call : Call) (s : Status) → s ≡ status_of verdict → has_printed s ≡ false → Writes verdict call.out call.out_after → call.out_after ≡ call.out
quiet TooLong call s is h w = w
quiet (Unspelled byte) call s is h w = w
quiet (Refused why) call s is h w = w
quiet (Replied reply) call s is h w = absurd (prints_always s reply.end is h)

-- a verdict that was told with a status that prints is a reply
reply_told : (call : Call) (s : Status) → has_printed s ≡ true → Told call s
    → (reply : Reply) × Judges call (Replied reply) × (s ≡ status_of_end reply.end) × WritesText reply.text call.out call.out_after × (call.err_after ≡ call.err)
reply_told call s is (TooLong, judges, same, writes, says) = absurd (true≢false (sym is ∙ ap has_printed same))
reply_told call s is (Unspelled byte, judges, same, writes, says) = absurd (true≢false (sym is ∙ ap has_printed same))
reply_told call s is (Refused why, judges, same, writes, says) = absurd (true≢false (sym is ∙ ap has_printed same))
reply_told call s is (Replied reply, judges, same, writes, says) = (reply, judges, same, writes, says)

-- `drive` has no text where it tells its limit
idle_drive : (call : Call) → Told call status.Limit → (options : Options) → call.asked ≡ Some (command.Drive options) → call.out_after ≡ call.out
idle_drive call h options asked =
    let its = reply_told call status.Limit refl h in
    let same : its.1.command ≡ command.Drive options = some_same (sym its.1.asked ∙ asked) in
    let comes : MayReply (command.Drive options) its.1.bytes its.0 = subst (λ c. Comes c its.1.bytes (Replied its.0)) same its.1.comes in
    let limit : status.Limit ≡ status_of_end (drive_reply options comes.bundle).end = its.2 ∙ ap (λ (r : Reply). status_of_end r.end) comes.replies in
    its.3.1 (ap (λ (r : Reply). r.text) comes.replies ∙ limit_is_silent options comes.bundle limit)

pub silent : (call : Call) (s : Status) → Happens call s → Silent call s
silent call status.Done h = tt
silent call status.Limit h = idle_drive call h
silent call status.No h = tt
silent call status.WriteFault h = record {
  command = h.1.command;
  asked_for = h.1.asked;
  bytes = h.1.bytes;
  read = λ none. (text_read (unread_reply h.1.command) (Replied h.0) h.1.bytes call.source call.source_after none h.1.read).0;
  reply = h.0;
  comes = h.1.comes;
  part = h.3;
}
silent call status.Usage h = h.2
silent call status.ReadFault h = h.3
silent call status.Memory h = h.0
silent call status.TooLong h = quiet h.0 call status.TooLong h.2 refl h.3
silent call status.Syntax h = quiet h.0 call status.Syntax h.2 refl h.3
silent call status.Refused h = quiet h.0 call status.Refused h.2 refl h.3

-- what comes of the bytes that were read comes of those that the source tells
comes_by : (o : Option Reply) (c : Command) (verdict : Verdict) (bytes : List ℕ) (source source_after : SourceState) → ReadsBy o verdict bytes source source_after → ComesBy o c bytes verdict
    → IfSome source.left (λ told. ComesBy o c told verdict)
comes_by (Some reply) c verdict bytes source source_after read comes = filled (λ told. comes) source.left
comes_by None c verdict bytes source source_after read comes = mapped (λ told e. subst (λ bs. ComesOfInput (session_options c) c bs verdict) (sym e) comes) source.left read.0

comes_told : (call : Call) (verdict : Verdict) (judges : Judges call verdict) → IfSome call.source.left (λ told. Comes judges.command told verdict)
comes_told call verdict judges = comes_by (unread_reply judges.command) judges.command verdict judges.bytes call.source call.source_after judges.read judges.comes

abbrev reply_in : Reply → Verdict → Reply
reply_in other (Replied reply) = reply
reply_in other _ = other

abbrev is_reply : Verdict → Bool
is_reply (Replied reply) = true
is_reply _ = false

refused_input : (o : Option Options) (c : Command) (bytes : List ℕ) (why : Reason) → ComesOfInput o c bytes (Refused why) → Refuses c bytes why
refused_input (Some options) c bytes why h = absurd h
refused_input None c bytes why h = h

refuses_by : (o : Option Reply) (c : Command) (bytes : List ℕ) (why : Reason) → ComesBy o c bytes (Refused why) → Refuses c bytes why
refuses_by (Some reply) c bytes why h = absurd (true≢false (sym (ap is_reply h)))
refuses_by None c bytes why h = refused_input (session_options c) c bytes why h

line_told : (call : Call) (s : Status) → has_printed s ≡ false → tells_verdict s ≡ true → Told call s → SaysWhy call s
line_told call s unprinted is (TooLong, judges, same, writes, says) = subst (λ t. SaysWhy call t) (sym same) says
line_told call s unprinted is (Unspelled byte, judges, same, writes, says) = subst (λ t. SaysWhy call t) (sym same)
    (judges.command, judges.asked, (byte, says, comes_told call (Unspelled byte) judges))
line_told call s unprinted is (Refused why, judges, same, writes, says) = subst (λ t. SaysWhy call t) (sym same)
    (judges.command, judges.asked, (why, says, mapped (λ told comes. refuses_by (unread_reply judges.command) judges.command told why comes) call.source.left (comes_told call (Refused why) judges)))
line_told call s unprinted is (Replied reply, judges, same, writes, says) = absurd (prints_always s reply.end same unprinted)

pub says : (call : Call) (s : Status) → Happens call s → SaysWhy call s
says call status.Usage h = h.3
says call status.Memory h = h.1
says call status.ReadFault h = h.4
says call status.WriteFault h = h.4
says call status.Done h = (reply_told call status.Done refl h).4
says call status.Limit h = (reply_told call status.Limit refl h).4
says call status.No h = (reply_told call status.No refl h).4
says call status.TooLong h = line_told call status.TooLong refl refl h
says call status.Syntax h = line_told call status.Syntax refl refl h
says call status.Refused h = line_told call status.Refused refl refl h

-- why a status came, with words that ask for a command
because : (call : Call) (s : Status) (found : Command) → call.asked ≡ Some found → Happens call s → GivesUp s ⊎ Told call s
because call status.Memory found is h = inl tt
because call status.ReadFault found is h = inl tt
because call status.WriteFault found is h = inl tt
because call status.Usage found is h = absurd (none_some (sym h.0 ∙ is))
because call status.Done found is h = inr h
because call status.Limit found is h = inr h
because call status.No found is h = inr h
because call status.TooLong found is h = inr h
because call status.Syntax found is h = inr h
because call status.Refused found is h = inr h

-- what comes of the bytes of one bundle, where it is known that the command reads one
one_text : (c : Command) (bytes : List ℕ) (verdict : Verdict) → session_options c ≡ None → unread_reply c ≡ None → Comes c bytes verdict → ComesOfText c bytes verdict
one_text c bytes verdict single none h = subst (λ o. ComesOfInput o c bytes verdict) single (subst (λ o. ComesBy o c bytes verdict) none h)

-- and of those of sessions
of_sessions : (c : Command) (options : Options) (bytes : List ℕ) (verdict : Verdict) → session_options c ≡ Some options → unread_reply c ≡ None → Comes c bytes verdict
    → ComesOfSessions options bytes verdict
of_sessions c options bytes verdict some none h = subst (λ o. ComesOfInput o c bytes verdict) some (subst (λ o. ComesBy o c bytes verdict) none h)

-- a command that reads sessions reads
sessions_read : (c : Command) (options : Options) → session_options c ≡ Some options → unread_reply c ≡ None
sessions_read (command.Sessions given) options h = refl
sessions_read (command.Gen number size) options h = absurd (none_some h)
sessions_read _ options h = refl

module _ (one : OneBundle) (call : Call) where
  pub comes_exactly : (wanted s : Status) → tells_verdict wanted ≡ true → Happens call s → ComesExactly wanted call s
  comes_exactly wanted s tells h = record { only = only; always = always }
    where
      only : s ≡ wanted → (found : Command) × (call.asked ≡ Some found) × IfSome call.source.left (Cause found wanted)
      only e =
          let its = told call wanted tells (subst (Happens call) e h) in (
            its.1.command,
            its.1.asked,
            mapped (λ left comes. caused its.1.command left wanted its.0 comes its.2) call.source.left (comes_told call its.0 its.1),
          )

      same_status : (found : Command) → call.asked ≡ Some found → (its : Told call s) → IfSome call.source.left (λ bytes. Cause found wanted bytes → decided found s ≡ decided found wanted)
      same_status found is its =
          let command : its.1.command ≡ found = some_same (sym its.1.asked ∙ is) in
          mapped (λ left comes cause.
          ap (decided found) its.2 ∙ one_cause one found left wanted its.0 (subst (λ c. Comes c left its.0) command comes) cause)
          call.source.left (comes_told call its.0 its.1)

      always : (found : Command) → call.asked ≡ Some found → IfSome call.source.left (λ bytes. Cause found wanted bytes → (decided found s ≡ decided found wanted) ⊎ GivesUp s)
      always found is = ⊎_elim
          (λ gives. filled (λ bytes cause. inr gives) call.source.left)
          (λ its. mapped (λ bytes same cause. inl (same cause)) call.source.left (same_status found is its))
          (because call s found is h)

  -- the reply of a bundle that is spelled and not refused
  replied : (s : Status) (found : Command) → call.asked ≡ Some found → session_options found ≡ None → unread_reply found ≡ None → Told call s → IfSome call.source.left (λ bytes. (b : PlainBundle) → Spells bytes b → refusal_of found b ≡ None
      → (reply : Reply) × Replies found b reply × (s ≡ status_of_end reply.end))
  replied s found is single none (verdict, judges, same, writes, says) =
      let command : judges.command ≡ found = some_same (sym judges.asked ∙ is) in
      mapped (λ left comes. by_verdict left verdict (one_text found left verdict single none (subst (λ c. Comes c left verdict) command comes)) same) call.source.left (comes_told call verdict judges)
    where
      by_verdict : (bytes : List ℕ) (v : Verdict) → ComesOfText found bytes v → s ≡ status_of v → (b : PlainBundle) → Spells bytes b → refusal_of found b ≡ None
          → (reply : Reply) × Replies found b reply × (s ≡ status_of_end reply.end)
      by_verdict bytes TooLong comes e b spells accepted = absurd (not_too_long bytes b spells comes)
      by_verdict bytes (Unspelled byte) comes e b spells accepted = absurd (comes.1 b spells)
      by_verdict bytes (Refused why) comes e b spells accepted =
          absurd (none_some (sym accepted ∙ ap (refusal_of found) (one bytes b comes.bundle spells comes.spells) ∙ comes.refused))
      by_verdict bytes (Replied reply) comes e b spells accepted =
          (reply, subst (λ c. Replies found c reply) (one bytes comes.bundle b comes.spells spells) comes.replies, e)

  -- the end of sessions that are spelled
  sessions_replied : (s : Status) (found : Command) (options : Options) → call.asked ≡ Some found → session_options found ≡ Some options → Told call s
      → IfSome call.source.left (λ bytes. (bundles : List PlainBundle) → SpellsSessions bytes bundles → s ≡ status.Done)
  sessions_replied s found options is some (verdict, judges, same, writes, says) =
      let command : judges.command ≡ found = some_same (sym judges.asked ∙ is) in
      mapped (λ left comes. by_verdict left verdict (of_sessions found options left verdict some (sessions_read found options some) (subst (λ c. Comes c left verdict) command comes)) same)
      call.source.left (comes_told call verdict judges)
    where
      by_verdict : (bytes : List ℕ) (v : Verdict) → ComesOfSessions options bytes v → s ≡ status_of v → (bundles : List PlainBundle) → SpellsSessions bytes bundles → s ≡ status.Done
      by_verdict bytes TooLong comes e bundles spells = absurd (omega (arith, spells.small, comes))
      by_verdict bytes (Unspelled byte) comes e bundles spells = absurd (comes.1 bundles spells)
      by_verdict bytes (Refused why) comes e bundles spells = absurd comes
      by_verdict bytes (Replied reply) comes e bundles spells = e ∙ ap (λ (r : Reply). status_of_end r.end) comes.replies

  pub complete : (s : Status) → Happens call s → Complete call s
  complete s h found is reads writes = by s h
    where
      Wanted : Status → Type 0
      Wanted t = IsComplete found call.source t

      answered : (t : Status) → Told call t → Wanted t
      answered t its = record {
        text = λ single none. mapped (λ bytes f b spells accepted. inl (f b spells accepted)) call.source.left (replied t found is single none its);
        sessions = λ options some. mapped (λ bytes f bundles spells. inl (f bundles spells)) call.source.left (sessions_replied t found options is some its);
        unread = λ reply some.
            let comes : Comes found its.1.bytes its.0 = subst (λ c. Comes c its.1.bytes its.0) (some_same (sym its.1.asked ∙ is)) its.1.comes in
            let only : its.0 ≡ Replied reply = subst (λ o. ComesBy o found its.1.bytes its.0) some comes in
            inl (its.2 ∙ ap status_of only);
      }

      by : (t : Status) → Happens call t → Wanted t
      by status.Memory h = record {
        text = λ single none. filled (λ bytes b spells accepted. inr refl) call.source.left;
        sessions = λ options some. filled (λ bytes bundles spells. inr refl) call.source.left;
        unread = λ reply some. inr refl;
      }
      by status.ReadFault h = absurd (reads h.1)
      by status.WriteFault h = absurd (writes h.2)
      by status.Usage h = absurd (none_some (sym h.0 ∙ is))
      by status.Done h = answered status.Done h
      by status.Limit h = answered status.Limit h
      by status.No h = answered status.No h
      by status.TooLong h = answered status.TooLong h
      by status.Syntax h = answered status.Syntax h
      by status.Refused h = answered status.Refused h

-- a command that has no reason to refuse a bundle finds no refusal
unrefused : {A : Type 0} (make : A → Reason) (o : Option A) → option_map make o ≡ None → o ≡ None
unrefused make None h = refl
unrefused make (Some why) h = absurd (none_some (sym h))

-- a status that prints tells a verdict
printing : (t : Status) → has_printed t ≡ true → tells_verdict t ≡ true
printing status.Done e = refl
printing status.Limit e = refl
printing status.No e = refl
printing _ e = absurd (true≢false (sym e))

-- ---- the text of a run

-- how a run's reply ends, where the network after it is known
end_is : (b : PlainBundle) (H : List Entry) (N : Network) → network_run b H ≡ Some N → is_finished b H ≡ network_ended b.cast N
end_is b H N runs = ap (λ o. option_map_or (network_ended b.cast) o false) runs

not_limit : status.Done ≡ status.Limit → ⊥
not_limit e = cc

not_done : status.Limit ≡ status.Done → ⊥
not_done e = cc

ends_done : (t : Bool) → (status_of_end (if t then end.Done else end.Limit) ≡ status.Done) ↔ (t ≡ true)
ends_done true = (λ e. refl, λ e. refl)
ends_done false = (λ e. absurd (not_done e), λ e. absurd (true≢false (sym e)))

ends_limit : (t : Bool) {A : Type 0} → (t ≡ true) ⊎ A → (status_of_end (if t then end.Done else end.Limit) ≡ status.Limit) ↔ (A × (t ≡ false))
ends_limit true h = (λ e. absurd (not_limit e), λ e. absurd (true≢false (e.1)))
ends_limit false h = (λ e. (⊎_elim (λ is. absurd (true≢false (sym is))) (λ a. a) h, refl), λ e. refl)

-- what was printed is a run, where its history leads to a network which has ended or is as long as it may be
module _ (options : Options) (bytes : List ℕ) (call : Call) (read : IsRead call.source bytes) (b : PlainBundle) (spells : Spells bytes b)
    (accepted : IsAccepted b) (H : List Entry) (N : Network) (headline : Headline b H N) (within : length H ≤ options.steps)
    (over : (network_ended b.cast N ≡ true) ⊎ (length H ≡ options.steps)) where
  abbrev run_arrived : (s : Status) → s ≡ status_of_end (run_reply options b H).end → Appends call.out.taken call.out_after.taken (run_reply options b H).text
      → RunPrinted options call s
  run_arrived s is wrote =
      let status_is : s ≡ status_of_end (if network_ended b.cast N then end.Done else end.Limit) =
      is ∙ ap (λ t. status_of_end (if t then end.Done else end.Limit)) (end_is b H N headline.runs) in
      record {
        bytes = bytes;
        read = read;
        bundle = b;
        spells = spells;
        accepted = accepted;
        history = H;
        network = N;
        printed = wrote;
        headline = headline;
        within = within;
        done = subst (λ t. (t ≡ status.Done) ↔ (network_ended b.cast N ≡ true)) (sym status_is) (ends_done (network_ended b.cast N));
        limit = subst (λ t. (t ≡ status.Limit) ↔ ((length H ≡ options.steps) × (network_ended b.cast N ≡ false))) (sym status_is)
            (ends_limit (network_ended b.cast N) over);
      }

module _ (formed : SpelledIsFormed) (every : EveryRun) (options : Options) where
  -- a bundle that the bytes spell, and that a command which runs it doesn't refuse, is accepted
  accepted_of : (bytes : List ℕ) (b : PlainBundle) → Spells bytes b → option_map MayNotRun (refusal b) ≡ None → IsAccepted b
  accepted_of bytes b spells none = record { formed = formed bytes b spells; no_refusal = unrefused MayNotRun (refusal b) none }

  step_printed : RunsAreSound → (bytes : List ℕ) (call : Call) (s : Status) (reply : Reply) → IsRead call.source bytes
      → MayReply (command.Step options) bytes reply → s ≡ status_of_end reply.end → Appends call.out.taken call.out_after.taken reply.text
      → (run : RunPrinted options call s) × (run.history ≡ step_history options run.bundle)
  step_printed sound bytes call s reply read h is wrote =
      let b = h.bundle in
      let H = step_history options b in
      let accepted : IsAccepted b = accepted_of bytes b h.spells h.accepted in
      let arrives = sound b [] (network_start b) options.seed options.steps accepted refl (omega arith) in (
        run_arrived options bytes call read b h.spells accepted H arrives.network (every b H arrives.network accepted arrives.runs) arrives.within arrives.finished s
            (is ∙ ap (λ (r : Reply). status_of_end r.end) h.replies) (subst (λ (r : Reply). Appends call.out.taken call.out_after.taken r.text) h.replies wrote),
        refl,
      )

  run_printed : (bytes : List ℕ) (call : Call) (s : Status) (reply : Reply) → IsRead call.source bytes
      → MayReply (command.Run options) bytes reply → s ≡ status_of_end reply.end → Appends call.out.taken call.out_after.taken reply.text
      → (run : RunPrinted options call s) × IsPrompt run.bundle run.history
  run_printed bytes call s reply read h is wrote =
      let b = h.bundle in
      let H = h.replies.0 in
      let made : IsThreadRun b options.steps H = h.replies.1 in
      let accepted : IsAccepted b = accepted_of bytes b h.spells h.accepted in (
        run_arrived options bytes call read b h.spells accepted H made.network (every b H made.network accepted made.runs) made.within made.finished s
            (is ∙ ap (λ (r : Reply). status_of_end r.end) h.replies.2) (subst (λ (r : Reply). Appends call.out.taken call.out_after.taken r.text) h.replies.2 wrote),
        made.prompt,
      )

  pub step_text : RunsAreSound → (call : Call) (s : Status) → Happens call s → call.asked ≡ Some (command.Step options) → has_printed s ≡ true
      → (run : RunPrinted options call s) × (run.history ≡ step_history options run.bundle)
  step_text sound call s h is prints =
      let its = reply_told call s prints (told call s (printing s prints) h) in
      let same : its.1.command ≡ command.Step options = some_same (sym its.1.asked ∙ is) in
      let read : CommandReads (command.Step options) (Replied its.0) its.1.bytes call.source call.source_after = reads_by call (Replied its.0) its.1 (command.Step options) is in
      step_printed sound its.1.bytes call s its.0 read.0 (subst (λ c. Comes c its.1.bytes (Replied its.0)) same its.1.comes) its.2 its.3.0

  pub run_text : (call : Call) (s : Status) → Happens call s → call.asked ≡ Some (command.Run options) → has_printed s ≡ true
      → (run : RunPrinted options call s) × IsPrompt run.bundle run.history
  run_text call s h is prints =
      let its = reply_told call s prints (told call s (printing s prints) h) in
      let same : its.1.command ≡ command.Run options = some_same (sym its.1.asked ∙ is) in
      let read : CommandReads (command.Run options) (Replied its.0) its.1.bytes call.source call.source_after = reads_by call (Replied its.0) its.1 (command.Run options) is in
      run_printed its.1.bytes call s its.0 read.0 (subst (λ c. Comes c its.1.bytes (Replied its.0)) same its.1.comes) its.2 its.3.0

pub headline : SpelledIsFormed → EveryRun → RunsAreSound → (call : Call) (s : Status) → Happens call s → HeadlineHolds call s
headline formed every sound call s h options found is runs prints = ⊎_elim
    (λ same. (run_text formed every options call s h (is ∙ ap Some same) prints).0)
    (λ same. (step_text formed every options sound call s h (is ∙ ap Some same) prints).0)
    runs

-- ---- the text of a command that says something of a bundle

-- what was printed is the text of an accepted bundle, where each reply of the command is that text
module _ (formed : SpelledIsFormed) (wanted : Command) (single : session_options wanted ≡ None) (text : unread_reply wanted ≡ None) (text_of : PlainBundle → List ℕ)
    (only : (b : PlainBundle) (reply : Reply) → Replies wanted b reply → reply ≡ record { end = end.Done; text = text_of b })
    (runs : (b : PlainBundle) → refusal_of wanted b ≡ option_map MayNotRun (refusal b)) where
  pub text_printed : (call : Call) (s : Status) → Happens call s → call.asked ≡ Some wanted → has_printed s ≡ true
      → TextPrinted text_of call s
  text_printed call s h is prints =
      let its = reply_told call s prints (told call s (printing s prints) h) in
      let same : its.1.command ≡ wanted = some_same (sym its.1.asked ∙ is) in
      let comes : MayReply wanted its.1.bytes its.0 = one_text wanted its.1.bytes (Replied its.0) single text (subst (λ c. Comes c its.1.bytes (Replied its.0)) same its.1.comes) in
      let b = comes.bundle in
      let replies = only b its.0 comes.replies in
      record {
        bytes = its.1.bytes;
        read = (text_read (unread_reply wanted) (Replied its.0) its.1.bytes call.source call.source_after text (reads_by call (Replied its.0) its.1 wanted is)).0;
        bundle = b;
        spells = comes.spells;
        accepted = record { formed = formed its.1.bytes b comes.spells; no_refusal = unrefused MayNotRun (refusal b) (sym (runs b) ∙ comes.accepted) };
        printed = subst (λ (r : Reply). Appends call.out.taken call.out_after.taken r.text) replies its.3.0;
        done = its.2 ∙ ap (λ (r : Reply). status_of_end r.end) replies;
      }

pub check_text : SpelledIsFormed → (call : Call) (s : Status) → Happens call s → CheckText call s
check_text formed call s h is prints = text_printed formed command.Check refl refl (λ b. line_of_text (check_line b)) (λ b reply e. e) (λ b. refl) call s h is prints

pub project_text : SpelledIsFormed → (call : Call) (s : Status) → Happens call s → ProjectText call s
project_text formed call s h is prints = text_printed formed command.Project refl refl project_lines (λ b reply e. e) (λ b. refl) call s h is prints

-- ---- the judgement of a trace

-- what was printed is the judgement of an accepted bundle's trace, where the command has this reply alone
module _ (formed : SpelledIsFormed) (wanted : Command) (single : session_options wanted ≡ None) (text : unread_reply wanted ≡ None) (judge : PlainBundle → Reply)
    (only : (b : PlainBundle) (reply : Reply) → Replies wanted b reply → reply ≡ judge b)
    (runs : (b : PlainBundle) → refusal_of wanted b ≡ None → refusal b ≡ None) where
  pub judged_text : (call : Call) (s : Status) → Happens call s → call.asked ≡ Some wanted → has_printed s ≡ true
      → (judged : JudgementPrinted judge call s) × (refusal_of wanted judged.bundle ≡ None)
  judged_text call s h is prints =
      let its = reply_told call s prints (told call s (printing s prints) h) in
      let same : its.1.command ≡ wanted = some_same (sym its.1.asked ∙ is) in
      let comes : MayReply wanted its.1.bytes its.0 = one_text wanted its.1.bytes (Replied its.0) single text (subst (λ c. Comes c its.1.bytes (Replied its.0)) same its.1.comes) in
      let b = comes.bundle in
      let replies : its.0 ≡ judge b = only b its.0 comes.replies in (
        record {
          bytes = its.1.bytes;
          read = (text_read (unread_reply wanted) (Replied its.0) its.1.bytes call.source call.source_after text (reads_by call (Replied its.0) its.1 wanted is)).0;
          bundle = b;
          spells = comes.spells;
          accepted = record { formed = formed its.1.bytes b comes.spells; no_refusal = runs b comes.accepted };
          printed = subst (λ (r : Reply). Appends call.out.taken call.out_after.taken r.text) replies its.3.0;
          told = its.2 ∙ ap (λ (r : Reply). status_of_end r.end) replies;
        },
        comes.accepted,
      )

pub replay_text : SpelledIsFormed → (call : Call) (s : Status) → Happens call s → ReplayText call s
replay_text formed call s h is prints =
    (judged_text formed command.Replay refl refl replay_reply (λ b reply e. e) (λ b. unrefused MayNotRun (refusal b)) call s h is prints).0

-- ---- the judgement of one role

first_none : (first : Option Refusal) (rest : List (Option Refusal)) → first_refusal (first ∷ rest) ≡ None → (first ≡ None) × (first_refusal rest ≡ None)
first_none None rest h = (refl, h)
first_none (Some why) rest h = absurd (none_some (sym h))

-- a bundle that isn't refused may run, and has the role in its cast
monitor_free : (role : Role) (b : PlainBundle) → refusal_of (command.Monitor role) b ≡ None → (refusal b ≡ None) × (unknown_role place.Program b.cast (role ∷ []) ≡ None)
monitor_free role b h =
    let unknown = unknown_role place.Program b.cast (role ∷ []) in
    let first = first_none (refusal b) (unknown ∷ []) (unrefused MayNotRun (monitor_refusal role b) h) in
    (first.0, (first_none unknown [] first.1).0)

-- a role that isn't unknown is in the cast
in_cast : (cast : List Role) (role : Role) → unknown_role place.Program cast (role ∷ []) ≡ None → member role cast ≡ true
in_cast cast role h = by_test (member role cast) refl
  where
    by_test : (t : Bool) → member role cast ≡ t → member role cast ≡ true
    by_test true e = e
    by_test false e = let why : unknown_role place.Program cast (role ∷ []) ≡ Some (UnknownRole place.Program role) = rw e refl in absurd (none_some (sym h ∙ why))

pub monitor_text : SpelledIsFormed → (call : Call) (s : Status) → Happens call s → MonitorText call s
monitor_text formed call s h role is prints =
    let its : (judged : JudgementPrinted (monitor_reply role) call s) × (refusal_of (command.Monitor role) judged.bundle ≡ None) =
    judged_text formed (command.Monitor role) refl refl (monitor_reply role) (λ b reply e. e) (λ b none. (monitor_free role b none).0) call s h is prints in
    let b = its.0.bundle in
    (its.0, in_cast b.cast role (monitor_free role b its.1).1)

-- ---- a driven trace

pub drive_judged : SpelledIsFormed → (options : Options) (call : Call) (s : Status) → Happens call s → call.asked ≡ Some (command.Drive options)
    → has_printed s ≡ true → JudgementPrinted (drive_reply options) call s
drive_judged formed options call s h is prints =
    (judged_text formed (command.Drive options) refl refl (drive_reply options) (λ b reply e. e) (λ b. unrefused MayNotRun (refusal b)) call s h is prints).0

-- ---- a resumed run

module _ (resumed : ResumedRuns) (strays : RunStraysAreExact) (options : Options) where
  -- where no entry strays, what was printed is a run with its headline
  run_resumed : (call : Call) (s : Status) (judged : JudgementPrinted (resume_reply options) call s)
      → resume_stray options judged.bundle ≡ None → (run : RunPrinted options call s) × (run.history ≡ resume_history options run.bundle)
  run_resumed call s judged none =
      let b = judged.bundle in
      let H = resume_history options b in
      let arrives = resumed b b.trace.entries options.seed options.steps judged.accepted ((strays.none b (take options.steps b.trace.entries)).0 none) in
      let reply : resume_reply options b ≡ run_reply options b H = ap (resumed_or_no options b) none in (
        run_arrived options judged.bytes call judged.read b judged.spells judged.accepted H arrives.network arrives.headline arrives.within arrives.finished s
            (judged.told ∙ ap (λ (r : Reply). status_of_end r.end) reply) (subst (λ (r : Reply). Appends call.out.taken call.out_after.taken r.text) reply judged.printed),
        refl,
      )

  by_stray : (call : Call) (s : Status) (judged : JudgementPrinted (resume_reply options) call s)
      (o : Option ℕ) → resume_stray options judged.bundle ≡ o → ResumePrinted options call s
  by_stray call s judged None is = inl (run_resumed call s judged is)
  by_stray call s judged (Some n) is = inr (judged, n, is)

pub resume_text : ResumedRuns → RunStraysAreExact → SpelledIsFormed → (options : Options) (call : Call) (s : Status) → Happens call s
    → call.asked ≡ Some (command.Resume options) → has_printed s ≡ true → ResumePrinted options call s
resume_text resumed strays formed options call s h is prints =
    let judged : JudgementPrinted (resume_reply options) call s =
    (judged_text formed (command.Resume options) refl refl (resume_reply options) (λ b reply e. e) (λ b. unrefused MayNotRun (refusal b)) call s h is prints).0 in
    by_stray resumed strays options call s judged (resume_stray options judged.bundle) refl

-- ---- the bundle in its second version

second_is_formed : (b : PlainBundle) → IsFormed b → IsFormed (with_version 2 b)
second_is_formed b is = record {
  version = inr refl;
  cast = is.cast;
  choreo = is.choreo;
  rules = is.rules;
  opening = is.opening;
  added = is.added;
  env = is.env;
  inputs = is.inputs;
  script = is.script;
  trace = is.trace;
  last = is.last;
}

module _ (written : WrittenIsSpelled) (runs : RunsReadNoVersion) (schedules : SchedulesReadNoVersion) where
  upgraded_so : (b : PlainBundle) → IsAccepted b → IsUpgraded b
  upgraded_so b is = record {
    accepted = record { formed = second_is_formed b is.formed; no_refusal = schedules.refusals b 2 ∙ is.no_refusal };
    spelled = written (with_version 2 b) (second_is_formed b is.formed);
    refusals = schedules.refusals b 2;
    plays = runs.plays b 2;
    runs = runs.runs b 2;
    schedules = schedules.schedules b 2;
  }

  pub upgrade_text : SpelledIsFormed → (call : Call) (s : Status) → Happens call s → UpgradeText call s
  upgrade_text formed call s h is prints =
      let text : TextPrinted upgraded call s = text_printed formed command.Upgrade refl refl upgraded (λ b reply e. e) (λ b. refl) call s h is prints in
      (text, upgraded_so text.bundle text.accepted)

-- ---- the mended bundle

pub mend_text : WrittenIsSpelled → MendedAccepted → SpelledIsFormed → (call : Call) (s : Status) → Happens call s → MendText call s
mend_text written mends formed call s h is prints =
    let its = reply_told call s prints (told call s (printing s prints) h) in
    let same : its.1.command ≡ command.Mend = some_same (sym its.1.asked ∙ is) in
    let comes : MayReply command.Mend its.1.bytes its.0 = subst (λ c. Comes c its.1.bytes (Replied its.0)) same its.1.comes in
    let read : CommandReads command.Mend (Replied its.0) its.1.bytes call.source call.source_after = reads_by call (Replied its.0) its.1 command.Mend is in
    let b = comes.bundle in
    let free : mend_refusal b ≡ None = unrefused CannotBeMended (mend_refusal b) comes.accepted in
    let accepted : IsAccepted (mended_bundle b) = mends b (formed its.1.bytes b comes.spells) free in
    record {
      bytes = its.1.bytes;
      read = read.0;
      bundle = b;
      spells = comes.spells;
      free = free;
      printed = subst (λ (r : Reply). Appends call.out.taken call.out_after.taken r.text) comes.replies its.3.0;
      accepted = accepted;
      spelled = written (mended_bundle b) accepted.formed;
      done = its.2 ∙ ap (λ (r : Reply). status_of_end r.end) comes.replies;
    }

-- ---- the line of a made bundle

module _ (accepted : MadeAreAccepted) (every : EveryRun) (sound : RunsAreSound) (number size : ℕ) where
  gen_printed : IsAccepted (made number size) → (call : Call) (s : Status) → s ≡ status_of_end (gen_reply number size).end
      → Appends call.out.taken call.out_after.taken (gen_reply number size).text → GenPrinted number size call s
  gen_printed may call s is wrote =
      let b = made number size in
      let H = gen_history number size in
      let arrives = sound b [] (network_start b) None (usual_steps Gen) may refl (omega arith) in
      let N = arrives.network in
      let finished : is_finished b H ≡ network_ended b.cast N = end_is b H N arrives.runs in
      let updates : updates_of b H ≡ N.updates = ap (λ o. option_map_or (λ (M : Network). M.updates) o 0) arrives.runs in
      let status_is : s ≡ status_of_end (if network_ended b.cast N then end.Done else end.Limit) =
      is ∙ ap (λ t. status_of_end (if t then end.Done else end.Limit)) finished in
      record {
        accepted = may;
        network = N;
        headline = every b H N may arrives.runs;
        printed = subst (λ u. Appends call.out.taken call.out_after.taken (line_of_text (gen_line number size b H u))) updates wrote;
        done = subst (λ t. (t ≡ status.Done) ↔ (network_ended b.cast N ≡ true)) (sym status_is) (ends_done (network_ended b.cast N));
        limit = subst (λ t. (t ≡ status.Limit) ↔ ((length H ≡ usual_steps Gen) × (network_ended b.cast N ≡ false))) (sym status_is)
            (ends_limit (network_ended b.cast N) arrives.finished);
      }

  pub gen_text : (call : Call) (s : Status) → ((found : Command) → call.asked ≡ Some found → IsShort found) → Happens call s → call.asked ≡ Some (command.Gen number size)
      → has_printed s ≡ true → GenPrinted number size call s
  gen_text call s short h is prints =
      let its = reply_told call s prints (told call s (printing s prints) h) in
      let same : its.1.command ≡ command.Gen number size = some_same (sym its.1.asked ∙ is) in
      let comes : Replied its.0 ≡ Replied (gen_reply number size) = subst (λ c. Comes c its.1.bytes (Replied its.0)) same its.1.comes in
      let reply : its.0 ≡ gen_reply number size = ap (reply_in its.0) comes in
      let small = short (command.Gen number size) is in
      gen_printed (accepted number size small.0 small.1) call s (its.2 ∙ ap (λ (r : Reply). status_of_end r.end) reply)
      (subst (λ (r : Reply). Appends call.out.taken call.out_after.taken r.text) reply its.3.0)

-- ---- the text of sessions

module _ (every : EveryRun) (sound : RunsAreSound) (options : Options) where
  -- the headline of each run that is printed
  headlines : (bundles : List PlainBundle) → All IsFormed bundles → All (λ b. refusal b ≡ None → (N : Network) × Headline b (step_history options b) N) bundles
  headlines bundles formed = All-weaker IsFormed (λ b. refusal b ≡ None → (N : Network) × Headline b (step_history options b) N) (λ b is none.
      let accepted : IsAccepted b = record { formed = is; no_refusal = none } in
      let arrives = sound b [] (network_start b) options.seed options.steps accepted refl (omega arith) in
      (arrives.network, every b (step_history options b) arrives.network accepted arrives.runs)) bundles formed

  sessions_printed : (bytes : List ℕ) (call : Call) (s : Status) (reply : Reply) → IsRead call.source bytes → RepliesToSessions options bytes reply
      → s ≡ status_of_end reply.end → Appends call.out.taken call.out_after.taken reply.text → SessionsPrinted options call s
  sessions_printed bytes call s reply read h is wrote = record {
    bytes = bytes;
    read = read;
    bundles = h.bundles;
    spells = h.spells;
    printed = subst (λ (r : Reply). Appends call.out.taken call.out_after.taken r.text) h.replies wrote;
    done = is ∙ ap (λ (r : Reply). status_of_end r.end) h.replies;
    headlines = headlines h.bundles h.formed;
  }

-- how a call of `sessions` doesn't end
never_told : (options : Options) (bytes : List ℕ) (v : Verdict) → ComesOfSessions options bytes v → never_of_sessions (status_of v) ≡ false
never_told options bytes TooLong comes = refl
never_told options bytes (Unspelled byte) comes = refl
never_told options bytes (Refused why) comes = absurd comes
never_told options bytes (Replied reply) comes = ap (λ (r : Reply). never_of_sessions (status_of_end r.end)) comes.replies

never_given_up : (s : Status) → GivesUp s → never_of_sessions s ≡ false
never_given_up status.Memory h = refl
never_given_up status.ReadFault h = refl
never_given_up status.WriteFault h = refl
never_given_up status.Usage h = absurd h
never_given_up status.Done h = absurd h
never_given_up status.Limit h = absurd h
never_given_up status.No h = absurd h
never_given_up status.TooLong h = absurd h
never_given_up status.Syntax h = absurd h
never_given_up status.Refused h = absurd h

pub sessions_text : EveryRun → RunsAreSound → (call : Call) (s : Status) → Happens call s → SessionsText call s
sessions_text every sound call s h options is = (
  ⊎_elim (never_given_up s)
      (λ (its : Told call s).
      ap never_of_sessions its.2
      ∙ never_told options its.1.bytes its.0 (subst (λ c. Comes c its.1.bytes its.0) (some_same (sym its.1.asked ∙ is)) its.1.comes))
      (because call s (command.Sessions options) is h),
  λ prints.
      let its = reply_told call s prints (told call s (printing s prints) h) in
      let same : its.1.command ≡ command.Sessions options = some_same (sym its.1.asked ∙ is) in
      let comes : RepliesToSessions options its.1.bytes its.0 = subst (λ c. Comes c its.1.bytes (Replied its.0)) same its.1.comes in
      let read : CommandReads (command.Sessions options) (Replied its.0) its.1.bytes call.source call.source_after = reads_by call (Replied its.0) its.1 (command.Sessions options) is in
      sessions_printed every sound options its.1.bytes call s its.0 read.0 comes its.2 its.3.0,
)
