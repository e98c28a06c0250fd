-- What each command may answer to a bundle that it takes: how it ends, and its text.
use Rattle.std.specs.Prelude.{◌≡◌, ◌⊎◌, ◌≤◌, ℕ, zero, suc, List, ◌∷◌, [], ◌++◌, length, take, Bool, true, false, Option, Some, None, if◌then◌else◌, codes, decimal, flat_map, nat_lt, option_map, unwrap_or, Ok, Err}
use Rattle.std.specs.Option.{option_map_or}
use Rattle.dioc_terms.specs.declared.names.Role.{Role}
use Rattle.dioc_terms.specs.declared.entries.Entry.{Entry}
use Rattle.dioc_terms.specs.declared.bundles.Last.{Last}
use Rattle.dioc_terms.specs.declared.bundles.Last.TheVariants as last
use Rattle.dioc_terms.specs.Messages.{is_aux, visible}
use Rattle.dioc_terms.specs.Plain.{PlainBundle}
use Rattle.dioc_terms.specs.Terms.{Term, nodes}
use Rattle.projection.specs.Projection.{projected}
use Rattle.global_steps.specs.Follow.{State, play, stray}
use Rattle.global_steps.specs.Running as running
use Rattle.network_steps.specs.Network.{Network, network_run, network_ended}
use Rattle.marked_laws.specs.Versions.{with_version}
use Rattle.bundle_text.specs.Writing.{bundle_text}
use Rattle.session_pool.specs.Answers.{PlainAnswer, answers_of}
use Rattle.trace_text.specs.Lines.{line_end}
use Rattle.trace_text.specs.Process.{process_text}
use Rattle.trace_text.specs.Runs.{run_text}
use Rattle.network_steps.specs.Schedule.{sched, IsPrompt}
use Rattle.net_drive.specs.Driven.{driven}
use Rattle.net_drive.specs.Strays.{drive_stray}
use Rattle.net_drive.specs.Resumed.{resumed_history, run_stray}
use Rattle.role_monitor.specs.Monitoring.{deviates, own_entries}
use Rattle.rule_checks.specs.Refusals.{first_refusal, refusal, unknown_role}
use Rattle.rule_checks.specs.declared.refusals.Refusal.{Refusal}
use Rattle.rule_checks.specs.declared.refusals.Where.TheVariants as place
use Rattle.mend.specs.Traces.{mended_bundle}
use Rattle.mend.specs.Refusals.{mend_refusal}
use Rattle.command_words.specs.Commands.{usual_steps}
use Rattle.command_words.specs.declared.commands.Options.{Options}
use Rattle.command_words.specs.declared.commands.Verb.TheVariants.{Gen}
use Rattle.load_gen.specs.Made.{made}
use Rattle.command_words.specs.declared.commands.Command.{Command}
use Rattle.command_words.specs.declared.commands.Command.TheVariants as command
use Rattle.aioc_top.specs.declared.replies.End.{End}
use Rattle.aioc_top.specs.declared.replies.End.TheVariants as end
use Rattle.aioc_top.specs.declared.replies.Written.{Written}
use Rattle.aioc_top.specs.Judging.{is_cut_short}
use Rattle.aioc_top.specs.Messages.{refusal_line}
use Rattle.aioc_top.specs.Reasons.{Reason, MayNotRun, CannotBeMended}

-- how a command ends when it has written its text, and that text
pub record Reply : Type 0 where
  pub end : End
  pub text : List ℕ

abbrev pub reply_of : Written → Reply
reply_of written = record { end = written.end; text = written.text.items }

-- ---- runs

-- whether the history is a run of the bundle's network after which it has ended
abbrev pub is_finished : PlainBundle → List Entry → Bool
is_finished b H = option_map_or (network_ended b.cast) (network_run b H) false

-- the last line counts all entries
abbrev pub last_of : Bool → ℕ → Last
last_of finished n = if finished then last.Ended n else last.Stopped n

-- the reply that prints a history, where it is known whether the network has ended
abbrev pub ended_reply : Options → List Entry → Bool → Reply
ended_reply options H ended = record {
  end = if ended then end.Done else end.Limit;
  text = run_text options.aux options.json H (last_of ended (length H));
}

-- the reply that prints a history
abbrev pub run_reply : Options → PlainBundle → List Entry → Reply
run_reply options b H = ended_reply options H (is_finished b H)

-- the history of `step`: the run that the schedule takes
abbrev pub step_history : Options → PlainBundle → List Entry
step_history options b = sched b options.seed options.steps

-- a history of the threads: a prompt run with at most so many entries, and fewer only where the
-- network has ended
pub record IsThreadRun (b : PlainBundle) (limit : ℕ) (H : List Entry) : Type 0 where
  pub network : Network
  pub runs : network_run b H ≡ Some network
  pub prompt : IsPrompt b H
  pub within : length H ≤ limit
  pub finished : (network_ended b.cast network ≡ true) ⊎ (length H ≡ limit)

-- ---- one line

abbrev pub line_of_text : List ℕ → List ℕ
line_of_text bytes = bytes ++ line_end ∷ []

abbrev pub done_reply : List ℕ → Reply
done_reply bytes = record { end = end.Done; text = line_of_text bytes }

abbrev pub check_line : PlainBundle → List ℕ
check_line b =
    codes "accepted: roles " ++ decimal (length b.cast)
    ++ codes ", nodes " ++ decimal (nodes b.choreo)
    ++ codes ", rules " ++ decimal (length b.rules)
    ++ codes ", changes " ++ decimal (length b.script)

abbrev pub yes : ℕ → Reply
yes n = done_reply (codes "yes " ++ decimal n)

abbrev pub no : ℕ → Reply
no n = record { end = end.No; text = line_of_text (codes "no " ++ decimal n) }

-- whether the choreography has ended when it has played the entries
abbrev pub is_over : PlainBundle → List Entry → Bool
is_over b trace = option_map_or (λ (S : State). running.ended S.running) (play b trace) false

-- a trace that says `ended` is one entry too short where the choreography hasn't ended
abbrev pub is_too_short : PlainBundle → Option Last → List Entry → Bool
is_too_short b (Some (last.Ended n)) trace = if is_over b trace then false else true
is_too_short b _ trace = false

-- The judgement of the trace section, from the number of the first entry that isn't played: that
-- number, one past the last where the section says `ended` too soon, and else how many entries were
-- judged.
abbrev pub judgement : PlainBundle → Option ℕ → Reply
judgement b (Some n) = no n
judgement b None = if is_too_short b b.trace.last (visible b.trace.entries)
    then no (suc (length b.trace.entries)) else yes (length (visible b.trace.entries))

-- auxiliary entries are passed over, and have numbers all the same
abbrev pub replay_reply : PlainBundle → Reply
replay_reply b = judgement b (stray b b.trace.entries)

-- ---- one role judged

-- The judgement of one role by the trace section, from the number of the first entry in which it
-- deviates: that number, and else how many entries are the role's own.
abbrev pub role_judgement : Role → PlainBundle → Option ℕ → Reply
role_judgement role b (Some n) = no n
role_judgement role b None = yes (length (own_entries role b.trace.entries))

-- each entry of the section has a number, and its last line isn't judged
abbrev pub monitor_reply : Role → PlainBundle → Reply
monitor_reply role b = role_judgement role b (deviates b role b.trace.entries)

-- ---- resumed runs

-- the history of `resume`: the entries of the trace section, continued by the schedule; or the
-- first of them, where they are more than a run may have
abbrev pub resume_history : Options → PlainBundle → List Entry
resume_history options b = resumed_history b b.trace.entries options.seed options.steps

-- the number of the first entry that the network can't do, of as many as a run may have
abbrev pub resume_stray : Options → PlainBundle → Option ℕ
resume_stray options b = run_stray b (take options.steps b.trace.entries)

abbrev pub resumed_or_no : Options → PlainBundle → Option ℕ → Reply
resumed_or_no options b (Some n) = no n
resumed_or_no options b None = run_reply options b (resume_history options b)

-- the run that goes on from the entries of the trace section, whose last line isn't judged; `no`
-- with the number of the first entry that the network can't do
abbrev pub resume_reply : Options → PlainBundle → Reply
resume_reply options b = resumed_or_no options b (resume_stray options b)

-- ---- driven traces

-- the number in the section of its visible entry of that number, both counted from 1
abbrev pub section_number : List Entry → ℕ → ℕ
section_number [] n = 0
section_number (e ∷ es) zero = 0
section_number (e ∷ es) (suc n) =
    suc (if is_aux e then section_number es (suc n) else section_number es n)

-- the number, among the visible entries of the trace section, of the first that can't come
abbrev pub trace_stray : PlainBundle → Option ℕ
trace_stray b = drive_stray b (visible b.trace.entries)

-- the history of `drive`: the driven one of the visible entries of the trace section
abbrev pub drive_history : PlainBundle → List Entry
drive_history b = unwrap_or (driven b (visible b.trace.entries)) []

-- the reply that prints it, auxiliary entries included; `no` with one past the last entry where the
-- section says `ended` and the network has not ended
abbrev pub driven_reply : PlainBundle → List Entry → Reply
driven_reply b H =
    if is_cut_short b.trace.last (is_finished b H) then no (suc (length b.trace.entries)) else
    record {
      end = end.Done;
      text = run_text true false H (last_of (is_finished b H) (length H));
    }

abbrev pub driven_or_no : PlainBundle → Option ℕ → Reply
driven_or_no b (Some n) = no (section_number b.trace.entries n)
driven_or_no b None = driven_reply b (drive_history b)

-- whether the section has more visible entries than are allowed
abbrev pub is_too_long : Options → PlainBundle → Bool
is_too_long options b = nat_lt options.steps (length (visible b.trace.entries))

-- Nothing where the section has more visible entries than are allowed; else `no` with the number of
-- the first that can't come, or the driven history. Auxiliary entries of the section are passed
-- over, and have numbers all the same.
abbrev pub drive_reply : Options → PlainBundle → Reply
drive_reply options b =
    if is_too_long options b then record { end = end.Limit; text = [] }
    else driven_or_no b (trace_stray b)

-- ---- made bundles

-- the line of `gen`, for the made bundle and its run: the follower never refuses, so the words at
-- its end are always true
abbrev pub gen_line : ℕ → ℕ → PlainBundle → List Entry → ℕ → List ℕ
gen_line number size b H updates = codes "gen " ++ decimal number ++ codes " " ++ decimal size
    ++ codes ": roles " ++ decimal (length b.cast) ++ codes ", nodes " ++ decimal (nodes b.choreo)
    ++ codes ", entries " ++ decimal (length H) ++ codes ", visible "
    ++ decimal (length (visible H))
    ++ codes ", updates " ++ decimal updates ++ codes ", played yes"

-- how many updates a run has made
abbrev pub updates_of : PlainBundle → List Entry → ℕ
updates_of b H = option_map_or (λ (N : Network). N.updates) (network_run b H) 0

-- the history of `gen`: the run that the schedule takes from the start of the made bundle, with as
-- many entries at most as where no other number is asked for
abbrev pub gen_history : ℕ → ℕ → List Entry
gen_history number size = sched (made number size) None (usual_steps Gen)

-- the reply of `gen`: the line of the made bundle and of its run
abbrev pub gen_reply : ℕ → ℕ → Reply
gen_reply number size =
    let b = made number size in
    let H = gen_history number size in
    record {
      end = if is_finished b H then end.Done else end.Limit;
      text = line_of_text (gen_line number size b H (updates_of b H));
    }

-- the reply of a command that reads nothing
abbrev pub unread_reply : Command → Option Reply
unread_reply (command.Gen number size) = Some (gen_reply number size)
unread_reply _ = None

-- ---- sessions

-- what a session is answered: the visible entries of its run and their last line, or why its bundle
-- is refused
abbrev pub answer_text : PlainAnswer → List ℕ
answer_text (Ok (history, ended)) = run_text false false history (last_of ended (length history))
answer_text (Err why) = refusal_line (MayNotRun why)

-- a line with the number of the session, and what it is answered
abbrev pub session_text : ℕ → PlainAnswer → List ℕ
session_text k answer = line_of_text (codes "session " ++ decimal k) ++ answer_text answer

-- the sessions in their order, where the first of these has number k
abbrev pub sessions_from : ℕ → List PlainAnswer → List ℕ
sessions_from k [] = []
sessions_from k (answer ∷ answers) = session_text k answer ++ sessions_from (suc k) answers

-- the reply of `sessions`: a single session that is refused or stopped changes nothing of its end
abbrev pub sessions_reply : Options → List PlainBundle → Reply
sessions_reply options bundles = record {
  end = end.Done;
  text = sessions_from 0 (answers_of options.seed options.steps bundles);
}

-- the options of a command that reads sessions; each other one that reads reads one bundle
abbrev pub session_options : Command → Option Options
session_options (command.Sessions options) = Some options
session_options _ = None

-- ---- a line for each role

abbrev pub role_line : List Role → Term → Role → List ℕ
role_line cast I r = line_of_text (r.0 ++ codes " = " ++ process_text (projected cast I r))

-- the process of each role of the cast, in its order
abbrev pub project_text : PlainBundle → List ℕ
project_text b = flat_map (role_line b.cast b.choreo) b.cast

-- ---- the bundle itself

-- the bundle as it is written with version 2
abbrev pub upgrade_text : PlainBundle → List ℕ
upgrade_text b = bundle_text (with_version 2 b)

-- the bundle as it is written when it has been mended
abbrev pub mend_text : PlainBundle → List ℕ
mend_text b = bundle_text (mended_bundle b)

-- ---- all commands

-- the first refusal where one role is to be judged: last that of a role which isn't in the cast
abbrev pub monitor_refusal : Role → PlainBundle → Option Refusal
monitor_refusal role b =
    first_refusal (refusal b ∷ unknown_role place.Program b.cast (role ∷ []) ∷ [])

-- the first reason for which a command refuses a bundle
abbrev pub refusal_of : Command → PlainBundle → Option Reason
refusal_of command.Mend b = option_map CannotBeMended (mend_refusal b)
refusal_of (command.Monitor role) b = option_map MayNotRun (monitor_refusal role b)
refusal_of _ b = option_map MayNotRun (refusal b)

-- What a command may answer to a bundle that it doesn't refuse. A command without a row isn't
-- defined yet.
abbrev pub Replies : Command → PlainBundle → Reply → Type 0
Replies (command.Step options) b reply = reply ≡ run_reply options b (step_history options b)
Replies (command.Run options) b reply =
    (H : List Entry) × IsThreadRun b options.steps H × (reply ≡ run_reply options b H)
Replies command.Check b reply = reply ≡ done_reply (check_line b)
Replies command.Project b reply = reply ≡ record { end = end.Done; text = project_text b }
Replies command.Replay b reply = reply ≡ replay_reply b
Replies (command.Drive options) b reply = reply ≡ drive_reply options b
Replies (command.Resume options) b reply = reply ≡ resume_reply options b
Replies (command.Monitor role) b reply = reply ≡ monitor_reply role b
Replies command.Upgrade b reply = reply ≡ record { end = end.Done; text = upgrade_text b }
Replies command.Mend b reply = reply ≡ record { end = end.Done; text = mend_text b }
Replies _ b reply = ⊥
