-- Worked rows: what each command that has a definition replies to a small bundle.
use Rattle.std.proofs.Common.{◌≡◌, ℕ, List, [], ◌∷◌, ◌++◌, Bool, true, false, Option, Some, None, refl}
use Rattle.std.specs.Fmt.{digits}
use Rattle.std.specs.Prelude.{codes}
use Rattle.dioc_terms.specs.declared.names.Role.{Role}
use Rattle.dioc_terms.specs.declared.entries.Entry.{Entry}
use Rattle.dioc_terms.specs.declared.bundles.Last.{Last}
use Rattle.dioc_terms.specs.declared.bundles.Last.TheVariants as last
use Rattle.dioc_terms.specs.declared.processes.Tag.TheVariants.{Op}
use Rattle.dioc_terms.specs.Plain.{PlainBundle}
use Rattle.net_laws.proofs.Examples.{program, hello, hello_run, put, at, val}
use Rattle.rule_checks.specs.declared.refusals.Refusal.TheVariants.{UnknownRole}
use Rattle.rule_checks.specs.declared.refusals.Where.TheVariants as place
use Rattle.command_words.specs.declared.commands.Options.{Options}
use Rattle.aioc_top.specs.declared.replies.End.TheVariants as end
use Rattle.aioc_top.specs.Replies.{Reply, run_reply, step_history, check_line, project_text, monitor_refusal, monitor_reply, replay_reply, gen_line, line_of_text}

-- `aioc { hi: a(1) -> b(x) }`
abbrev greeting : PlainBundle
greeting = program hello

-- the same with a trace to be judged
abbrev judged : List Entry → Option Last → PlainBundle
judged entries said = record greeting { trace = record { entries = entries; last = said } }

-- at most so many entries, printed as lines or as JSON
abbrev options : ℕ → Bool → Options
options steps json = record { seed = None; steps = steps; workers = 4; aux = false; json = json }

abbrev steps : ℕ → Bool → Reply
steps n json = run_reply (options n json) greeting (step_history (options n json) greeting)

abbrev lines_of : List (List ℕ) → List ℕ
lines_of [] = []
lines_of (l ∷ ls) = line_of_text l ++ lines_of ls

step-ends : steps 2 false ≡ record {
  end = end.Done;
  text = lines_of (codes "put a -> b hi#0.0 = 1" ∷ codes "take a -> b hi#0.0 x" ∷ codes "ended 2" ∷ []);
}
unfolding digits
step-ends = refl

step-stops : steps 1 false ≡ record {
  end = end.Limit;
  text = lines_of (codes "put a -> b hi#0.0 = 1" ∷ codes "stopped 1" ∷ []);
}
unfolding digits
step-stops = refl

step-json : steps 2 true ≡ record {
  end = end.Done;
  text = lines_of (codes "{\"from\":\"a\",\"index\":\"0.0\",\"kind\":\"put\",\"name\":\"hi\",\"to\":\"b\",\"value\":1}"
      ∷ codes "{\"from\":\"a\",\"index\":\"0.0\",\"kind\":\"take\",\"name\":\"hi\",\"to\":\"b\",\"var\":\"x\"}"
      ∷ codes "{\"entries\":2,\"kind\":\"ended\"}" ∷ []);
}
unfolding digits
step-json = refl

check-accepts : check_line greeting ≡ codes "accepted: roles 2, nodes 1, rules 0, changes 0"
unfolding digits
check-accepts = refl

project-shows : project_text greeting ≡ lines_of (codes "a = hi#0.0(1) to b" ∷ codes "b = hi#0.0(x) from a" ∷ [])
unfolding digits
project-shows = refl

-- a whole trace, one entry too few where the section says that it has ended, one that isn't played, and none at all
replay-yes : replay_reply (judged hello_run (Some (last.Ended 2))) ≡ record { end = end.Done; text = line_of_text (codes "yes 2") }
unfolding digits
replay-yes = refl

replay-short : replay_reply (judged (put (codes "a") (codes "b") (Op (codes "hi")) (at 0 0) (val 1) ∷ []) (Some (last.Ended 1)))
    ≡ record { end = end.No; text = line_of_text (codes "no 2") }
unfolding digits
replay-short = refl

replay-stopped : replay_reply (judged (put (codes "a") (codes "b") (Op (codes "hi")) (at 0 0) (val 1) ∷ []) (Some (last.Stopped 7)))
    ≡ record { end = end.Done; text = line_of_text (codes "yes 1") }
unfolding digits
replay-stopped = refl

replay-no : replay_reply (judged (put (codes "a") (codes "b") (Op (codes "hi")) (at 0 0) (val 2) ∷ []) None)
    ≡ record { end = end.No; text = line_of_text (codes "no 1") }
unfolding digits
replay-no = refl

replay-nothing : replay_reply greeting ≡ record { end = end.Done; text = line_of_text (codes "yes 0") }
unfolding digits
replay-nothing = refl

-- one role judged: the taker's own entry, a put that the sender can't have made, and a role that isn't there
abbrev called : List ℕ → Role
called name = record { 0 = name }

monitor-yes : monitor_reply (called (codes "b")) (judged hello_run (Some (last.Ended 7))) ≡ record { end = end.Done; text = line_of_text (codes "yes 1") }
unfolding digits
monitor-yes = refl

monitor-no : monitor_reply (called (codes "a")) (judged (put (codes "a") (codes "b") (Op (codes "hi")) (at 0 0) (val 2) ∷ []) None)
    ≡ record { end = end.No; text = line_of_text (codes "no 1") }
unfolding digits
monitor-no = refl

monitor-believes : monitor_reply (called (codes "b")) (judged (put (codes "a") (codes "b") (Op (codes "hi")) (at 0 0) (val 2) ∷ []) None)
    ≡ record { end = end.Done; text = line_of_text (codes "yes 0") }
unfolding digits
monitor-believes = refl

monitor-unknown : monitor_refusal (called (codes "z")) greeting ≡ Some (UnknownRole place.Program (called (codes "z")))
monitor-unknown = refl

monitor-known : monitor_refusal (called (codes "b")) greeting ≡ None
monitor-known = refl

gen-line : gen_line 1 3 greeting hello_run 0 ≡ codes "gen 1 3: roles 2, nodes 1, entries 2, visible 2, updates 0, played yes"
unfolding digits
gen-line = refl
