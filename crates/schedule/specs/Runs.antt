-- How a run by a schedule has finished, and what it leaves where it is broken off.
use Rattle.std.specs.Prelude.{◌≡◌, ◌-◌, ℕ, List, ◌++◌, length, nat_le, Option, Some, None, if◌then◌else◌}
use Rattle.dioc_terms.specs.declared.entries.Entry.{Entry}
use Rattle.dioc_terms.specs.Plain.{PlainBundle, setting}
use Rattle.network_steps.specs.Schedule.{IsPrompt, continued, sched_from}
use Rattle.net_core.specs.Nets.{IsSoundRun, NetState, network_of}
use Rattle.schedule.specs.declared.runs.Finish.{Finish}
use Rattle.schedule.specs.declared.runs.Finish.TheVariants.{Ended, Limit}
use Rattle.schedule.specs.Turns.{has_ended}

-- how a run has finished where the net stands, none where it goes on
abbrev pub finish_at : NetState → Option Finish
finish_at net =
    if has_ended net then Some Ended else if nat_le net.limit (length net.history) then Some Limit
    else None

-- a history is an old one with entries more, and a front of what the schedule makes of that
pub record IsOnTheWay (b : PlainBundle) (old : List Entry) (seed : Option ℕ) (limit : ℕ)
    (new : List Entry) : Type 0 where
  pub made : List Entry
  pub left : List Entry
  pub history : new ≡ old ++ made
  pub schedule : sched_from b old seed limit ≡ new ++ left

-- what the schedule takes from the net on
abbrev pub run_of : NetState → Option ℕ → List Entry
run_of net seed =
    continued (setting net.bundle) seed (net.limit - length net.history) (network_of net)

-- the entries made so far with the rest of the run make the run
pub record Goes (old : NetState) (seed : Option ℕ) (new : NetState) (next : Option ℕ) : Type 0 where
  pub made : List Entry
  pub run : run_of old seed ≡ made ++ run_of new next
  pub history : new.history ≡ old.history ++ made
  pub bundle : new.bundle ≡ old.bundle
  pub limit : new.limit ≡ old.limit
  pub seedless : seed ≡ None → next ≡ None
  pub prompt : seed ≡ None → IsPrompt old.bundle old.history → IsPrompt new.bundle new.history
  pub began : IsSoundRun new → IsSoundRun old

-- a net has gone on by the schedule, with some number next
pub record HasGone (old : NetState) (seed : Option ℕ) (new : NetState) : Type 0 where
  pub next : Option ℕ
  pub goes : Goes old seed new next
