-- What holds of each bundle that is accepted: it is sound, each move of its network can be done,
-- and a schedule gives runs.
use Rattle.std.specs.Prelude.{◌≡◌, ◌≤◌, ◌⊎◌, ℕ, List, length, true, false, Option, Some, None, IsSome, All, Contains}
use Rattle.dioc_terms.specs.declared.names.Role.{Role}
use Rattle.dioc_terms.specs.declared.entries.Act.{Act}
use Rattle.dioc_terms.specs.declared.entries.Entry.{Entry}
use Rattle.dioc_terms.specs.Messages.{visible}
use Rattle.dioc_terms.specs.Plain.{PlainBundle, setting}
use Rattle.marked_laws.specs.Laws.{IsSound, Explains}
use Rattle.network_steps.specs.Network.{Network, network_run, network_ended}
use Rattle.marked_laws.specs.Versions.{with_version}
use Rattle.rule_checks.specs.Refusals.{IsAccepted, refusal}
use Rattle.network_steps.specs.declared.moves.Move.TheVariants as move
use Rattle.network_steps.specs.Schedule.{moves, move_step, sched, sched_from, IsPrompt}

-- Accepted is sound: a bundle that is refused nothing is connected, no role of it sends to itself,
-- and its rules are such too.
abbrev pub AcceptedIsSound : Type 0
AcceptedIsSound = (b : PlainBundle) → IsAccepted b → IsSound b

-- Moves are steps: after any run each move can be done, and an act of a role is among them where
-- the network has not ended.
pub record MovesAreSteps : Type 0 where
  pub done : (b : PlainBundle) (H : List Entry) (N : Network) → IsAccepted b → network_run b H
      ≡ Some N → All (λ move. IsSome (move_step (setting b) N move)) (moves (setting b) N)
  pub some : (b : PlainBundle) (H : List Entry) (N : Network) → IsAccepted b → network_run b H
      ≡ Some N → network_ended b.cast N ≡ false
      → (q : Role) × (a : Act) × Contains (moves (setting b) N) (move.Act q a)

-- the entries are a run, with at most so many entries, and fewer only where the network has ended;
-- the choreography explains it
pub record Arrives (b : PlainBundle) (limit : ℕ) (H : List Entry) : Type 0 where
  pub network : Network
  pub runs : network_run b H ≡ Some network
  pub within : length H ≤ limit
  pub finished : (network_ended b.cast network ≡ true) ⊎ (length H ≡ limit)
  pub explained : Explains b (visible H) network

-- Runs are sound: what a schedule, with a seed or without, makes of a run is a run that has ended
-- or has as many entries as it may.
abbrev pub RunsAreSound : Type 0
RunsAreSound =
    (b : PlainBundle) (H : List Entry) (N : Network) (seed : Option ℕ) (limit : ℕ) → IsAccepted b
    → network_run b H ≡ Some N → length H ≤ limit
    → Arrives b limit (sched_from b H seed limit)

-- Schedules are prompt: in what a schedule without a seed makes, no change that is due waits,
-- whatever the bundle.
abbrev pub SchedulesArePrompt : Type 0
SchedulesArePrompt = (b : PlainBundle) (limit : ℕ) → IsPrompt b (sched b None limit)

-- Schedules read no version: neither what a schedule makes nor the first refusal depends on the
-- version of a bundle.
pub record SchedulesReadNoVersion : Type 0 where
  pub schedules : (b : PlainBundle) (n : ℕ) (seed : Option ℕ) (limit : ℕ)
      → sched (with_version n b) seed limit ≡ sched b seed limit
  pub refusals : (b : PlainBundle) (n : ℕ) → refusal (with_version n b) ≡ refusal b
