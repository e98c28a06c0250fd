-- What holds of resumed runs.
use Rattle.std.specs.Prelude.{◌≡◌, ◌≤◌, ◌<◌, ◌⊎◌, ◌↔◌, ℕ, List, length, take, true, Option, Some, None, IsSome}
use Rattle.dioc_terms.specs.declared.entries.Entry.{Entry}
use Rattle.dioc_terms.specs.Plain.{PlainBundle}
use Rattle.network_steps.specs.Network.{Network, network_ended, network_run}
use Rattle.network_steps.specs.Schedule.{sched_from}
use Rattle.net_laws.specs.Headline.{Headline}
use Rattle.net_core.specs.Nets.{NetState}
use Rattle.net_drive.specs.Resumed.{IsFirstStray, IsNetAfter, resumed_history, run_stray}
use Rattle.rule_checks.specs.Refusals.{IsAccepted}

-- the headline holds of the history, which has at most so many entries, and fewer only where the
-- network has ended
pub record IsRunTo (b : PlainBundle) (limit : ℕ) (H : List Entry) : Type 0 where
  pub network : Network
  pub headline : Headline b H network
  pub within : length H ≤ limit
  pub finished : (network_ended b.cast network ≡ true) ⊎ (length H ≡ limit)

-- Resumed runs: where the entries of an accepted bundle's trace, as many as the limit allows, are a
-- run of its network, so is the history of the resumed run, and the headline holds of it.
abbrev pub ResumedRuns : Type 0
ResumedRuns =
    (b : PlainBundle) (entries : List Entry) (seed : Option ℕ) (limit : ℕ) → IsAccepted b
    → IsSome (network_run b (take limit entries))
    → IsRunTo b limit (resumed_history b entries seed limit)

-- a net has gone on by the schedule to its end or to its limit, as `run_seeded` leaves it
pub record HasRunOn (old : NetState) (seed : Option ℕ) (new : NetState) : Type 0 where
  pub history : new.history ≡ sched_from old.bundle old.history seed old.limit
  pub bundle : new.bundle ≡ old.bundle
  pub limit : new.limit ≡ old.limit

-- the net of the bundle whose history is that of the resumed run, of which the headline holds
pub record IsResumedNet (b : PlainBundle) (entries : List Entry) (seed : Option ℕ) (most : ℕ)
    (net : NetState) : Type 0 where
  pub bundle : net.bundle ≡ b
  pub limit : net.limit ≡ most
  pub history : net.history ≡ resumed_history b entries seed most
  pub run : IsRunTo b most net.history

-- Resumed nets, of an accepted bundle: the net that `resume` gives has, once it has gone on by the
-- schedule, the history of the resumed run; so has the net that it gives where there are more
-- entries than the limit, as it is.
pub record ResumedNets : Type 0 where
  pub whole : (b : PlainBundle) (entries : List Entry) (seed : Option ℕ) (most : ℕ)
      (between net : NetState) → IsAccepted b → IsNetAfter b entries most between
      → length entries ≤ most → HasRunOn between seed net → IsResumedNet b entries seed most net
  pub full : (b : PlainBundle) (entries : List Entry) (seed : Option ℕ) (most : ℕ)
      (net : NetState) → IsAccepted b → most < length entries
      → IsNetAfter b (take most entries) most net → IsResumedNet b entries seed most net

-- Strays of runs are exact: no entry is counted as a stray exactly where the entries are a run, and
-- the number that is counted is exactly that of the first stray.
pub record RunStraysAreExact : Type 0 where
  pub none : (b : PlainBundle) (entries : List Entry) → (run_stray b entries ≡ None)
      ↔ IsSome (network_run b entries)
  pub some : (b : PlainBundle) (entries : List Entry) (n : ℕ) → (run_stray b entries ≡ Some n)
      ↔ IsFirstStray b entries n
