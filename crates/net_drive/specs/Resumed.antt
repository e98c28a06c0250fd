-- What it is to resume a run: the net after the entries that stand already, the first of them that
-- can't be done, and the history of a run that goes on after them.
use Rattle.std.specs.Prelude.{◌≡◌, ℕ, suc, List, [], ◌∷◌, ◌++◌, length, take, nat_le, Option, Some, None, IsSome, if◌then◌else◌}
use Rattle.std.specs.Option.{option_map_or}
use Rattle.dioc_terms.specs.declared.entries.Entry.{Entry}
use Rattle.dioc_terms.specs.Plain.{PlainBundle, Setting, setting}
use Rattle.network_steps.specs.Network.{Network, network_run, network_start, network_step}
use Rattle.network_steps.specs.Schedule.{sched_from}
use Rattle.net_core.specs.Nets.{IsSoundRun, NetState}

-- The number, from 1, of the first entry that the network can't do after those before it. The
-- number is of the next entry, from a network.
abbrev pub run_stray_from : Setting → Network → ℕ → List Entry → Option ℕ
run_stray_from b N n [] = None
run_stray_from b N n (e ∷ es) =
    option_map_or (λ next. run_stray_from b next (suc n) es) (network_step b N e) (Some n)

abbrev pub run_stray : PlainBundle → List Entry → Option ℕ
run_stray b es = run_stray_from (setting b) (network_start b) 1 es

-- entry n, counted from 1, is the first that the network can't do: those before it are a run, and
-- with it they aren't
pub record IsFirstStray (b : PlainBundle) (entries : List Entry) (n : ℕ) : Type 0 where
  pub before : List Entry
  pub entry : Entry
  pub later : List Entry
  pub splits : entries ≡ before ++ entry ∷ later
  pub number : n ≡ suc (length before)
  pub runs : IsSome (network_run b before)
  pub strays : network_run b (before ++ entry ∷ []) ≡ None

-- the net of the bundle, with this limit, after exactly these entries, which are a run of it
pub record IsNetAfter (b : PlainBundle) (entries : List Entry) (most : ℕ) (net : NetState) : Type 0
  where
    pub bundle : net.bundle ≡ b
    pub history : net.history ≡ entries
    pub limit : net.limit ≡ most
    pub run : IsSoundRun net

-- the history of a resumed run: the entries, continued by the schedule to the limit; where they are
-- more than the limit, the first of them, as many as that
abbrev pub resumed_history : PlainBundle → List Entry → Option ℕ → ℕ → List Entry
resumed_history b entries seed limit =
    if nat_le (length entries) limit then sched_from b entries seed limit else take limit entries
