-- What the monitors of all roles together know of a trace: no run of the network deviates, and what
-- every monitor keeps, with its changes in place, is a run.
use Rattle.std.specs.Prelude.{◌≡◌, ℕ, suc, List, [], ◌∷◌, Bool, true, false, ◌&&◌, nat_le, Some, None, IsSome, if◌then◌else◌, is_none, slice_get}
use Rattle.std.specs.List.{list_all}
use Rattle.std.specs.Option.{option_map_or}
use Rattle.dioc_terms.specs.declared.names.Role.{Role}
use Rattle.dioc_terms.specs.declared.entries.Entry.{Entry}
use Rattle.dioc_terms.specs.declared.bundles.Timed.{Timed}
use Rattle.dioc_terms.specs.Equality.{member}
use Rattle.dioc_terms.specs.Messages.{doer}
use Rattle.dioc_terms.specs.Plain.{PlainBundle, Setting, setting}
use Rattle.global_steps.specs.Follow.{shows}
use Rattle.network_steps.specs.Network.{Network, network_run, visible_after}
use Rattle.role_monitor.specs.Monitoring.{mon_run, deviates}
use Rattle.rule_checks.specs.Refusals.{IsAccepted}

-- Runs never deviate: in no run of the network does a role deviate, whichever role is judged.
abbrev pub RunsNeverDeviate : Type 0
RunsNeverDeviate =
    (b : PlainBundle) (H : List Entry) (N : Network) (r : Role) → IsAccepted b → network_run b H
    ≡ Some N → IsSome (mon_run b r H) × (deviates b r H ≡ None)

-- a change, or an entry of a role of the cast
abbrev pub is_of_cast : List Role → Entry → Bool
is_of_cast cast e = option_map_or (λ q. member q cast) (doer e) true

-- whether the entry shows the script's change of this number, which may stand after so many visible
-- entries
abbrev pub change_stands : Setting → ℕ → ℕ → Entry → Bool
change_stands b changes seen e =
    option_map_or (λ (timed : Timed). shows b.rules e timed.change && nat_le timed.after seen)
    (slice_get b.script changes) false

-- whether each change is the script's next, and stands after at least its stated number of visible
-- entries; so many changes and so many visible entries stand before
abbrev pub changes_stand : Setting → ℕ → ℕ → List Entry → Bool
changes_stand b changes seen [] = true
changes_stand b changes seen (e ∷ es) =
    if is_none (doer e) then change_stands b changes seen e
    && changes_stand b (suc changes) (suc seen) es
    else changes_stand b changes (visible_after e seen) es

-- Kept traces are runs: what no monitor of any role of the cast refuses is a run of the network,
-- where each change in it stands as the script says.
abbrev pub KeptTracesAreRuns : Type 0
KeptTracesAreRuns =
    (b : PlainBundle) (t : List Entry) → IsAccepted b → list_all (is_of_cast b.cast) t ≡ true
    → ((r : Role) → member r b.cast ≡ true → IsSome (mon_run b r t))
    → changes_stand (setting b) 0 0 t ≡ true
    → IsSome (network_run b t)
