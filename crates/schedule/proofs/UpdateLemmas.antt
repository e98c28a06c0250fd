-- A run makes at most one update an entry.
use Rattle.std.proofs.Common.{◌≡◌, ◌≤◌, ◌<◌, ◌+◌, ℕ, List, [], ◌∷◌, length, Option, Some, None, refl, sym, ap, ⊎_elim, arith}
use Rattle.std.specs.Prelude.{option_and_then}
use Rattle.dioc_terms.specs.declared.entries.Chosen.TheVariants as chosen
use Rattle.dioc_terms.specs.declared.entries.Entry.{Entry}
use Rattle.dioc_terms.specs.declared.entries.Entry.TheVariants as entry
use Rattle.dioc_terms.specs.Plain.{Setting, setting}
use Rattle.global_steps.specs.Follow.{updates_after}
use Rattle.process_steps.specs.Steps.{entry_of}
use Rattle.network_steps.specs.Network.{Network, network_start, network_step, run_from}
use Rattle.marked_laws.proofs.Networks.{ChangeStep, RoleStep, network_cases}
use Rattle.marked_laws.proofs.Shapes.{none_some, some_same}
use Rattle.net_core.specs.Nets.{IsSoundRun, NetState, network_of}

one_update : (e : Entry) (updates : ℕ) → updates_after e updates ≤ updates + 1
one_update (entry.Scope i r (chosen.Rule name n)) updates = omega arith
one_update (entry.Scope i r chosen.Keep) updates = omega arith
one_update (entry.Put k n) updates = omega arith
one_update (entry.Take k x) updates = omega arith
one_update (entry.Set i r x v) updates = omega arith
one_update (entry.Input i r x v) updates = omega arith
one_update (entry.Pick i r t) updates = omega arith
one_update (entry.Add name) updates = omega arith
one_update (entry.Drop name) updates = omega arith
one_update (entry.Env key v) updates = omega arith

step_updates : (b : Setting) (N : Network) (e : Entry) (M : Network) → network_step b N e ≡ Some M → M.updates ≤ N.updates + 1
step_updates b N e M h = ⊎_elim by_role by_change (network_cases b N e M h)
  where
    by_role : RoleStep b N e M → M.updates ≤ N.updates + 1
    by_role step =
        let same : M.updates ≡ updates_after (entry_of step.deed) N.updates = ap (λ (L : Network). L.updates) step.gives in
        omega (arith, same, one_update (entry_of step.deed) N.updates)

    by_change : ChangeStep b N e M → M.updates ≤ N.updates + 1
    by_change step =
        let same : M.updates ≡ N.updates = ap (λ (L : Network). L.updates) step.gives in
        omega (arith, same)

run_updates : (b : Setting) (N : Network) (H : List Entry) (M : Network) → run_from b N H ≡ Some M → M.updates ≤ N.updates + length H
run_updates b N [] M h = let same : M.updates ≡ N.updates = ap (λ (L : Network). L.updates) (sym (some_same h)) in omega (arith, same)
run_updates b N (e ∷ H) M h = by_step (network_step b N e) refl h (λ L k. run_updates b L H M k)
  where
    by_step : (o : Option Network) → network_step b N e ≡ o → option_and_then (λ L. run_from b L H) o ≡ Some M
        → ((L : Network) → run_from b L H ≡ Some M → M.updates ≤ L.updates + length H) → M.updates ≤ N.updates + length (e ∷ H)
    by_step None is k rest = absurd (none_some k)
    by_step (Some L) is k rest = omega (arith, step_updates b N e L is, rest L k)

-- where there is room, fewer updates were made than the limit allows entries
pub few_updates : (net : NetState) → IsSoundRun net → length net.history < net.limit → net.limit ≤ 4294967295 → (network_of net).updates < 4294967295
few_updates net run room limit =
    omega (arith, room, limit, run_updates (setting net.bundle) (network_start net.bundle) net.history (network_of net) run.runs)
