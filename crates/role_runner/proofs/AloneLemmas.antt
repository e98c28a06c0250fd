-- What a run on the caller's thread alone leaves: the net has run by the schedule without a seed.
use Rattle.std.proofs.Common.{◌≡◌, ◌↔◌, ◌≤◌, ℕ, List, [], ◌∷◌, ◌++◌, length, Bool, true, false, refl, sym, ◌∙◌, subst}
use Rattle.std.proofs.lemmas.Bool.{both_ways}
use Rattle.dioc_terms.specs.declared.entries.Entry.{Entry}
use Rattle.dioc_terms.specs.Plain.{PlainBundle}
use Rattle.network_steps.specs.Network.{network_ended, network_run}
use Rattle.network_steps.specs.Schedule.{IsPrompt}
use Rattle.net_core.specs.Nets.{IsSoundRun, NetState, network_at, network_of}
use Rattle.role_runner.specs.Endings.{IsRun}
use Rattle.schedule.specs.declared.runs.Finish.{Finish}
use Rattle.schedule.specs.declared.runs.Finish.TheVariants as finish
use Rattle.schedule.specs.Turns.{has_ended}

-- before its first entry a history is prompt
pub nothing_prompt : (b : PlainBundle) (H : List Entry) → H ≡ [] → IsPrompt b H
nothing_prompt b H none before e rest is own = absurd (nothing before (sym none ∙ is))
  where
    nothing : (before : List Entry) → [] ≡ before ++ e ∷ rest → ⊥
    nothing [] h = cc
    nothing (x ∷ xs) h = cc

module _ (b : PlainBundle) (limit : ℕ) (net : NetState) (H : List Entry) (owner : net.bundle ≡ b) (bound : net.limit ≡ limit) (same : H ≡ net.history) (ran : IsSoundRun net) where
  pub alone_run : IsRun b H
  alone_run = record { network = network_of net; runs = (λ j. network_run (sym owner j) (same j)) ∙ ran.runs }

  pub alone_prompt : IsPrompt net.bundle net.history → IsPrompt b H
  alone_prompt prompt = subst (λ c. IsPrompt c H) owner (subst (IsPrompt net.bundle) (sym same) prompt)

  pub alone_within : length H ≤ limit
  alone_within = subst (λ n. length H ≤ n) bound (subst (λ h. length h ≤ net.limit) (sym same) ran.within)

  module _ (over : Bool) (is : over ≡ has_ended net) where
    pub alone_ended : over ≡ network_ended b.cast (network_at b H)
    alone_ended = is ∙ (λ j. network_ended (owner j).cast (network_at (owner j) (sym same j)))

    pub alone_full : (f : Finish) → ((f ≡ finish.Ended) ↔ (has_ended net ≡ true)) → ((f ≡ finish.Limit) ↔ ((length net.history ≡ net.limit) × (has_ended net ≡ false))) → over ≡ false
        → length H ≡ limit
    alone_full finish.Ended ended cut goes = absurd (both_ways (has_ended net) (sym is ∙ goes) (ended.0 refl))
    alone_full finish.Limit ended cut goes = (λ j. length (same j)) ∙ (cut.0 refl).0 ∙ bound
