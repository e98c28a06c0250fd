-- The headline: what holds of every run of the network of an accepted bundle, under every
-- interleaving and every live change.
use Rattle.std.specs.Prelude.{◌≡◌, List, [], ◌++◌, map, true, false, Some}
use Rattle.std.specs.List.{list_all}
use Rattle.dioc_terms.specs.declared.names.Role.{Role}
use Rattle.dioc_terms.specs.declared.entries.Entry.{Entry}
use Rattle.dioc_terms.specs.Messages.{visible}
use Rattle.dioc_terms.specs.Plain.{PlainBundle}
use Rattle.process_steps.specs.Steps.{ended, offers}
use Rattle.global_steps.specs.Settled.{IsSettled}
use Rattle.marked_laws.specs.Laws.{Explains, HasStep, distinct_keys, taken_keys}
use Rattle.network_steps.specs.Network.{Network, network_run, network_ended}
use Rattle.rule_checks.specs.Refusals.{IsAccepted}

-- nothing can be confused in the network, and it isn't stuck
pub record IsOrderly (b : PlainBundle) (N : Network) : Type 0 where
  -- no two pending messages have one key
  pub messages : distinct_keys (map (λ message. message.0) N.pending) ≡ true
  -- no two ready receives of one role have one key
  pub receives : (q : Role) → distinct_keys (taken_keys (offers q (N.processes q))) ≡ true
  -- a role has a step, unless the network has ended
  pub step : network_ended b.cast N ≡ false → HasStep b N
  -- no message is left where every process has ended
  pub nothing_left : list_all (λ q. ended (N.processes q)) b.cast ≡ true → N.pending ≡ []

-- The history is a run of the network. Its visible part is played by the choreography itself, with
-- the same changes at the same places, and settled; then the choreography's stores, book, updates
-- and changes are the network's. After each part of the history, from nothing to the whole, the
-- network is orderly.
pub record Headline (b : PlainBundle) (H : List Entry) (N : Network) : Type 0 where
  pub runs : network_run b H ≡ Some N
  pub explained : Explains b (visible H) N
  pub settled : IsSettled b (visible H)
  pub orderly : (before rest : List Entry) → H ≡ before ++ rest → (M : Network)
      × (network_run b before ≡ Some M) × IsOrderly b M

-- Every run: the headline holds of every history that the network of an accepted bundle can run.
abbrev pub EveryRun : Type 0
EveryRun =
    (b : PlainBundle) (H : List Entry) (N : Network) → IsAccepted b → network_run b H ≡ Some N
    → Headline b H N
