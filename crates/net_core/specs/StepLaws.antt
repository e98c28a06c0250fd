-- What a step does to a run: it is one more step of it.
use Rattle.std.specs.Prelude.{◌≡◌, List, [], ◌∷◌, ◌++◌, true, Some, IsSome}
use Rattle.dioc_terms.specs.declared.names.Role.{Role}
use Rattle.dioc_terms.specs.declared.entries.Act.{Act}
use Rattle.dioc_terms.specs.declared.entries.Entry.{Entry}
use Rattle.dioc_terms.specs.Plain.{PlainBundle, setting}
use Rattle.process_steps.specs.Steps.{offers, is_offered}
use Rattle.marked_laws.specs.Laws.{IsSound}
use Rattle.network_steps.specs.Network.{Network, NextNetwork, act_step, change_step, network_run}
use Rattle.network_steps.specs.Schedule.{is_ready}

-- Steps run: after a run of a sound bundle a step of a role or a change of the script gives a run
-- that is longer by its entry, and an act that is offered and ready can be done.
pub record StepsRun : Type 0 where
  pub act : (b : PlainBundle) (H : List Entry) (N : Network) (q : Role) (a : Act)
      (outcome : NextNetwork) → IsSound b → network_run b H ≡ Some N
      → act_step (setting b) N q a ≡ Some outcome
      → network_run b (H ++ outcome.entry ∷ []) ≡ Some outcome.network
  pub change : (b : PlainBundle) (H : List Entry) (N : Network) (outcome : NextNetwork) → IsSound b
      → network_run b H ≡ Some N → change_step (setting b) N ≡ Some outcome
      → network_run b (H ++ outcome.entry ∷ []) ≡ Some outcome.network
  pub ready : (b : PlainBundle) (H : List Entry) (N : Network) (q : Role) (a : Act) → IsSound b
      → network_run b H ≡ Some N → is_offered a (offers q (N.processes q)) ≡ true
      → is_ready N a ≡ true → IsSome (act_step (setting b) N q a)
