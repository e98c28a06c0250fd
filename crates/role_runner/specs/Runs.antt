-- What a run leaves.
use Rattle.std.specs.Prelude.{◌≡◌, ◌≤◌, ℕ, length, false}
use Rattle.dioc_terms.specs.Plain.{PlainBundle}
use Rattle.net_core.specs.Nets.{network_at}
use Rattle.network_steps.specs.Network.{network_ended}
use Rattle.network_steps.specs.Schedule.{IsPrompt}
use Rattle.role_runner.specs.Endings.{IsRun}
use Rattle.role_runner.specs.declared.runs.Outcome.{Outcome}

-- The history is a run of the network, in which a change that is due comes first, and has no more
-- entries than there may be: it has as many, or the network has ended.
pub record IsWhole (b : PlainBundle) (limit : ℕ) (outcome : Outcome) : Type 0 where
  pub run : IsRun b outcome.history.entries
  pub prompt : IsPrompt b outcome.history.entries
  pub within : length outcome.history.entries ≤ limit
  pub ended : outcome.ended ≡ network_ended b.cast (network_at b outcome.history.entries)
  pub full : outcome.ended ≡ false → length outcome.history.entries ≡ limit
