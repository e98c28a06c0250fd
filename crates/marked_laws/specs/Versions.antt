-- What doesn't depend on the version of a bundle: what its choreography plays, and what its network
-- runs.
use Rattle.std.specs.Prelude.{◌≡◌, ℕ, List}
use Rattle.dioc_terms.specs.declared.entries.Entry.{Entry}
use Rattle.dioc_terms.specs.Plain.{PlainBundle}
use Rattle.global_steps.specs.Follow.{play, stray}
use Rattle.global_steps.specs.Settled.{IsSettled}
use Rattle.network_steps.specs.Network.{network_run}

abbrev pub with_version : ℕ → PlainBundle → PlainBundle
with_version n b = record b { version = n }

pub record RunsReadNoVersion : Type 0 where
  pub plays : (b : PlainBundle) (n : ℕ) (trace : List Entry) → play (with_version n b) trace
      ≡ play b trace
  pub strays : (b : PlainBundle) (n : ℕ) (trace : List Entry) → stray (with_version n b) trace
      ≡ stray b trace
  pub settles : (b : PlainBundle) (n : ℕ) (trace : List Entry) → IsSettled b trace
      → IsSettled (with_version n b) trace
  pub runs : (b : PlainBundle) (n : ℕ) (history : List Entry) → network_run (with_version n b)
      history ≡ network_run b history
