-- What holds of driven traces: they are exactly the settled traces that the choreography plays.
use Rattle.std.specs.Prelude.{◌≡◌, ◌⊎◌, ◌↔◌, List, [], ◌∷◌, ◌++◌, true, not, Some, None, IsSome, IsSomeAnd}
use Rattle.std.specs.List.{list_all}
use Rattle.dioc_terms.specs.declared.entries.Entry.{Entry}
use Rattle.dioc_terms.specs.Messages.{is_aux, visible}
use Rattle.dioc_terms.specs.Plain.{PlainBundle, setting}
use Rattle.drive_laws.specs.Laws.{IsQuiet}
use Rattle.global_steps.specs.Follow.{play}
use Rattle.global_steps.specs.Settled.{IsSettled}
use Rattle.marked_laws.specs.Laws.{IsSound}
use Rattle.network_steps.specs.Network.{Network, network_run, network_step}
use Rattle.net_drive.specs.Driven.{driven, first_auxiliary, may_come}

-- the history is a run that shows exactly the trace, and that has left no auxiliary move
pub record Drives (b : PlainBundle) (t H : List Entry) : Type 0 where
  pub network : Network
  pub runs : network_run b H ≡ Some network
  pub shows : visible H ≡ t
  pub quiet : IsQuiet (setting b) network

-- Driven runs: each settled trace that the choreography plays is what is visible of its driven
-- history, which is a run of the network.
abbrev pub DrivenRuns : Type 0
DrivenRuns =
    (b : PlainBundle) (t : List Entry) → IsSound b → IsSome (play b t) → IsSettled b t
    → IsSomeAnd (driven b t) (Drives b t)

-- some run of the network shows exactly the trace
abbrev pub IsVisibleOfRun : PlainBundle → List Entry → Type 0
IsVisibleOfRun b t = (H : List Entry) × IsSome (network_run b H) × (visible H ≡ t)

-- Same traces: the visible traces of the network are exactly the settled traces that the
-- choreography plays.
abbrev pub SameTraces : Type 0
SameTraces =
    (b : PlainBundle) (t : List Entry) → IsSound b
    → (IsSome (play b t) × IsSettled b t) ↔ IsVisibleOfRun b t

-- Driven exactly: a trace of visible entries is driven exactly where it is settled and the
-- choreography plays it.
abbrev pub DrivenExactly : Type 0
DrivenExactly =
    (b : PlainBundle) (t : List Entry) → IsSound b → list_all (λ e. not (is_aux e)) t ≡ true
    → IsSome (driven b t) ↔ (IsSome (play b t) × IsSettled b t)

-- Strays are exact: an entry that a run can't do, though it may come or no auxiliary move is left,
-- makes no settled trace that the choreography plays.
abbrev pub StraysAreExact : Type 0
StraysAreExact =
    (b : PlainBundle) (H : List Entry) (N : Network) (e : Entry) → IsSound b
    → network_run b H ≡ Some N → network_step (setting b) N e ≡ None
    → (may_come N e ≡ true) ⊎ (first_auxiliary (setting b) N ≡ None)
    → IsSome (play b (visible H ++ e ∷ [])) → IsSettled b (visible H ++ e ∷ []) → ⊥
