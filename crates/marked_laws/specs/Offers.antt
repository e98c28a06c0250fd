-- What a role offers in a run: no act stands twice in it.
use Rattle.std.specs.Prelude.{◌≡◌, List, [], ◌∷◌, Bool, true, ◌&&◌, not, Some}
use Rattle.dioc_terms.specs.declared.names.Role.{Role}
use Rattle.dioc_terms.specs.declared.entries.Act.{Act}
use Rattle.dioc_terms.specs.declared.entries.Entry.{Entry}
use Rattle.dioc_terms.specs.Plain.{PlainBundle}
use Rattle.process_steps.specs.Steps.{offers, is_offered}
use Rattle.marked_laws.specs.Laws.{IsSound}
use Rattle.network_steps.specs.Network.{Network, network_run}

abbrev pub distinct_acts : List Act → Bool
distinct_acts [] = true
distinct_acts (a ∷ acts) = not (is_offered a acts) && distinct_acts acts

-- Distinct offers: in every network of a run no act stands twice in what a role offers.
abbrev pub DistinctOffers : Type 0
DistinctOffers =
    (b : PlainBundle) (H : List Entry) (N : Network) → IsSound b → network_run b H ≡ Some N
    → (q : Role)
    → distinct_acts (offers q (N.processes q)) ≡ true
