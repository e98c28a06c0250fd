-- The places so far are those of the acts so far with the takes, and then those from before.
use Rattle.std.proofs.Common.{◌≡◌, ◌++◌, Bool, true, drop, take}
use Rattle.std.specs.Prelude.{◌||◌}
use Rattle.dioc_terms.specs.declared.entries.Act.{Act}
use Rattle.net_core.specs.MovesIn.{are_places}
use Rattle.net_core.specs.Places.{places_from, places_of}
use Rattle.schedule.specs.Agendas.{takes}
use Rattle.schedule.proofs.agenda.add_takes.Given as goal

abbrev pub invariant-loop-at : goal.invariant-loop-at
invariant-loop-at l = record {
  places : (p : Act → Bool) → l.initial.ready.items ≡ places_of p l.acts
      → l.ready.items ≡ places_of (λ a. takes l.key a || p a) (take l.at l.acts) ++ places_from p l.at (drop l.at l.acts);
  inside : are_places l.ready.items l.acts ≡ true;
}
