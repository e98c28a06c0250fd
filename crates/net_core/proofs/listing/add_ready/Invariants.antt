-- The places so far are those of the acts so far.
use Rattle.std.proofs.Common.{◌≡◌, true, take}
use Rattle.std.specs.Prelude.{filter}
use Rattle.net_core.specs.Deeds.{is_there}
use Rattle.net_core.specs.MovesIn.{are_places, chosen}
use Rattle.net_core.specs.Places.{places_of}
use Rattle.net_core.proofs.listing.add_ready.Given as goal

abbrev pub invariant-loop-at : goal.invariant-loop-at
invariant-loop-at l = record {
  places : l.ready.items ≡ places_of (λ a. is_there a l.mail) (take l.at l.acts);
  ready : chosen l.ready.items l.acts ≡ filter (λ a. is_there a l.mail) (take l.at l.acts);
  inside : are_places l.ready.items l.acts ≡ true;
}
