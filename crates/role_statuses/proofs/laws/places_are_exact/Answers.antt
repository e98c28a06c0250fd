use Rattle.role_statuses.proofs.PlaceStepLemmas.{places-are_exact}
use Rattle.role_statuses.proofs.laws.places_are_exact.Goals as goal

pub returns : goal.returns
returns c = places-are_exact
