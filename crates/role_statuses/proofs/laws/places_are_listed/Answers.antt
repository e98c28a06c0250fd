use Rattle.role_statuses.proofs.ListLemmas.{places-are_listed}
use Rattle.role_statuses.proofs.laws.places_are_listed.Goals as goal

pub returns : goal.returns
returns c = places-are_listed
