-- What was found at the place that a call gave, said of that place.
use Rattle.std.proofs.Common.{◌≡◌, Option, subst}
use Rattle.dioc_syntax.specs.Choreographies.{Form}
use Rattle.dioc_syntax.specs.Readers.{FormStandsAt}
use Rattle.dioc_syntax.specs.declared.found.FoundChoreo.{FoundChoreo}
use Rattle.dioc_syntax.specs.declared.places.Reader.{Reader}
use Rattle.dioc_syntax.specs.declared.places.Place.{Place}

pub at_place : (reader : Reader) (form : Form) {there place : Place} {answer found : Option FoundChoreo} → there ≡ place → answer ≡ found
    → FormStandsAt reader form there answer → FormStandsAt reader form place found
at_place reader form {place = place} {answer = answer} moved is given =
    subst (FormStandsAt reader form place) is (subst (λ p. FormStandsAt reader form p answer) moved given)
