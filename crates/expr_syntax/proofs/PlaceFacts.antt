-- What was found at the place that a call gave, said of that place.
use Rattle.std.proofs.Common.{◌≡◌, Option, subst}
use Rattle.expr_syntax.specs.Readers.{LevelAt}
use Rattle.expr_syntax.specs.declared.levels.Level.{Level}
use Rattle.expr_syntax.specs.declared.places.Reader.{Reader}
use Rattle.expr_syntax.specs.declared.places.Place.{Place}
use Rattle.expr_syntax.specs.declared.readers.Found.{Found}

pub at_place : (reader : Reader) (level : Level) {there place : Place} {answer found : Option Found} → there ≡ place → answer ≡ found
    → LevelAt reader level there answer → LevelAt reader level place found
at_place reader level {place = place} {answer = answer} moved is given =
    subst (LevelAt reader level place) is (subst (λ p. LevelAt reader level p answer) moved given)
