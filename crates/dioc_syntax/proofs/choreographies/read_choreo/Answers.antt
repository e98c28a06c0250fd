use Rattle.std.proofs.Common.{◌≡◌, Some, sym, subst}
use Rattle.dioc_terms.specs.Terms.{term, indexed}
use Rattle.dioc_syntax.specs.declared.places.Place.{Place}
use Rattle.dioc_syntax.specs.Choreographies.{Choreography}
use Rattle.dioc_syntax.specs.Readers.{FormAt}
use Rattle.dioc_syntax.proofs.Marks.{stands_marked}
use Rattle.dioc_syntax.proofs.choreographies.read_choreo.Goals as goal

pub returns-in-Some-clause-indexed : goal.returns-in-Some-clause-indexed
returns-in-Some-clause-indexed c =
    let begins = c.front.result in
    let here = subst (FormAt c.args.version Choreography begins.room begins.deep begins.earlier c.new-text.result begins.at) c.in-Some.is c.in_ok-found.ensures in
    let stands = subst (λ (place : Place). FormAt c.args.version Choreography place.room place.deep place.earlier c.new-text.result place.at (Some c.in-Some.found)) c.front.ensures here in
    subst (λ whole. term whole ≡ indexed (term whole)) (sym c.into_inner.ensures) (stands_marked stands.front.reads.stands)
