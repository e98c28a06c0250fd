use Rattle.std.proofs.Common.{◌≢◌, ◌+◌, refl, sym, subst, IfErr}
use Rattle.dioc_terms.specs.declared.choreographies.Choreo.{Choreo}
use Rattle.dioc_syntax.specs.Choreographies.{Choreography}
use Rattle.dioc_syntax.proofs.PlaceFacts.{at_place}
use Rattle.bundle_text.specs.Stops.{place_in, EndsInChoreography, missing}
use Rattle.bundle_text.specs.declared.stops.Stop.TheVariants as stops
use Rattle.bundle_text.specs.Readers.{ChoreographyTaken}
use Rattle.bundle_text.proofs.Found.{choreography_open, choreography_found}
use Rattle.bundle_text.proofs.sections.choreography_at.Goals as goal

pub returns-in-None-clause-stopped : goal.returns-in-None-clause-stopped
returns-in-None-clause-stopped c = λ other. missing refl (at_place c.args.reader.now Choreography c.front.ensures c.in-None.is c.in_ok-found.ensures)

pub returns-then-not-has-clause-stopped : goal.returns-then-not-has-clause-stopped
returns-then-not-has-clause-stopped c =
    subst (λ result. IfErr result (λ stop. stop ≢ stops.Memory → EndsInChoreography c.args.reader.now.version c.args.reader.now.text.now c.args.at (place_in stop))) (sym c.lost.ensures) (λ other.
    choreography_open c.args.reader.now.text.now c.args.at c.args.reader.now.version (at_place c.args.reader.now Choreography c.front.ensures c.in-Some.is c.in_ok-found.ensures)
    (λ is. let found = c.has.ensures.value.1 is in let missed = c.if-not-has.true in cc))

pub returns-clause-found : goal.returns-clause-found
returns-clause-found c =
    subst (λ (whole : Choreo). ChoreographyTaken c.args.reader.now.version c.args.reader.now.text.now c.args.at whole (c.in-Some.found.at + 1)) (sym c.into_inner.ensures)
    (choreography_found c.args.reader.now.text.now c.args.at c.args.reader.now.version (at_place c.args.reader.now Choreography c.front.ensures c.in-Some.is c.in_ok-found.ensures) (c.has.ensures.value.0 cc))
