use Rattle.std.proofs.Common.{◌+◌, Some, sym, subst}
use Rattle.dioc_terms.specs.declared.choreographies.Choreo.{Choreo}
use Rattle.dioc_syntax.specs.Choreographies.{Choreography}
use Rattle.dioc_syntax.proofs.PlaceFacts.{at_place}
use Rattle.rule_syntax.specs.Readers.{BodyAt}
use Rattle.rule_syntax.proofs.Fronts.{body_missing, body_open, body_found}
use Rattle.rule_syntax.proofs.parts.body_at.Goals as goal

pub returns-in-None : goal.returns-in-None
returns-in-None c =
    body_missing c.args.reader.now.text.now c.args.at c.args.reader.now.version c.args.room (at_place c.args.reader.now Choreography c.front.ensures c.in-None.is c.in_ok-found.ensures)

pub returns-then-not-begins : goal.returns-then-not-begins
returns-then-not-begins c =
    subst (BodyAt c.args.reader.now.version c.args.room c.args.reader.now.text.now c.args.at) (sym c.no_part.ensures)
    (body_open c.args.reader.now.text.now c.args.at c.args.reader.now.version c.args.room (at_place c.args.reader.now Choreography c.front.ensures c.in-Some.is c.in_ok-found.ensures)
    (λ is. let found = c.begins.ensures.1 is in let missed = c.if-not-begins.true in cc))

pub returns : goal.returns
returns c =
    subst (λ (whole : Choreo). BodyAt c.args.reader.now.version c.args.room c.args.reader.now.text.now c.args.at (Some (whole, c.in-Some.found.at + 2))) (sym c.into_inner.ensures)
    (body_found c.args.reader.now.text.now c.args.at c.args.reader.now.version c.args.room (at_place c.args.reader.now Choreography c.front.ensures c.in-Some.is c.in_ok-found.ensures)
    (c.begins.ensures.0 cc))
