use Rattle.std.proofs.Common.{◌∙◌, sym, ap}
use Rattle.aioc_tokens.specs.Lexemes.{Name}
use Rattle.trace_syntax.specs.Reading.{first_auxiliary}
use Rattle.trace_syntax.proofs.Fronts.{no_auxiliary_name, no_auxiliary, auxiliary_found, found_here}
use Rattle.trace_syntax.proofs.parts.auxiliary_at.Goals as goal

pub returns-then-not-has : goal.returns-then-not-has
returns-then-not-has c = no_auxiliary_name _ (λ is. let found = c.has.ensures.value.1 is in let missed = c.if-not-has.true in cc)

pub returns-in-Some : goal.returns-in-Some
returns-in-Some c =
    let word = c.name.result.now in
    found_here c.args.text.now c.args.at first_auxiliary (Name word) c.in-Some.tag c.name.ensures.value (auxiliary_found word c.in-Some.tag _ (sym c.in-Some.ensures))

pub returns-in-None : goal.returns-in-None
returns-in-None c = ap first_auxiliary c.name.ensures.value ∙ no_auxiliary c.name.result.now _ (sym c.in-None.ensures)
