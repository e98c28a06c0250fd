use Rattle.aioc_tokens.specs.Lexemes.{Name}
use Rattle.trace_syntax.specs.Reading.{first_name}
use Rattle.trace_syntax.proofs.Fronts.{name_found, no_name, found_here}
use Rattle.trace_syntax.proofs.parts.name_at.Goals as goal

pub returns-then-not-has : goal.returns-then-not-has
returns-then-not-has c = no_name _ (λ is. let found = c.has.ensures.value.1 is in let missed = c.if-not-has.true in cc)

pub returns : goal.returns
returns c =
    let name = c.in_ok-name.name in
    found_here c.args.text.now c.args.at first_name (Name name) name c.in_ok-name.ensures.value (name_found name _)
