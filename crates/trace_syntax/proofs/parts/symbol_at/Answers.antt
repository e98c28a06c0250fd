use Rattle.std.proofs.Common.{sym, refl}
use Rattle.aioc_tokens.specs.Lexemes.{Symbol}
use Rattle.aioc_tokens.proofs.Places.{symbol_at}
use Rattle.trace_syntax.specs.Reading.{behind_symbol}
use Rattle.trace_syntax.proofs.Fronts.{symbol_passed, no_symbol, passed_here}
use Rattle.trace_syntax.proofs.parts.symbol_at.Goals as goal

pub returns-then-has : goal.returns-then-has
returns-then-has c =
    let sign = c.args.symbol in
    let here = symbol_at c.args.text.now c.args.at sign sign (sym (c.has.ensures.value.0 cc)) refl in
    passed_here c.args.text.now c.args.at (behind_symbol sign) (Symbol sign) here (symbol_passed sign _)

pub returns-else-has : goal.returns-else-has
returns-else-has c = no_symbol c.args.symbol _ (λ is. let found = c.has.ensures.value.1 is in let missed = c.if-has.false in cc)
