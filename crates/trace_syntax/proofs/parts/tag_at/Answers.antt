use Rattle.aioc_tokens.specs.declared.words.Punctuator.TheVariants as punctuator
use Rattle.aioc_tokens.specs.Lexemes.{Symbol}
use Rattle.aioc_tokens.proofs.Places.{symbol_at}
use Rattle.trace_syntax.specs.Reading.{first_auxiliary, first_tag}
use Rattle.trace_syntax.proofs.Fronts.{bang_found, found_behind}
use Rattle.trace_syntax.proofs.parts.tag_at.Goals as goal

pub returns-in-Symbol-Bang : goal.returns-in-Symbol-Bang
returns-in-Symbol-Bang c =
    let here = c.in-Symbol-Bang in
    found_behind c.args.text.now c.args.at first_tag first_auxiliary (Symbol punctuator.Bang) c.auxiliary_at.result
    (symbol_at c.args.text.now c.args.at here.field-0 punctuator.Bang here.ensures.value here.field-0-is) (bang_found _) c.auxiliary_at.ensures
