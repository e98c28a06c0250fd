use Rattle.std.proofs.Common.{◌∙◌, sym, ap, refl}
use Rattle.aioc_tokens.specs.declared.words.Word.TheVariants as word
use Rattle.aioc_tokens.specs.Lexemes.{Name, Reserved}
use Rattle.aioc_tokens.proofs.Places.{reserved_at}
use Rattle.trace_syntax.specs.Reading.{first_input, first_scope, line_behind, first_line}
use Rattle.trace_syntax.proofs.Fronts.{named_line, no_line_word, input_line, scope_line, no_line, found_behind}
use Rattle.trace_syntax.proofs.entries.line_at.Goals as goal

pub returns-in-Some : goal.returns-in-Some
returns-in-Some c =
    let first = c.name.result.now in
    found_behind c.args.text.now c.args.at first_line (line_behind c.in-Some.word) (Name first) c.line_behind.result c.name.ensures.value (named_line first c.in-Some.word _ (sym c.in-Some.ensures)) c.line_behind.ensures

pub returns-in-None : goal.returns-in-None
returns-in-None c = ap first_line c.name.ensures.value ∙ no_line_word c.name.result.now _ (sym c.in-None.ensures)

pub returns-then-has-2 : goal.returns-then-has-2
returns-then-has-2 c =
    found_behind c.args.text.now c.args.at first_line first_input (Reserved word.Input) c.input_at.result
    (reserved_at c.args.text.now c.args.at word.Input word.Input (sym (c.has-2.ensures.value.0 cc)) refl) (input_line _) c.input_at.ensures

pub returns-then-has-3 : goal.returns-then-has-3
returns-then-has-3 c =
    found_behind c.args.text.now c.args.at first_line first_scope (Reserved word.Scope) c.scope_at.result
    (reserved_at c.args.text.now c.args.at word.Scope word.Scope (sym (c.has-3.ensures.value.0 cc)) refl) (scope_line _) c.scope_at.ensures

pub returns : goal.returns
returns c =
    no_line _ (λ is. let found = c.has.ensures.value.1 is in let missed = c.if-has.false in cc) (λ is. let found = c.has-2.ensures.value.1 is in let missed = c.if-has-2.false in cc)
    (λ is. let found = c.has-3.ensures.value.1 is in let missed = c.if-has-3.false in cc)
