use Rattle.std.proofs.Common.{ap, sym, ◌∙◌, is_some}
use Rattle.aioc_tokens.proofs.Symbols.{symbol_found, symbol_in_table}
use Rattle.aioc_tokens.proofs.scan.is_symbol.Goals as goal

pub returns-then-count-text : goal.returns-then-count-text
returns-then-count-text c =
    let same = c.is_some.ensures ∙ ap is_some c.find_punctuator.ensures in
    (λ found. symbol_found c.args.text.now c.args.count c.if-count-text.true (sym same ∙ found), λ front. same ∙ symbol_in_table c.args.text.now c.args.count front)
