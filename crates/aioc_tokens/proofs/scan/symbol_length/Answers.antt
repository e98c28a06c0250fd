use Rattle.std.proofs.lemmas.Bool.{both_ways}
use Rattle.aioc_tokens.proofs.Symbols.{two_longest, one_longest, no_symbol}
use Rattle.aioc_tokens.proofs.scan.symbol_length.Goals as goal

pub returns-then-is_symbol : goal.returns-then-is_symbol
returns-then-is_symbol c = two_longest c.args.text.now (c.is_symbol.ensures.0 c.if-is_symbol.true) c.requires

pub returns-then-is_symbol-2 : goal.returns-then-is_symbol-2
returns-then-is_symbol-2 c =
    one_longest c.args.text.now (c.is_symbol-else-is_symbol.ensures.0 c.if-is_symbol-2.true) (λ two. both_ways _ c.if-is_symbol.false (c.is_symbol.ensures.1 two)) c.requires

pub returns-else-is_symbol-2 : goal.returns-else-is_symbol-2
returns-else-is_symbol-2 c =
    no_symbol c.args.text.now (λ one. both_ways _ c.if-is_symbol-2.false (c.is_symbol-else-is_symbol.ensures.1 one)) (λ two. both_ways _ c.if-is_symbol.false (c.is_symbol.ensures.1 two))
