use Rattle.std.proofs.Common.{arith, subst, sym}
use Rattle.aioc_tokens.proofs.Symbols.{FoundIn, longest_at, short_for_pair}
use Rattle.aioc_tokens.proofs.packed.symbol_at.Goals as goal

pub lone_symbol-requires-clause-no_pair : goal.lone_symbol-requires-clause-no_pair
lone_symbol-requires-clause-no_pair c = short_for_pair c.args.text.now (omega arith)

pub returns : goal.returns
returns c = subst (FoundIn c.args.text.now) (sym c.longest_symbol.ensures) (longest_at c.args.text.now c.requires.no_comment (omega arith))
