use Rattle.std.proofs.Common.{sym}
use Rattle.aioc_tokens.proofs.Symbols.{lone_at, none_at}
use Rattle.aioc_tokens.proofs.packed.lone_symbol.Goals as goal

pub returns-in-Some : goal.returns-in-Some
returns-in-Some c = lone_at c.args.text.now c.requires.no_comment c.in-Some.punctuator c.requires.some c.requires.no_pair (sym c.in-Some.ensures)

pub returns-in-None : goal.returns-in-None
returns-in-None c = none_at c.args.text.now c.requires.some c.requires.no_pair (sym c.in-None.ensures)
