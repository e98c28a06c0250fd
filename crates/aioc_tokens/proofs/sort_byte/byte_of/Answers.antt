use Rattle.std.proofs.Common.{sym, ◌∙◌}
use Rattle.aioc_tokens.proofs.SortPlaces.{word_at, punctuator_at}
use Rattle.aioc_tokens.proofs.sort_byte.byte_of.Goals as goal

pub returns-in-Reserved-clause-value : goal.returns-in-Reserved-clause-value
returns-in-Reserved-clause-value c = word_at c.in-Reserved.word ∙ sym c.in-Reserved.is

pub returns-in-Symbol-clause-value : goal.returns-in-Symbol-clause-value
returns-in-Symbol-clause-value c = punctuator_at c.in-Symbol.punctuator ∙ sym c.in-Symbol.is
