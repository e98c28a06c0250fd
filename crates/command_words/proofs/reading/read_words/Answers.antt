use Rattle.command_words.proofs.Grammars.{is_grammar}
use Rattle.command_words.proofs.reading.read_words.Goals as goal

pub returns-in_err-texts-clause-grammar : goal.returns-in_err-texts-clause-grammar
returns-in_err-texts-clause-grammar c = is_grammar

pub returns-in-Some-clause-grammar : goal.returns-in-Some-clause-grammar
returns-in-Some-clause-grammar c = is_grammar

pub returns-in-None-clause-grammar : goal.returns-in-None-clause-grammar
returns-in-None-clause-grammar c = is_grammar
