use Rattle.rule_syntax.proofs.RoundTrip.{written_lexemes}
use Rattle.rule_syntax.proofs.laws.written_is_spelled.Goals as goal

pub returns : goal.returns
returns c = written_lexemes
