use Rattle.wanted_tokens.proofs.expressions.joined.Goals as goal

pub returns-in-Condition : goal.returns-in-Condition
returns-in-Condition c = cc
