use Rattle.std.proofs.Common.{drop, subst, rules}
use Rattle.std.specs.Option.{option_map}
use Rattle.aioc_tokens.specs.Fronts.{NoFront}
use Rattle.rule_syntax.specs.Grammar.{IsRule}
use Rattle.rule_syntax.specs.Readers.{RuleAt, rule_seen}
use Rattle.rule_syntax.proofs.rules.read_rule.Goals as goal

pub returns-in-None-clause-syntax : goal.returns-in-None-clause-syntax
returns-in-None-clause-syntax c = λ byte is.
    subst (λ list. NoFront (IsRule c.args.version 512 (drop c.args.at list))) c.new-text.ensures (subst (λ found. RuleAt c.args.version 512 c.new-text.result c.args.at (option_map rule_seen found)) c.in-None.is c.in_ok-read.ensures)

pub returns-in-None-clause-place : goal.returns-in-None-clause-place
returns-in-None-clause-place c = search rules depth 2
