use Rattle.diagnostics.specs.Verdicts.{IsSound}
use Rattle.diagnostics.proofs.Sound.{spells_none, syntax_tells, holds_anyway}
use Rattle.diagnostics.proofs.examining.examine.Goals as goal

-- a text that spells nothing is not sound
pub returns-in-Err-Syntax-clause-told : goal.returns-in-Err-Syntax-clause-told
returns-in-Err-Syntax-clause-told c =
    holds_anyway (IsSound c.args.bytes.now → ⊥) c.told.result c.told.ensures
    (spells_none c.args.bytes.now (syntax_tells c.in-Err-Syntax.field-0 c.in-Err-Syntax.byte c.in-Err-Syntax.field-0-is c.in-Err-Syntax.ensures.syntax))
