use Rattle.diagnostics.specs.Traces.{IsReplayed}
use Rattle.diagnostics.proofs.Sound.{spells_none, sound_of, syntax_tells, holds_anyway, unsound_place}
use Rattle.diagnostics.proofs.examining.examine_trace.Goals as goal

-- a text that spells nothing is not sound
pub returns-in-Err-Syntax-clause-told : goal.returns-in-Err-Syntax-clause-told
returns-in-Err-Syntax-clause-told c =
    holds_anyway (IsReplayed c.args.bytes.now → ⊥) c.told.result c.told.ensures
    (λ r. spells_none c.args.bytes.now (syntax_tells c.in-Err-Syntax.field-0 c.in-Err-Syntax.byte c.in-Err-Syntax.field-0-is c.in-Err-Syntax.ensures.syntax) (sound_of c.args.bytes.now r))

pub returns-in-Err-Syntax-clause-place : goal.returns-in-Err-Syntax-clause-place
returns-in-Err-Syntax-clause-place c =
    unsound_place c.args.bytes.now c.told.result c.told.ensures
    (spells_none c.args.bytes.now (syntax_tells c.in-Err-Syntax.field-0 c.in-Err-Syntax.byte c.in-Err-Syntax.field-0-is c.in-Err-Syntax.ensures.syntax))
