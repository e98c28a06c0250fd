use Rattle.trace_syntax.proofs.Fronts.{no_number, great_number, number_here}
use Rattle.trace_syntax.proofs.parts.number_at.Goals as goal

pub returns-then-not-has-clause-value : goal.returns-then-not-has-clause-value
returns-then-not-has-clause-value c = no_number c.args.most _ (λ is. let found = c.has.ensures.value.1 is in let missed = c.if-not-has.true in cc)

pub returns-in-Some-clause-value : goal.returns-in-Some-clause-value
returns-in-Some-clause-value c = number_here c.args.text.now c.args.at c.args.most c.in-Some.number (c.has.ensures.value.0 cc) c.in-Some.ensures

pub returns-in-None-clause-value : goal.returns-in-None-clause-value
returns-in-None-clause-value c = great_number c.args.most _ c.in-None.ensures
