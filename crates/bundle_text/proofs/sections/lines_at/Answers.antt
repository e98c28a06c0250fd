use Rattle.std.proofs.Common.{Err, refl, ap, ◌∙◌}
use Rattle.bundle_text.proofs.Found.{lines_taken, lines_untaken}
use Rattle.bundle_text.proofs.sections.lines_at.Goals as goal

pub returns-in-Ok-clause-found : goal.returns-in-Ok-clause-found
returns-in-Ok-clause-found c = lines_taken c.args.text.now c.args.at 1 c.in-Ok.trace c.in-Ok.closes c.in-Ok.ensures.found c.in-Ok.ensures.within.0 c.in-Ok.ensures.within.1

pub returns-in-Err-BadLine-clause-stopped : goal.returns-in-Err-BadLine-clause-stopped
returns-in-Err-BadLine-clause-stopped c = λ told. (refl, lines_untaken c.args.text.now c.args.at 1 _ (c.trace_at.ensures.bad _ (c.in-Err-BadLine.is ∙ ap Err c.in-Err-BadLine.field-0-is)))
