use Rattle.std.proofs.Common.{rules}
use Rattle.dioc_terms.specs.Expressions.{expression}
use Rattle.text_pieces.proofs.KeptFronts.{whole_text}
use Rattle.expr_syntax.proofs.Spells.{text_spelled}
use Rattle.expr_syntax.proofs.writers.write_expr.Goals as goal

pub returns-clause-ok : goal.returns-clause-ok
returns-clause-ok c =
    whole_text _ c.cut_back.result c.args.out.now.items c.write_part-written.new.out.items c.cut_back.new.out.items _ _
    c.cut_back.ensures.answer (text_spelled (expression c.args.expr.now)) c.write_part-written.ensures.ok c.cut_back.ensures.ok

pub returns-clause-memory : goal.returns-clause-memory
returns-clause-memory c = search rules depth 2
