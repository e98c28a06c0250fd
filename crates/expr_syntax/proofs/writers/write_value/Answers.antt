use Rattle.dioc_terms.specs.Expressions.{Const}
use Rattle.text_pieces.proofs.KeptFronts.{whole_text}
use Rattle.expr_syntax.proofs.Spells.{text_spelled}
use Rattle.expr_syntax.proofs.writers.write_value.Goals as goal

pub returns-clause-ok : goal.returns-clause-ok
returns-clause-ok c =
    whole_text _ c.cut_back.result c.args.out.now.items c.write_value-written.new.out.items c.cut_back.new.out.items _ _
    c.cut_back.ensures.answer (text_spelled (Const c.args.value.now)) c.write_value-written.ensures.ok c.cut_back.ensures.ok
