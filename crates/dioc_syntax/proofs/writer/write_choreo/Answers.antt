use Rattle.dioc_terms.specs.Terms.{term}
use Rattle.text_pieces.proofs.KeptFronts.{whole_text}
use Rattle.dioc_syntax.proofs.Spells.{text_spelled}
use Rattle.dioc_syntax.proofs.writer.write_choreo.Goals as goal

pub returns-clause-ok : goal.returns-clause-ok
returns-clause-ok c =
    whole_text _ c.cut_back.result c.args.out.now.items c.write_part-written.new.out.items c.cut_back.new.out.items _ _
    c.cut_back.ensures.answer (text_spelled (term c.args.choreo.now)) c.write_part-written.ensures.ok c.cut_back.ensures.ok
