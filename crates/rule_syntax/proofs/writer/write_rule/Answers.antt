use Rattle.dioc_terms.specs.Plain.{plain_rule}
use Rattle.text_pieces.proofs.KeptFronts.{whole_text}
use Rattle.rule_syntax.proofs.Spells.{text_spelled}
use Rattle.rule_syntax.proofs.writer.write_rule.Goals as goal

pub returns-clause-ok : goal.returns-clause-ok
returns-clause-ok c =
    whole_text _ c.cut_back.result c.args.out.now.items c.write_parts.new.out.items c.cut_back.new.out.items _ _
    c.cut_back.ensures.answer (text_spelled (plain_rule c.args.rule.now)) c.write_parts.ensures.ok c.cut_back.ensures.ok
