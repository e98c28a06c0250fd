use Rattle.dioc_terms.specs.Plain.{plain}
use Rattle.text_pieces.proofs.KeptFronts.{whole_text}
use Rattle.bundle_text.proofs.Spells.{text_is}
use Rattle.bundle_text.proofs.writer.write_bundle.Goals as goal

pub returns-clause-ok : goal.returns-clause-ok
returns-clause-ok c =
    whole_text _ c.cut_back.result c.args.out.now.items c.write_pieces-written.new.out.items c.cut_back.new.out.items _ _ c.cut_back.ensures.answer (text_is (plain c.args.bundle.now)) c.write_pieces-written.ensures.ok c.cut_back.ensures.ok
