use Rattle.std.proofs.Common.{refl}
use Rattle.text_pieces.proofs.KeptFronts.{whole_text}
use Rattle.trace_text.proofs.lines.write_line.Goals as goal

pub returns-clause-ok : goal.returns-clause-ok
returns-clause-ok c =
    whole_text _ c.cut_back.result c.args.out.now.items c.write_entry-written.new.out.items c.cut_back.new.out.items _ _
    c.cut_back.ensures.answer refl c.write_entry-written.ensures.ok c.cut_back.ensures.ok
