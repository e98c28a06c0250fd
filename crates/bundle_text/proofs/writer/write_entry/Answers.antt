use Rattle.text_pieces.proofs.KeptFronts.{err_front}
use Rattle.bundle_text.proofs.writer.write_entry.Goals as goal

pub returns-clause-memory : goal.returns-clause-memory
returns-clause-memory c = err_front _ _ _ c.write_bytes.result c.write_bytes.new.out.items c.in_ok-write_line.ensures.ok c.write_bytes.ensures.memory
