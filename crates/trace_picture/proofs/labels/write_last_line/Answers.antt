-- Where memory runs out behind what was written before, what stood in front stands there still.
use Rattle.text_pieces.proofs.KeptFronts.{err_front}
use Rattle.trace_picture.proofs.labels.write_last_line.Goals as goal

pub returns-clause-memory : goal.returns-clause-memory
returns-clause-memory c = err_front _ _ _ _ _ c.in_ok-write_last.ensures.ok c.write_bytes.ensures.memory
