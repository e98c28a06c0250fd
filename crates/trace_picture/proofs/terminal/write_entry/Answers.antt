-- Where memory runs out behind what was written before, what stood in front stands there still.
use Rattle.std.proofs.Common.{arith}
use Rattle.std.proofs.lemmas.Grind.{common_steps}
use Rattle.text_pieces.proofs.KeptFronts.{err_front}
use Rattle.trace_picture.specs.Terminal.{entry_row}
use Rattle.trace_picture.proofs.terminal.write_entry.Goals as goal

pub returns-clause-memory : goal.returns-clause-memory
returns-clause-memory c = err_front _ _ _ _ _ c.in_ok-write_cells.ensures.ok c.write_beside.ensures.memory

pub returns-clause-ok : goal.returns-clause-ok
unfolding entry_row
returns-clause-ok c = grind (arith, common_steps)
