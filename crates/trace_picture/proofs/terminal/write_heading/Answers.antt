-- Where memory runs out behind what was written before, what stood in front stands there still.
use Rattle.std.proofs.Common.{arith}
use Rattle.std.proofs.lemmas.Grind.{common_steps}
use Rattle.text_pieces.proofs.KeptFronts.{err_front}
use Rattle.trace_picture.proofs.Repeats.{still_front}
use Rattle.trace_picture.specs.Terminal.{heading}
use Rattle.trace_picture.proofs.terminal.write_heading.Goals as goal

pub returns-in_err-write_bytes-clause-memory : goal.returns-in_err-write_bytes-clause-memory
returns-in_err-write_bytes-clause-memory c = still_front _ _ _ _ _ c.in_ok-write_repeated.ensures.ok c.in_err-write_bytes.ensures.memory

pub returns-clause-memory : goal.returns-clause-memory
returns-clause-memory c = err_front _ _ _ _ _ c.in_ok-write_repeated.ensures.ok (err_front _ _ _ _ _ c.in_ok-write_bytes.ensures.ok c.write_repeated-2.ensures.memory)

pub returns-clause-ok : goal.returns-clause-ok
unfolding heading
returns-clause-ok c = grind (arith, common_steps)
