-- Where memory runs out behind what was written before, what stood in front stands there still.
use Rattle.std.proofs.Common.{arith}
use Rattle.std.proofs.lemmas.Grind.{common_steps}
use Rattle.text_pieces.proofs.KeptFronts.{err_front, front_after}
use Rattle.trace_picture.proofs.Repeats.{still_front}
use Rattle.trace_picture.proofs.labels.write_binding.Goals as goal

pub returns-in_err-write_bytes-2-clause-memory : goal.returns-in_err-write_bytes-2-clause-memory
returns-in_err-write_bytes-2-clause-memory c = still_front _ _ _ _ _ c.in_ok-write_bytes.ensures.ok c.in_err-write_bytes-2.ensures.memory

pub returns-in_err-write_bytes-3-clause-memory : goal.returns-in_err-write_bytes-3-clause-memory
returns-in_err-write_bytes-3-clause-memory c = still_front _ _ _ _ _ c.in_ok-write_bytes.ensures.ok (front_after _ _ _ _ c.in_ok-write_bytes-2.ensures.ok c.in_err-write_bytes-3.ensures.memory)

pub returns-clause-memory : goal.returns-clause-memory
returns-clause-memory c = err_front _ _ _ _ _ c.in_ok-write_bytes.ensures.ok (err_front _ _ _ _ _ c.in_ok-write_bytes-2.ensures.ok (err_front _ _ _ _ _ c.in_ok-write_bytes-3.ensures.ok c.write_value.ensures.memory))

pub returns-clause-ok : goal.returns-clause-ok
returns-clause-ok c = grind (arith, common_steps)
