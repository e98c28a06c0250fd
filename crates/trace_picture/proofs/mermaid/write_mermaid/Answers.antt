-- Where memory runs out behind the head and some entries, what stood in front stands there still.
use Rattle.std.proofs.Common.{refl}
use Rattle.text_pieces.proofs.KeptFronts.{front_after, err_front}
use Rattle.trace_picture.proofs.Repeats.{still_front}
use Rattle.trace_picture.proofs.mermaid.write_mermaid.Goals as goal

pub returns-in_err-write_entry-clause-memory : goal.returns-in_err-write_entry-clause-memory
returns-in_err-write_entry-clause-memory c = still_front _ _ _ _ _ refl (front_after _ _ _ _ c.loop-entry.invariant c.in_err-write_entry.ensures.memory)

pub returns-clause-memory : goal.returns-clause-memory
returns-clause-memory c = err_front _ _ _ _ _ refl (err_front _ _ _ _ _ c.loop-entry.invariant c.write_foot.ensures.memory)
