-- Where memory runs out behind what was written before, what stood in front stands there still.
use Rattle.std.proofs.Common.{arith}
use Rattle.std.proofs.lemmas.Grind.{common_steps}
use Rattle.text_pieces.proofs.KeptFronts.{err_front, front_after}
use Rattle.trace_picture.proofs.Repeats.{still_front}
use Rattle.trace_picture.specs.Svg.{name_box}
use Rattle.trace_picture.proofs.svg.write_box.Goals as goal

pub returns-in_err-write_rectangle-clause-memory : goal.returns-in_err-write_rectangle-clause-memory
returns-in_err-write_rectangle-clause-memory c = still_front _ _ _ _ _ c.in_ok-write_title.ensures.ok c.in_err-write_rectangle.ensures.memory

pub returns-in_err-write_words-clause-memory : goal.returns-in_err-write_words-clause-memory
returns-in_err-write_words-clause-memory c = still_front _ _ _ _ _ c.in_ok-write_title.ensures.ok (front_after _ _ _ _ c.in_ok-write_rectangle.ensures.ok c.in_err-write_words.ensures.memory)

pub returns-clause-memory : goal.returns-clause-memory
returns-clause-memory c = err_front _ _ _ _ _ c.in_ok-write_title.ensures.ok (err_front _ _ _ _ _ c.in_ok-write_rectangle.ensures.ok (err_front _ _ _ _ _ c.in_ok-write_words.ensures.ok c.write_bytes.ensures.memory))

pub returns-clause-ok : goal.returns-clause-ok
unfolding name_box
returns-clause-ok c = grind (arith, common_steps)
