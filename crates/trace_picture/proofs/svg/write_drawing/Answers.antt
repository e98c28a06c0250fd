use Rattle.std.proofs.Common.{arith}
use Rattle.std.proofs.lemmas.Grind.{common_steps}
use Rattle.text_pieces.proofs.KeptFronts.{front_of_front}
use Rattle.trace_picture.specs.Svg.{drawing}
use Rattle.trace_picture.proofs.svg.write_drawing.Goals as goal

pub returns-in_ok-write_words_beside-in-Arrow-clause-ok : goal.returns-in_ok-write_words_beside-in-Arrow-clause-ok
unfolding drawing
returns-in_ok-write_words_beside-in-Arrow-clause-ok c = grind (arith, common_steps)

pub returns-in_ok-write_words_beside-in-Arrow-clause-memory : goal.returns-in_ok-write_words_beside-in-Arrow-clause-memory
returns-in_ok-write_words_beside-in-Arrow-clause-memory c = grind (arith, front_of_front)

pub returns-in_ok-write_sign-in-Mark-clause-ok : goal.returns-in_ok-write_sign-in-Mark-clause-ok
unfolding drawing
returns-in_ok-write_sign-in-Mark-clause-ok c = grind (arith, common_steps)

pub returns-in_ok-write_sign-in-Mark-clause-memory : goal.returns-in_ok-write_sign-in-Mark-clause-memory
returns-in_ok-write_sign-in-Mark-clause-memory c = grind (arith, front_of_front)

pub returns-in_ok-write_paper-in-Band-clause-ok : goal.returns-in_ok-write_paper-in-Band-clause-ok
unfolding drawing
returns-in_ok-write_paper-in-Band-clause-ok c = grind (arith, common_steps)

pub returns-in_ok-write_paper-in-Band-clause-memory : goal.returns-in_ok-write_paper-in-Band-clause-memory
returns-in_ok-write_paper-in-Band-clause-memory c = grind (arith, front_of_front)
