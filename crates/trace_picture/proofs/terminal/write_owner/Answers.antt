use Rattle.std.proofs.Common.{arith}
use Rattle.std.proofs.lemmas.Grind.{common_steps}
use Rattle.text_pieces.proofs.KeptFronts.{front_of_front}
use Rattle.trace_picture.specs.Terminal.{owner_text}
use Rattle.trace_picture.proofs.terminal.write_owner.Goals as goal

pub returns-in_err-write_bytes-in-Arrow-clause-memory : goal.returns-in_err-write_bytes-in-Arrow-clause-memory
returns-in_err-write_bytes-in-Arrow-clause-memory c = grind (arith, front_of_front)

pub returns-in_err-write_number-in-Arrow-2-clause-memory : goal.returns-in_err-write_number-in-Arrow-2-clause-memory
returns-in_err-write_number-in-Arrow-2-clause-memory c = grind (arith, front_of_front)

pub returns-in_ok-write_number-in-Arrow-2-clause-ok : goal.returns-in_ok-write_number-in-Arrow-2-clause-ok
unfolding owner_text
returns-in_ok-write_number-in-Arrow-2-clause-ok c = grind (arith, common_steps)

pub returns-in_ok-write_number-in-Arrow-2-clause-memory : goal.returns-in_ok-write_number-in-Arrow-2-clause-memory
returns-in_ok-write_number-in-Arrow-2-clause-memory c = grind (arith, front_of_front)

pub returns-in_ok-write_number-in-Mark-clause-ok : goal.returns-in_ok-write_number-in-Mark-clause-ok
unfolding owner_text
returns-in_ok-write_number-in-Mark-clause-ok c = grind (arith, common_steps)

pub returns-in_ok-write_number-in-Mark-clause-memory : goal.returns-in_ok-write_number-in-Mark-clause-memory
returns-in_ok-write_number-in-Mark-clause-memory c = grind (arith, front_of_front)
