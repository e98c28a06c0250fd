use Rattle.std.proofs.Common.{arith}
use Rattle.std.proofs.lemmas.Grind.{common_steps}
use Rattle.text_pieces.proofs.KeptFronts.{front_of_front}
use Rattle.trace_picture.specs.Mermaid.{arrow_front}
use Rattle.trace_picture.proofs.mermaid.write_arrow.Goals as goal

pub returns-in_err-write_number-clause-memory : goal.returns-in_err-write_number-clause-memory
returns-in_err-write_number-clause-memory c = grind (arith, front_of_front)

pub returns-clause-ok : goal.returns-clause-ok
unfolding arrow_front
returns-clause-ok c = grind (arith, common_steps)

pub returns-clause-memory : goal.returns-clause-memory
returns-clause-memory c = grind (arith, front_of_front)
