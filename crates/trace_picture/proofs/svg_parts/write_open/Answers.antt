use Rattle.std.proofs.Common.{arith}
use Rattle.std.proofs.lemmas.Grind.{common_steps}
use Rattle.text_pieces.proofs.KeptFronts.{front_of_front}
use Rattle.trace_picture.specs.Svg.{svg_open}
use Rattle.trace_picture.proofs.svg_parts.write_open.Goals as goal

pub returns-in_err-write_bytes-clause-memory : goal.returns-in_err-write_bytes-clause-memory
returns-in_err-write_bytes-clause-memory c = grind (arith, front_of_front)

pub returns-in_err-write_bytes-2-clause-memory : goal.returns-in_err-write_bytes-2-clause-memory
returns-in_err-write_bytes-2-clause-memory c = grind (arith, front_of_front)

pub returns-in_err-write_bytes-3-clause-memory : goal.returns-in_err-write_bytes-3-clause-memory
returns-in_err-write_bytes-3-clause-memory c = grind (arith, front_of_front)

pub returns-clause-ok : goal.returns-clause-ok
unfolding svg_open
returns-clause-ok c = grind (arith, common_steps)

pub returns-clause-memory : goal.returns-clause-memory
returns-clause-memory c = grind (arith, front_of_front)
