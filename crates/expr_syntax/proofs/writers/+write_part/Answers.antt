use Rattle.std.proofs.Common.{arith}
use Rattle.std.proofs.lemmas.Grind.{common_steps}
use Rattle.text_pieces.proofs.KeptFronts.{front_of_front}
use Rattle.expr_syntax.proofs.writers.+write_part.Goals as goal

pub returns-in_err-write_part-in-Not-clause-memory : goal.returns-in_err-write_part-in-Not-clause-memory
returns-in_err-write_part-in-Not-clause-memory t c = grind (arith, front_of_front)

pub returns-in_ok-write_part-in-Not-clause-ok : goal.returns-in_ok-write_part-in-Not-clause-ok
returns-in_ok-write_part-in-Not-clause-ok t c = grind (arith, common_steps)

pub returns-in_ok-write_part-in-Not-clause-memory : goal.returns-in_ok-write_part-in-Not-clause-memory
returns-in_ok-write_part-in-Not-clause-memory t c = grind (arith, front_of_front)

pub returns-in_err-write_part-in-Neg-clause-memory : goal.returns-in_err-write_part-in-Neg-clause-memory
returns-in_err-write_part-in-Neg-clause-memory t c = grind (arith, front_of_front)

pub returns-in_ok-write_part-in-Neg-clause-ok : goal.returns-in_ok-write_part-in-Neg-clause-ok
returns-in_ok-write_part-in-Neg-clause-ok t c = grind (arith, common_steps)

pub returns-in_ok-write_part-in-Neg-clause-memory : goal.returns-in_ok-write_part-in-Neg-clause-memory
returns-in_ok-write_part-in-Neg-clause-memory t c = grind (arith, front_of_front)

pub returns-in_err-write_part-in-Bin-clause-memory : goal.returns-in_err-write_part-in-Bin-clause-memory
returns-in_err-write_part-in-Bin-clause-memory t c = grind (arith, front_of_front)

pub returns-in_err-write_between-in-Bin-clause-memory : goal.returns-in_err-write_between-in-Bin-clause-memory
returns-in_err-write_between-in-Bin-clause-memory t c = grind (arith, front_of_front)

pub returns-in_err-write_part-in-Bin-2-clause-memory : goal.returns-in_err-write_part-in-Bin-2-clause-memory
returns-in_err-write_part-in-Bin-2-clause-memory t c = grind (arith, front_of_front)

pub returns-in_ok-write_part-in-Bin-2-clause-ok : goal.returns-in_ok-write_part-in-Bin-2-clause-ok
returns-in_ok-write_part-in-Bin-2-clause-ok t c = grind (arith, common_steps)

pub returns-in_ok-write_part-in-Bin-2-clause-memory : goal.returns-in_ok-write_part-in-Bin-2-clause-memory
returns-in_ok-write_part-in-Bin-2-clause-memory t c = grind (arith, front_of_front)
