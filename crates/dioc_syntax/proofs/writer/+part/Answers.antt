use Rattle.std.proofs.Common.{arith}
use Rattle.std.proofs.lemmas.Grind.{common_steps}
use Rattle.text_pieces.proofs.KeptFronts.{front_of_front}
use Rattle.dioc_syntax.proofs.writer.+part.Goals as goal

pub write_before-returns-clause-ok : goal.write_before-returns-clause-ok
write_before-returns-clause-ok t c = grind (arith, common_steps)

pub write_before-returns-clause-memory : goal.write_before-returns-clause-memory
write_before-returns-clause-memory t c = grind (arith, front_of_front)

pub write_part-returns-in-Skip-clause-ok : goal.write_part-returns-in-Skip-clause-ok
write_part-returns-in-Skip-clause-ok t c = grind (arith, common_steps)

pub write_part-returns-in-Skip-2-clause-ok : goal.write_part-returns-in-Skip-2-clause-ok
write_part-returns-in-Skip-2-clause-ok t c = grind (arith, common_steps)

pub write_part-returns-in-Skip-3-clause-ok : goal.write_part-returns-in-Skip-3-clause-ok
write_part-returns-in-Skip-3-clause-ok t c = grind (arith, common_steps)

pub write_part-returns-in-Skip-4-clause-ok : goal.write_part-returns-in-Skip-4-clause-ok
write_part-returns-in-Skip-4-clause-ok t c = grind (arith, common_steps)

pub write_part-returns-in-While-clause-ok : goal.write_part-returns-in-While-clause-ok
write_part-returns-in-While-clause-ok t c = grind (arith, common_steps)

pub write_part-returns-in-While-clause-memory : goal.write_part-returns-in-While-clause-memory
write_part-returns-in-While-clause-memory t c = grind (arith, front_of_front)

pub write_part-returns-in_err-write_before-in-If-clause-memory : goal.write_part-returns-in_err-write_before-in-If-clause-memory
write_part-returns-in_err-write_before-in-If-clause-memory t c = grind (arith, front_of_front)

pub write_part-returns-in_ok-write_before-in-If-clause-ok : goal.write_part-returns-in_ok-write_before-in-If-clause-ok
write_part-returns-in_ok-write_before-in-If-clause-ok t c = grind (arith, common_steps)

pub write_part-returns-in_ok-write_before-in-If-clause-memory : goal.write_part-returns-in_ok-write_before-in-If-clause-memory
write_part-returns-in_ok-write_before-in-If-clause-memory t c = grind (arith, front_of_front)

pub write_part-returns-in_err-write_part-in-Seq-clause-memory : goal.write_part-returns-in_err-write_part-in-Seq-clause-memory
write_part-returns-in_err-write_part-in-Seq-clause-memory t c = grind (arith, front_of_front)

pub write_part-returns-in_err-write_between-in-Seq-clause-memory : goal.write_part-returns-in_err-write_between-in-Seq-clause-memory
write_part-returns-in_err-write_between-in-Seq-clause-memory t c = grind (arith, front_of_front)

pub write_part-returns-in_ok-write_between-in-Seq-clause-ok : goal.write_part-returns-in_ok-write_between-in-Seq-clause-ok
write_part-returns-in_ok-write_between-in-Seq-clause-ok t c = grind (arith, common_steps)

pub write_part-returns-in_ok-write_between-in-Seq-clause-memory : goal.write_part-returns-in_ok-write_between-in-Seq-clause-memory
write_part-returns-in_ok-write_between-in-Seq-clause-memory t c = grind (arith, front_of_front)

pub write_part-returns-in_err-write_part-in-Par-clause-memory : goal.write_part-returns-in_err-write_part-in-Par-clause-memory
write_part-returns-in_err-write_part-in-Par-clause-memory t c = grind (arith, front_of_front)

pub write_part-returns-in_err-write_between-in-Par-clause-memory : goal.write_part-returns-in_err-write_between-in-Par-clause-memory
write_part-returns-in_err-write_between-in-Par-clause-memory t c = grind (arith, front_of_front)

pub write_part-returns-in_ok-write_between-in-Par-clause-ok : goal.write_part-returns-in_ok-write_between-in-Par-clause-ok
write_part-returns-in_ok-write_between-in-Par-clause-ok t c = grind (arith, common_steps)

pub write_part-returns-in_ok-write_between-in-Par-clause-memory : goal.write_part-returns-in_ok-write_between-in-Par-clause-memory
write_part-returns-in_ok-write_between-in-Par-clause-memory t c = grind (arith, front_of_front)

pub write_part-returns-in_err-write_before-in-Scope-clause-memory : goal.write_part-returns-in_err-write_before-in-Scope-clause-memory
write_part-returns-in_err-write_before-in-Scope-clause-memory t c = grind (arith, front_of_front)

pub write_part-returns-in_err-write_roles-in-Scope-clause-memory : goal.write_part-returns-in_err-write_roles-in-Scope-clause-memory
write_part-returns-in_err-write_roles-in-Scope-clause-memory t c = grind (arith, front_of_front)

pub write_part-returns-in_ok-write_roles-in-Scope-clause-ok : goal.write_part-returns-in_ok-write_roles-in-Scope-clause-ok
write_part-returns-in_ok-write_roles-in-Scope-clause-ok t c = grind (arith, common_steps)

pub write_part-returns-in_ok-write_roles-in-Scope-clause-memory : goal.write_part-returns-in_ok-write_roles-in-Scope-clause-memory
write_part-returns-in_ok-write_roles-in-Scope-clause-memory t c = grind (arith, front_of_front)
