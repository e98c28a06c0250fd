use Rattle.std.proofs.Common.{arith}
use Rattle.std.proofs.lemmas.Grind.{common_steps}
use Rattle.text_pieces.proofs.KeptFronts.{front_of_front}
use Rattle.trace_text.proofs.processes.+part.Goals as goal

pub write_before-returns-clause-memory : goal.write_before-returns-clause-memory
write_before-returns-clause-memory t c = grind (arith, front_of_front)

pub write_before-returns-clause-ok : goal.write_before-returns-clause-ok
write_before-returns-clause-ok t c = grind (arith, common_steps)

pub write_before-returns-in_err-write_part-clause-memory : goal.write_before-returns-in_err-write_part-clause-memory
write_before-returns-in_err-write_part-clause-memory t c = grind (arith, front_of_front)

pub write_part-returns-in_default-clause-ok : goal.write_part-returns-in_default-clause-ok
write_part-returns-in_default-clause-ok t c = grind (arith, common_steps)

pub write_part-returns-in_err-write_before-in-IfLead-clause-memory : goal.write_part-returns-in_err-write_before-in-IfLead-clause-memory
write_part-returns-in_err-write_before-in-IfLead-clause-memory t c = grind (arith, front_of_front)

pub write_part-returns-in_err-write_before-in-Par-clause-memory : goal.write_part-returns-in_err-write_before-in-Par-clause-memory
write_part-returns-in_err-write_before-in-Par-clause-memory t c = grind (arith, front_of_front)

pub write_part-returns-in_err-write_before-in-Seq-clause-memory : goal.write_part-returns-in_err-write_before-in-Seq-clause-memory
write_part-returns-in_err-write_before-in-Seq-clause-memory t c = grind (arith, front_of_front)

pub write_part-returns-in_err-write_bytes-in-IfLead-clause-memory : goal.write_part-returns-in_err-write_bytes-in-IfLead-clause-memory
write_part-returns-in_err-write_bytes-in-IfLead-clause-memory t c = grind (arith, front_of_front)

pub write_part-returns-in_err-write_bytes-in-WhileLead-clause-memory : goal.write_part-returns-in_err-write_bytes-in-WhileLead-clause-memory
write_part-returns-in_err-write_bytes-in-WhileLead-clause-memory t c = grind (arith, front_of_front)

pub write_part-returns-in_err-write_head-clause-memory : goal.write_part-returns-in_err-write_head-clause-memory
write_part-returns-in_err-write_head-clause-memory t c = grind (arith, front_of_front)

pub write_part-returns-in_ok-write_before-in-IfLead-clause-memory : goal.write_part-returns-in_ok-write_before-in-IfLead-clause-memory
write_part-returns-in_ok-write_before-in-IfLead-clause-memory t c = grind (arith, front_of_front)

pub write_part-returns-in_ok-write_before-in-IfLead-clause-ok : goal.write_part-returns-in_ok-write_before-in-IfLead-clause-ok
write_part-returns-in_ok-write_before-in-IfLead-clause-ok t c = grind (arith, common_steps)

pub write_part-returns-in_ok-write_before-in-Par-clause-memory : goal.write_part-returns-in_ok-write_before-in-Par-clause-memory
write_part-returns-in_ok-write_before-in-Par-clause-memory t c = grind (arith, front_of_front)

pub write_part-returns-in_ok-write_before-in-Par-clause-ok : goal.write_part-returns-in_ok-write_before-in-Par-clause-ok
write_part-returns-in_ok-write_before-in-Par-clause-ok t c = grind (arith, common_steps)

pub write_part-returns-in_ok-write_before-in-Seq-clause-memory : goal.write_part-returns-in_ok-write_before-in-Seq-clause-memory
write_part-returns-in_ok-write_before-in-Seq-clause-memory t c = grind (arith, front_of_front)

pub write_part-returns-in_ok-write_before-in-Seq-clause-ok : goal.write_part-returns-in_ok-write_before-in-Seq-clause-ok
write_part-returns-in_ok-write_before-in-Seq-clause-ok t c = grind (arith, common_steps)

pub write_part-returns-in_ok-write_bytes-in-WhileLead-clause-memory : goal.write_part-returns-in_ok-write_bytes-in-WhileLead-clause-memory
write_part-returns-in_ok-write_bytes-in-WhileLead-clause-memory t c = grind (arith, front_of_front)

pub write_part-returns-in_ok-write_bytes-in-WhileLead-clause-ok : goal.write_part-returns-in_ok-write_bytes-in-WhileLead-clause-ok
write_part-returns-in_ok-write_bytes-in-WhileLead-clause-ok t c = grind (arith, common_steps)
