use Rattle.std.proofs.Common.{arith, rules}
use Rattle.std.proofs.lemmas.Grind.{common_steps}
use Rattle.text_pieces.proofs.KeptFronts.{front_of_front}
use Rattle.dioc_syntax.proofs.writer.write_head.Goals as goal

pub returns-in_ok-write_target-in-Set-clause-ok : goal.returns-in_ok-write_target-in-Set-clause-ok
returns-in_ok-write_target-in-Set-clause-ok c = grind (arith, common_steps)

pub returns-in_ok-write_target-in-Set-clause-memory : goal.returns-in_ok-write_target-in-Set-clause-memory
returns-in_ok-write_target-in-Set-clause-memory c = grind (arith, front_of_front)

pub returns-in_ok-write_target-in-Input-clause-ok : goal.returns-in_ok-write_target-in-Input-clause-ok
returns-in_ok-write_target-in-Input-clause-ok c = grind (arith, common_steps)

pub returns-in_ok-write_target-in-Input-clause-memory : goal.returns-in_ok-write_target-in-Input-clause-memory
returns-in_ok-write_target-in-Input-clause-memory c = grind (arith, front_of_front)

pub returns-in_ok-write_bytes-in-Scope-clause-ok : goal.returns-in_ok-write_bytes-in-Scope-clause-ok
returns-in_ok-write_bytes-in-Scope-clause-ok c = grind (arith, common_steps)

pub returns-in_ok-write_bytes-in-Scope-clause-memory : goal.returns-in_ok-write_bytes-in-Scope-clause-memory
returns-in_ok-write_bytes-in-Scope-clause-memory c = grind (arith, front_of_front)

pub returns-in-Seq-clause-ok : goal.returns-in-Seq-clause-ok
returns-in-Seq-clause-ok c = search rules depth 2
