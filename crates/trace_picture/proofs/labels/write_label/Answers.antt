use Rattle.std.proofs.Common.{arith}
use Rattle.std.proofs.lemmas.Grind.{common_steps}
use Rattle.text_pieces.proofs.KeptFronts.{front_of_front}
use Rattle.trace_picture.proofs.labels.write_label.Goals as goal

pub returns-in_ok-write_bytes-in-Pick-clause-ok : goal.returns-in_ok-write_bytes-in-Pick-clause-ok
returns-in_ok-write_bytes-in-Pick-clause-ok c = grind (arith, common_steps)

pub returns-in_ok-write_bytes-in-Pick-clause-memory : goal.returns-in_ok-write_bytes-in-Pick-clause-memory
returns-in_ok-write_bytes-in-Pick-clause-memory c = grind (arith, front_of_front)

pub returns-in_err-write_index-in-Scope-clause-memory : goal.returns-in_err-write_index-in-Scope-clause-memory
returns-in_err-write_index-in-Scope-clause-memory c = grind (arith, front_of_front)

pub returns-in_err-write_bytes-in-Scope-2-clause-memory : goal.returns-in_err-write_bytes-in-Scope-2-clause-memory
returns-in_err-write_bytes-in-Scope-2-clause-memory c = grind (arith, front_of_front)

pub returns-in_ok-write_bytes-in-Scope-2-clause-ok : goal.returns-in_ok-write_bytes-in-Scope-2-clause-ok
returns-in_ok-write_bytes-in-Scope-2-clause-ok c = grind (arith, common_steps)

pub returns-in_ok-write_bytes-in-Scope-2-clause-memory : goal.returns-in_ok-write_bytes-in-Scope-2-clause-memory
returns-in_ok-write_bytes-in-Scope-2-clause-memory c = grind (arith, front_of_front)

pub returns-in-Put-clause-ok : goal.returns-in-Put-clause-ok
returns-in-Put-clause-ok c = grind (arith, common_steps)

pub returns-in-Take-clause-ok : goal.returns-in-Take-clause-ok
returns-in-Take-clause-ok c = grind (arith, common_steps)

pub returns-in-Set-clause-ok : goal.returns-in-Set-clause-ok
returns-in-Set-clause-ok c = grind (arith, common_steps)

pub returns-in-Input-clause-ok : goal.returns-in-Input-clause-ok
returns-in-Input-clause-ok c = grind (arith, common_steps)

pub returns-in-Add-clause-ok : goal.returns-in-Add-clause-ok
returns-in-Add-clause-ok c = grind (arith, common_steps)

pub returns-in-Drop-clause-ok : goal.returns-in-Drop-clause-ok
returns-in-Drop-clause-ok c = grind (arith, common_steps)

pub returns-in-Env-clause-ok : goal.returns-in-Env-clause-ok
returns-in-Env-clause-ok c = grind (arith, common_steps)
