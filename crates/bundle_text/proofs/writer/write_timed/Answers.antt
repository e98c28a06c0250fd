use Rattle.std.proofs.Common.{arith}
use Rattle.std.proofs.lemmas.Grind.{common_steps}
use Rattle.text_pieces.proofs.KeptFronts.{front_of_front}
use Rattle.bundle_text.proofs.writer.write_timed.Goals as goal

pub returns-in_err-write_after-in-Drop-clause-memory : goal.returns-in_err-write_after-in-Drop-clause-memory
returns-in_err-write_after-in-Drop-clause-memory c = grind (arith, front_of_front)

pub returns-in_err-write_after-in-Env-clause-memory : goal.returns-in_err-write_after-in-Env-clause-memory
returns-in_err-write_after-in-Env-clause-memory c = grind (arith, front_of_front)

pub returns-in_err-write_bytes-in-Env-2-clause-memory : goal.returns-in_err-write_bytes-in-Env-2-clause-memory
returns-in_err-write_bytes-in-Env-2-clause-memory c = grind (arith, front_of_front)

pub returns-in_err-write_bytes-in-Env-clause-memory : goal.returns-in_err-write_bytes-in-Env-clause-memory
returns-in_err-write_bytes-in-Env-clause-memory c = grind (arith, front_of_front)

pub returns-in_ok-write_after-in-Drop-clause-memory : goal.returns-in_ok-write_after-in-Drop-clause-memory
returns-in_ok-write_after-in-Drop-clause-memory c = grind (arith, front_of_front)

pub returns-in_ok-write_after-in-Drop-clause-ok : goal.returns-in_ok-write_after-in-Drop-clause-ok
returns-in_ok-write_after-in-Drop-clause-ok c = grind (arith, common_steps)

pub returns-in_ok-write_bytes-in-Env-2-clause-memory : goal.returns-in_ok-write_bytes-in-Env-2-clause-memory
returns-in_ok-write_bytes-in-Env-2-clause-memory c = grind (arith, common_steps)

pub returns-in_ok-write_bytes-in-Env-2-clause-ok : goal.returns-in_ok-write_bytes-in-Env-2-clause-ok
returns-in_ok-write_bytes-in-Env-2-clause-ok c = grind (arith, common_steps)
