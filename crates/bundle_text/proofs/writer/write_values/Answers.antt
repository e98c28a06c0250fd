use Rattle.std.proofs.Common.{arith}
use Rattle.std.proofs.lemmas.Grind.{common_steps}
use Rattle.text_pieces.proofs.KeptFronts.{front_of_front}
use Rattle.bundle_text.proofs.writer.write_values.Goals as goal

pub returns-in_err-write_value-in-len1-up-clause-memory : goal.returns-in_err-write_value-in-len1-up-clause-memory
returns-in_err-write_value-in-len1-up-clause-memory c = grind (arith, common_steps)

pub returns-in_ok-write_value-in-len1-up-clause-ok : goal.returns-in_ok-write_value-in-len1-up-clause-ok
returns-in_ok-write_value-in-len1-up-clause-ok c = grind (arith, common_steps)

pub returns-in_ok-write_value-in-len1-up-clause-memory : goal.returns-in_ok-write_value-in-len1-up-clause-memory
returns-in_ok-write_value-in-len1-up-clause-memory c = grind (arith, front_of_front)
