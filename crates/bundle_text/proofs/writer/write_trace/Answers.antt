use Rattle.std.proofs.Common.{arith}
use Rattle.text_pieces.proofs.KeptFronts.{front_of_front}
use Rattle.bundle_text.proofs.writer.write_trace.Goals as goal

pub returns-clause-memory : goal.returns-clause-memory
returns-clause-memory c = grind (arith, front_of_front)

pub returns-in_err-write_end-clause-memory : goal.returns-in_err-write_end-clause-memory
returns-in_err-write_end-clause-memory c = grind (arith, front_of_front)

pub returns-in_err-write_entries-clause-memory : goal.returns-in_err-write_entries-clause-memory
returns-in_err-write_entries-clause-memory c = grind (arith, front_of_front)
