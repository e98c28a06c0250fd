use Rattle.std.proofs.Common.{rules}
use Rattle.aioc_io.proofs.memory.MemSinkSink.write.Goals as goal

pub returns-in-Ok-clause-bytes : goal.returns-in-Ok-clause-bytes
returns-in-Ok-clause-bytes c = search rules depth 2
