use Rattle.std.proofs.Common.{rules}
use Rattle.trace_picture.proofs.reading.add_said.Goals as goal

pub returns-then-is_some-clause-ok : goal.returns-then-is_some-clause-ok
returns-then-is_some-clause-ok c = search rules depth 2
