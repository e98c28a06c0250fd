use Rattle.std.proofs.Common.{rules}
use Rattle.trace_text.proofs.pieces.write_tag.Goals as goal

pub returns-in-Go-clause-ok : goal.returns-in-Go-clause-ok
returns-in-Go-clause-ok c = search rules depth 2
