use Rattle.std.proofs.Common.{rules}
use Rattle.text_pieces.proofs.pieces.write_bytes.Goals as goal

pub returns-clause-ok : goal.returns-clause-ok
returns-clause-ok c = search rules depth 2
