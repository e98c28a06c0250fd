use Rattle.std.proofs.Common.{rules}
use Rattle.text_pieces.proofs.pieces.write_escaped.Goals as goal

pub returns-else-byte-eq92-clause-ok : goal.returns-else-byte-eq92-clause-ok
returns-else-byte-eq92-clause-ok c = search rules depth 2
