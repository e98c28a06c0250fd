use Rattle.std.proofs.Common.{rules}
use Rattle.trace_picture.proofs.strokes.near_byte.Goals as goal

pub returns-in-Arrow : goal.returns-in-Arrow
returns-in-Arrow c = search rules depth 2
