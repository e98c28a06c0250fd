use Rattle.std.proofs.Common.{length, ◌-◌}
use Rattle.expr_syntax.specs.Levels.{looseness}
use Rattle.expr_syntax.proofs.Ranks.{left_over}
use Rattle.expr_syntax.proofs.readers.+reading.Given as goal

abbrev pub decreases-level_at : goal.decreases-level_at
decreases-level_at l = left_over (length l.reader.now.text.now) l.place.at 12

abbrev pub decreases-denied_at : goal.decreases-denied_at
decreases-denied_at l = left_over (length l.reader.now.text.now) l.place.at 11

abbrev pub decreases-climb : goal.decreases-climb
decreases-climb l = left_over (length l.reader.now.text.now) l.first.at (8 - looseness l.from)

abbrev pub decreases-joined : goal.decreases-joined
decreases-joined l = left_over (length l.reader.now.text.now) l.first.at 1

abbrev pub decreases-follow : goal.decreases-follow
decreases-follow l = left_over (length l.reader.now.text.now) l.first.at 0

abbrev pub decreases-compared : goal.decreases-compared
decreases-compared l = left_over (length l.reader.now.text.now) l.left.at 0

abbrev pub decreases-unary_at : goal.decreases-unary_at
decreases-unary_at l = left_over (length l.reader.now.text.now) l.place.at 2

abbrev pub decreases-minus_at : goal.decreases-minus_at
decreases-minus_at l = left_over (length l.reader.now.text.now) l.place.at 1

abbrev pub decreases-bracket_at : goal.decreases-bracket_at
decreases-bracket_at l = left_over (length l.reader.now.text.now) l.place.at 1
