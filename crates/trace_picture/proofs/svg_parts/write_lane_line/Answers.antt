use Rattle.std.proofs.Common.{arith}
use Rattle.text_pieces.proofs.KeptFronts.{front_of_front}
use Rattle.trace_picture.specs.Svg.{lane_line}
use Rattle.trace_picture.proofs.Repeats.{behind_text}
use Rattle.trace_picture.proofs.svg_parts.write_lane_line.Goals as goal

pub returns-clause-ok : goal.returns-clause-ok
unfolding lane_line
returns-clause-ok c = behind_text _ _ _ _ _ _ c.in_ok-write_line_between.ensures.ok c.write_bytes.ensures.ok

pub returns-clause-memory : goal.returns-clause-memory
returns-clause-memory c = grind (arith, front_of_front)
