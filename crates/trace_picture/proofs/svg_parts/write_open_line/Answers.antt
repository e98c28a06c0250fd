use Rattle.std.proofs.Common.{◌++◌, codes, arith}
use Rattle.text_pieces.proofs.KeptFronts.{front_of_front}
use Rattle.trace_picture.specs.Svg.{circle, line_between, open_line}
use Rattle.trace_picture.proofs.Repeats.{behind_text}
use Rattle.trace_picture.proofs.svg_parts.write_open_line.Goals as goal

pub returns-clause-ok : goal.returns-clause-ok
unfolding open_line
returns-clause-ok c =
    let line = line_between (codes "<line") c.args.start.x c.args.start.y c.args.end.x c.args.end.y in
    let ring = circle (codes "<circle class=\"open\"") c.args.end.x c.args.end.y in
    behind_text c.write_circle.result c.args.out.now.items line (codes "/>" ++ ring) c.write_line_between.new.out.items c.write_circle.new.out.items c.in_ok-write_line_between.ensures.ok
    (behind_text c.write_circle.result c.write_line_between.new.out.items (codes "/>") ring c.write_bytes.new.out.items c.write_circle.new.out.items c.in_ok-write_bytes.ensures.ok c.write_circle.ensures.ok)

pub returns-clause-memory : goal.returns-clause-memory
returns-clause-memory c = grind (arith, front_of_front)
