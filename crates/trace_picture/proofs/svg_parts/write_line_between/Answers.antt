use Rattle.trace_picture.specs.Svg.{line_between}
use Rattle.trace_picture.proofs.svg_parts.write_line_between.Goals as goal

pub returns-clause-ok : goal.returns-clause-ok
unfolding line_between
returns-clause-ok c = c.write_fragments.ensures.ok
