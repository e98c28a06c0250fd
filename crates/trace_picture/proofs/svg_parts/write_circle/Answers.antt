use Rattle.trace_picture.specs.Svg.{circle}
use Rattle.trace_picture.proofs.svg_parts.write_circle.Goals as goal

pub returns-clause-ok : goal.returns-clause-ok
unfolding circle
returns-clause-ok c = c.write_fragments.ensures.ok
