use Rattle.trace_picture.specs.Svg.{rectangle}
use Rattle.trace_picture.proofs.svg_parts.write_rectangle.Goals as goal

pub returns-clause-ok : goal.returns-clause-ok
unfolding rectangle
returns-clause-ok c = c.write_fragments.ensures.ok
