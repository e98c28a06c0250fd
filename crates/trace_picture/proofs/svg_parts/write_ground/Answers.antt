use Rattle.trace_picture.specs.Svg.{ground_text}
use Rattle.trace_picture.proofs.svg_parts.write_ground.Goals as goal

pub returns-clause-ok : goal.returns-clause-ok
unfolding ground_text
returns-clause-ok c = c.write_fragments.ensures.ok
