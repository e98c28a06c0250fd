use Rattle.trace_picture.specs.Svg.{svg_tag}
use Rattle.trace_picture.proofs.svg_parts.write_tag.Goals as goal

pub returns-clause-ok : goal.returns-clause-ok
unfolding svg_tag
returns-clause-ok c = c.write_fragments.ensures.ok
