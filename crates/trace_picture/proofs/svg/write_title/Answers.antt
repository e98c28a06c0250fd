use Rattle.trace_picture.specs.Svg.{group_front}
use Rattle.trace_picture.proofs.svg.write_title.Goals as goal

pub returns-clause-ok : goal.returns-clause-ok
unfolding group_front
returns-clause-ok c = c.write_fragments.ensures.ok
