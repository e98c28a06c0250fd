use Rattle.trace_picture.specs.Svg.{words_in}
use Rattle.trace_picture.proofs.svg_parts.write_words_in.Goals as goal

pub returns-clause-ok : goal.returns-clause-ok
unfolding words_in
returns-clause-ok c = c.write_fragments.ensures.ok
