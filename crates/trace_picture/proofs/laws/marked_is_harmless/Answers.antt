use Rattle.trace_picture.proofs.Harmless.{words_harmless}
use Rattle.trace_picture.proofs.laws.marked_is_harmless.Goals as goal

pub returns : goal.returns
returns c = words_harmless
