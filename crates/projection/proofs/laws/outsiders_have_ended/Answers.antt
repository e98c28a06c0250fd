use Rattle.projection.proofs.Lemmas.{outsiders-have_ended}
use Rattle.projection.proofs.laws.outsiders_have_ended.Goals as goal

pub returns : goal.returns
returns c = outsiders-have_ended
