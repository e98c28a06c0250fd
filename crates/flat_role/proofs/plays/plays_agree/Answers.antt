use Rattle.flat_role.proofs.PlayLemmas.{plays-agree}
use Rattle.flat_role.proofs.plays.plays_agree.Goals as goal

pub returns : goal.returns
returns c = plays-agree
