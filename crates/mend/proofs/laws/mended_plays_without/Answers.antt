use Rattle.mend.proofs.Plays.{mended-plays}
use Rattle.mend.proofs.laws.mended_plays_without.Goals as goal

pub returns : goal.returns
returns c = mended-plays c.plays_without.ensures
