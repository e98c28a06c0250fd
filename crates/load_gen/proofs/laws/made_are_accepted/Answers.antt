use Rattle.load_gen.proofs.Accepting.{made-are_accepted}
use Rattle.load_gen.proofs.laws.made_are_accepted.Goals as goal

pub returns : goal.returns
returns c = made-are_accepted c.gaps_are_found.ensures
