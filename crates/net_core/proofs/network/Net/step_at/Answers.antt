-- Where no role can step, that at the place can't.
use Rattle.net_core.proofs.NetLemmas.{place_refuses}
use Rattle.net_core.proofs.network.Net.step_at.Goals as goal

pub returns-in-Err-clause-refused : goal.returns-in-Err-clause-refused
returns-in-Err-clause-refused g c = λ other.
    place_refuses c.args.self.now c.args.place c.args.act.now c.in-Err.fault c.requires.there c.in-Err.ensures.refused
