use Rattle.net_drive.proofs.Exactness.{same_traces}
use Rattle.net_drive.proofs.laws.same_traces.Goals as goal

pub returns : goal.returns
returns c = let k = c.known.ensures in
    same_traces c.term_laws.ensures k.offered k.readiness k.auxiliary k.simulation k.settlement
