use Rattle.scope_leader.proofs.LeaderLemmas.{leaders-tell}
use Rattle.scope_leader.proofs.laws.leaders_tell.Goals as goal

pub returns : goal.returns
returns c = leaders-tell
