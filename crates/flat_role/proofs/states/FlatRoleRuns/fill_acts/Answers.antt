-- The marks hang together, and the list is that of the places that can act.
use Rattle.flat_role.proofs.FlatLemmas.{is-progress}
use Rattle.flat_role.proofs.states.FlatRoleRuns.fill_acts.Goals as goal

pub fill_acts-requires-clause-progress : goal.fill_acts-requires-clause-progress
fill_acts-requires-clause-progress c = is-progress c.args.self.now
