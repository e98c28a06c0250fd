-- The marks hang together, and the list is that of the places that can act.
use Rattle.flat_role.proofs.FlatLemmas.{is-progress}
use Rattle.flat_role.proofs.states.FlatRoleRuns.refresh_acts.Goals as goal

pub refresh_acts-requires : goal.refresh_acts-requires
refresh_acts-requires c = is-progress c.args.self.now
