-- The marks hang together, and the list is that of the places that can act.
use Rattle.flat_role.proofs.FlatLemmas.{is-progress}
use Rattle.flat_role.proofs.states.FlatRoleRuns.acts.Goals as goal

pub acts-requires : goal.acts-requires
acts-requires c = is-progress c.args.self.now
