-- The marks hang together, and the list is that of the places that can act.
use Rattle.flat_role.proofs.FlatLemmas.{is-progress}
use Rattle.flat_role.proofs.states.FlatRoleRuns.is_done.Goals as goal

pub is_done-requires : goal.is_done-requires
is_done-requires c = is-progress c.args.self.now
