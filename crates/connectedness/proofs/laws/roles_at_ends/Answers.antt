use Rattle.connectedness.proofs.Lemmas.{roles-at_ends}
use Rattle.connectedness.proofs.laws.roles_at_ends.Goals as goal

pub returns : goal.returns
returns c = roles-at_ends c.mentions_are_roles.ensures
