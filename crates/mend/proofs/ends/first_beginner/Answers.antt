use Rattle.std.proofs.Common.{◌∙◌}
use Rattle.dioc_terms.specs.Terms.{term}
use Rattle.mend.proofs.Attending.{found-starter}
use Rattle.mend.proofs.ends.first_beginner.Goals as goal

pub returns : goal.returns
returns c = c.first_begun.ensures ∙ found-starter c.roles_at_ends.ensures c.args.cast.now (term c.args.choreo.now)
