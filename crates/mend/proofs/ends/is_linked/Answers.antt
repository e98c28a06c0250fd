use Rattle.std.proofs.Common.{sym, ◌∙◌}
use Rattle.dioc_terms.specs.Terms.{term}
use Rattle.mend.proofs.Attending.{linked-attended}
use Rattle.mend.proofs.ends.is_linked.Goals as goal

pub returns : goal.returns
returns c = c.are_attended.ensures ∙ sym (linked-attended c.roles_at_ends.ensures (term c.args.first.now) (term c.args.second.now))
