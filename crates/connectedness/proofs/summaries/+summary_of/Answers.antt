use Rattle.std.proofs.Common.{refl, ◌∙◌, rules}
use Rattle.dioc_terms.specs.Terms.{term}
use Rattle.connectedness.proofs.SummaryLemmas.{scope_roles, while_roles}
use Rattle.connectedness.proofs.summaries.+summary_of.Goals as goal

pub summary_of-returns-in-Scope : goal.summary_of-returns-in-Scope
summary_of-returns-in-Scope t c = search rules depth 2

pub block-returns-clause-looped : goal.block-returns-clause-looped
block-returns-clause-looped t c = λ g none. record {
  first = refl;
  roles = c.in_ok-roles.ensures ∙ while_roles c.args.cast.now c.args.index c.args.leader.now g (term c.args.body.now) c.args.extra.now c.in_ok-body.body none c.in_ok-body.ensures;
  gap = c.in_ok-body.ensures.gap;
}

pub block-returns-clause-scope : goal.block-returns-clause-scope
block-returns-clause-scope t c = λ props level. record {
  first = refl;
  roles = c.in_ok-roles.ensures ∙ scope_roles c.args.cast.now c.args.index c.args.leader.now (term c.args.body.now) c.args.extra.now props level c.in_ok-body.body c.in_ok-body.ensures;
  gap = c.in_ok-body.ensures.gap;
}
