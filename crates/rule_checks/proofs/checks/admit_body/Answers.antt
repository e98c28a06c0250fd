use Rattle.dioc_terms.specs.Terms.{term, mentions}
use Rattle.rule_checks.specs.declared.refusals.Where.TheVariants as place
use Rattle.rule_checks.proofs.MayRunLemmas.{has_roles, known}
use Rattle.rule_checks.proofs.checks.admit_body.Goals as goal

pub linked-requires : goal.linked-requires
linked-requires c =
    let body = term c.args.body.now in
    has_roles c.mentions_are_roles.ensures c.args.cast.now body (known (place.Rule c.args.number) c.args.cast.now (mentions body) c.in_ok-known_body.ensures.ok)
