use Rattle.bundle_text.proofs.bundles.add_rule.Goals as goal

pub returns-clause-number : goal.returns-clause-number
returns-clause-number c = assumption
