use Rattle.std.proofs.Common.{◌∙◌, sym}
use Rattle.dioc_terms.specs.Plain.{plain}
use Rattle.mend.proofs.Before.{program_passed, program_told, program_behind}
use Rattle.mend.proofs.checks.given_program.Goals as goal

pub returns-in-Ok-clause-ok : goal.returns-in-Ok-clause-ok
returns-in-Ok-clause-ok c = program_passed (plain c.args.bundle.now) c.in-Ok.ensures.accepted.no_refusal

pub returns-then-comes_before_links-clause-refused : goal.returns-then-comes_before_links-clause-refused
returns-then-comes_before_links-clause-refused c =
    program_told (plain c.args.bundle.now) c.in-Err.refusal c.in-Err.ensures.refused (sym c.comes_before_links.ensures ∙ c.if-comes_before_links.true)

pub returns-else-comes_before_links-clause-ok : goal.returns-else-comes_before_links-clause-ok
returns-else-comes_before_links-clause-ok c =
    program_behind (plain c.args.bundle.now) c.in-Err.refusal c.in-Err.ensures.refused (sym c.comes_before_links.ensures ∙ c.if-comes_before_links.false)
