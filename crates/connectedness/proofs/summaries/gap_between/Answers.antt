-- Either nobody is missing, or the first one that is.
use Rattle.std.proofs.Common.{sym, ◌∙◌, subst}
use Rattle.connectedness.specs.Connected.{gap_at}
use Rattle.connectedness.specs.Summaries.{IsGapOf}
use Rattle.connectedness.proofs.SummaryLemmas.{none_missing, one_missing}
use Rattle.connectedness.proofs.summaries.gap_between.Goals as goal

pub returns-in_err-role : goal.returns-in_err-role
returns-in_err-role c = λ cast I J a b.
    subst (λ kept. IsGapOf cast kept (gap_at cast I J)) (sym c.from_residual-in_err-role.ensures)
    (none_missing c.roles_at_ends.ensures cast I J c.args.first.now c.args.second.now a b (sym c.first_missing.ensures ∙ c.in_err-role.was))

pub returns : goal.returns
returns c = λ cast I J a b.
    one_missing c.roles_at_ends.ensures cast I J c.args.first.now c.args.second.now c.in_ok-before.before c.in_ok-after.after c.in_ok-role.role
    a b c.in_ok-before.was c.in_ok-after.was (sym c.first_missing.ensures ∙ c.in_ok-role.was)
