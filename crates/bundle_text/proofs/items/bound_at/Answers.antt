use Rattle.std.proofs.Common.{subst}
use Rattle.rule_syntax.specs.Readers.{BindingAt}
use Rattle.bundle_text.proofs.Found.{bound_found, bound_missing, bound_open}
use Rattle.bundle_text.proofs.items.bound_at.Goals as goal

pub returns-in-None : goal.returns-in-None
returns-in-None c = bound_missing c.args.text.now c.args.at (subst (BindingAt c.args.text.now c.args.at) c.in-None.is c.in_ok-read.ensures)

pub returns-then-not-has : goal.returns-then-not-has
returns-then-not-has c =
    bound_open c.args.text.now c.args.at c.in-Some.read.0 c.in-Some.read.1 (subst (BindingAt c.args.text.now c.args.at) c.in-Some.is c.in_ok-read.ensures)
    (λ is. let found = c.has.ensures.value.1 is in let missed = c.if-not-has.true in cc)

pub returns : goal.returns
returns c =
    bound_found c.args.text.now c.args.at c.in-Some.read.0 c.in-Some.read.1 (subst (BindingAt c.args.text.now c.args.at) c.in-Some.is c.in_ok-read.ensures) (c.has.ensures.value.0 cc)
