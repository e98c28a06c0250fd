use Rattle.std.proofs.Common.{◌+◌, subst}
use Rattle.expr_syntax.specs.Constants.{ConstantAt}
use Rattle.rule_syntax.proofs.Fronts.{binding_missing, binding_found, binding_valueless}
use Rattle.rule_syntax.proofs.bindings.binding_at.Goals as goal

pub returns-in-Some : goal.returns-in-Some
returns-in-Some c =
    binding_found c.args.text.now c.args.at c.in_ok-key.key c.in-Some.value c.in-Some.next (c.begins.ensures.0 cc) c.in_ok-key.ensures.value
    (subst (ConstantAt c.args.text.now (c.args.at + 2)) c.in-Some.is c.in_ok-value.ensures)

pub returns-in-None : goal.returns-in-None
returns-in-None c =
    binding_valueless c.args.text.now c.args.at c.in_ok-key.key (c.begins.ensures.0 cc) c.in_ok-key.ensures.value (subst (ConstantAt c.args.text.now (c.args.at + 2)) c.in-None.is c.in_ok-value.ensures)
