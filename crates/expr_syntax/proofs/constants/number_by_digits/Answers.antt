use Rattle.std.proofs.Common.{◌≡◌, ℕ, Bool, true, false, Some, None, if◌then◌else◌, ◌∙◌, ap, refl, arith, nat_le, take_all}
use Rattle.std.specs.Bool.{then_some}
use Rattle.std.specs.Str.Parse.{digits_value}
use Rattle.expr_syntax.proofs.NumberFacts.{one_more, passes}
use Rattle.expr_syntax.proofs.constants.number_by_digits.Goals as goal

pub returns-in_err-checked_mul : goal.returns-in_err-checked_mul
returns-in_err-checked_mul c =
    c.from_residual.ensures ∙ passes c.args.digits.now c.requires.digits c.loop-digit.digit-index (omega arith) c.args.most (omega arith)
    (λ small. c.in_err-checked_mul.ensures (omega (arith, c.loop-digit.invariant)))

pub returns-in_err-number : goal.returns-in_err-number
returns-in_err-number c =
    c.from_residual-in_err-number.ensures ∙ passes c.args.digits.now c.requires.digits c.loop-digit.digit-index (omega arith) c.args.most (omega arith)
    (λ small. c.in_err-number.ensures (omega (arith, c.loop-digit.invariant)))

pub loop-digit-preserved : goal.loop-digit-preserved
loop-digit-preserved c =
    omega (arith, c.loop-digit.invariant, one_more c.args.digits.now c.requires.digits c.loop-digit.digit-index (omega arith))

chosen : (fits : Bool) (number : ℕ) → then_some fits number ≡ (if fits then Some number else None)
chosen true number = refl
chosen false number = refl

pub returns : goal.returns
returns c =
    let whole = c.loop-digit.invariant ∙ ap (digits_value 10) (take_all c.loop-digit.digit-index c.args.digits.now c.loop-digit-test.false) in
    c.then_some.ensures ∙ chosen (nat_le c.loop-digit.number c.args.most) c.loop-digit.number ∙ ap (λ number. if nat_le number c.args.most then Some number else None) whole
