use Rattle.std.proofs.Common.{◌+◌, [], ◌∷◌, ◌++◌, sym, ap, ◌∙◌, subst}
use Rattle.expr_syntax.specs.Constants.{ConstantAt}
use Rattle.bundle_text.specs.Readers.{FindsValues}
use Rattle.bundle_text.proofs.Found.{ValuesSoFar, first_value, next_value, all_values, no_next_value, no_first_value}
use Rattle.bundle_text.proofs.items.values_at.Goals as goal

pub returns-in-None : goal.returns-in-None
returns-in-None c = no_first_value c.args.text.now c.args.at (subst (ConstantAt c.args.text.now c.args.at) c.in-None.is c.in_ok-read.ensures)

pub loop-alloc-init : goal.loop-alloc-init
loop-alloc-init c =
    let read = c.in-Some.read in
    subst (λ items. ValuesSoFar c.args.text.now c.args.at items read.1) (sym (c.in_ok-push.ensures.items ∙ ap (λ items. items ++ read.0 ∷ []) c.new-values.ensures.items))
    (first_value c.args.text.now c.args.at read.0 read.1 (subst (ConstantAt c.args.text.now c.args.at) c.in-Some.is c.in_ok-read.ensures))

pub loop-alloc-preserved : goal.loop-alloc-preserved
loop-alloc-preserved c =
    subst (λ items. ValuesSoFar c.args.text.now c.args.at items c.in-Some-2.behind) (sym c.in_ok-push-in-Some-2.ensures.items)
    (next_value c.args.text.now c.args.at c.loop-alloc.values.items c.in-Some-2.value c.loop-alloc.next c.in-Some-2.behind c.loop-alloc.invariant (c.has.ensures.value.0 c.loop-alloc-test.true)
    (subst (ConstantAt c.args.text.now (c.loop-alloc.next + 1)) c.in-Some-2.is c.in_ok-value.ensures))

pub returns-in-None-2 : goal.returns-in-None-2
returns-in-None-2 c =
    no_next_value c.args.text.now c.args.at c.loop-alloc.values.items c.loop-alloc.next c.loop-alloc.invariant (c.has.ensures.value.0 c.loop-alloc-test.true)
    (subst (ConstantAt c.args.text.now (c.loop-alloc.next + 1)) c.in-None-2.is c.in_ok-value.ensures)

pub returns : goal.returns
returns c =
    subst (λ values. FindsValues c.args.text.now c.args.at values c.loop-alloc.next) (sym c.new.ensures)
    (all_values c.args.text.now c.args.at c.loop-alloc.values.items c.loop-alloc.next c.loop-alloc.invariant (λ is. let found = c.has.ensures.value.1 is in let missed = c.loop-alloc-test.false in cc))
