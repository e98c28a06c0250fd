use Rattle.std.proofs.Common.{sym, subst, arith}
use Rattle.bundle_text.specs.Grammar.{IsInput}
use Rattle.bundle_text.specs.Readers.{ItemAt}
use Rattle.bundle_text.proofs.Repeated.{SoFar, none_yet, one_further, all_taken, ends_among}
use Rattle.std.proofs.lemmas.Result.{err_from_is_err_and}
use Rattle.bundle_text.proofs.items.inputs_at.Goals as goal

pub loop-alloc-init : goal.loop-alloc-init
loop-alloc-init c = none_yet IsInput c.args.text.now c.args.at c.args.inputs.now.items

pub loop-alloc-preserved : goal.loop-alloc-preserved
loop-alloc-preserved c =
    let put = c.in_ok-next.ensures.found in
    subst (λ list. SoFar IsInput c.args.text.now c.args.at c.args.inputs.now.items list c.in_ok-next.next) (sym put.items)
    (one_further IsInput c.args.text.now c.args.at c.args.inputs.now.items c.loop-alloc.inputs.items put.item c.loop-alloc.next c.in_ok-next.next c.loop-alloc.invariant
    (subst (ItemAt IsInput c.args.text.now c.loop-alloc.next) put.was c.in_ok-found.ensures))

pub loop-alloc-smaller : goal.loop-alloc-smaller
loop-alloc-smaller c =
    let put = c.in_ok-next.ensures.found in
    let found = subst (ItemAt IsInput c.args.text.now c.loop-alloc.next) put.was c.in_ok-found.ensures in
    let after = found.after in
    let within = found.within in
    omega arith

pub returns-in_err-next-clause-stopped : goal.returns-in_err-next-clause-stopped
returns-in_err-next-clause-stopped c =
    let p = err_from_is_err_and c.from_residual-in_err-next.result c.from_residual-in_err-next.ensures.1 in
    rw (p.1, p.2)
    (λ other.
    let told = c.in_err-next.ensures.stopped other in
    rw told.1
    (ends_among IsInput c.args.text.now c.args.at c.args.inputs.now.items c.loop-alloc.inputs.items c.loop-alloc.next c.loop-alloc.invariant
    (subst (ItemAt IsInput c.args.text.now c.loop-alloc.next) told.0 c.in_ok-found.ensures) (λ is. let found = c.has.ensures.value.1 is in let missed = c.loop-alloc-test.true in cc)))

pub returns-clause-found : goal.returns-clause-found
returns-clause-found c =
    all_taken IsInput c.args.text.now c.args.at c.args.inputs.now.items c.loop-alloc.inputs.items c.loop-alloc.next c.loop-alloc.invariant (c.has.ensures.value.0 c.loop-alloc-test.false)
