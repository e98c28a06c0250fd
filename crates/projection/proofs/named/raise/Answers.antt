use Rattle.std.proofs.Common.{◌<◌, ◌∙◌, length, arith}
use Rattle.projection.proofs.Places.{none_yet, raised_all, raised_next}
use Rattle.projection.proofs.named.raise.Goals as goal

pub loop-place-init : goal.loop-place-init
loop-place-init c = none_yet c.args.named.now

pub loop-place-preserved : goal.loop-place-preserved
loop-place-preserved c =
    let within : c.loop-place.place < length c.args.more.now = omega (arith, c.loop-place-test.true, c.min-places.ensures) in
    let inside : c.loop-place.place < length c.args.named.now = omega (arith, c.loop-place-test.true, c.min-places.ensures) in
    raised_next c.args.more.now c.args.named.now c.loop-place.named c.loop-place.place c.raise_flag.new.flag within inside c.loop-place.invariant c.raise_flag.ensures

pub returns : goal.returns
returns c =
    c.loop-place.invariant
    ∙ raised_all c.args.more.now c.args.named.now c.loop-place.place (λ i within inside. omega (arith, within, inside, c.loop-place-test.false, c.min-places.ensures))
