use Rattle.std.proofs.Common.{◌<◌, ◌∙◌, length, arith}
use Rattle.projection.proofs.Places.{flagged_all, flagged_next}
use Rattle.projection.proofs.named.roles_in.Goals as goal

pub loop-place-preserved : goal.loop-place-preserved
loop-place-preserved c =
    let within : c.loop-place.place < length c.args.cast.now = omega (arith, c.loop-place-test.true, c.min-places.ensures) in
    let inside : c.loop-place.place < length c.args.named.now = omega (arith, c.loop-place-test.true, c.min-places.ensures) in
    flagged_next c.args.cast.now c.args.named.now c.loop-place.place c.index-cast-place.result _ _ within inside c.index-cast-place.is c.loop-place.invariant c.in_ok-keep.ensures

pub returns : goal.returns
returns c =
    c.new.ensures
    ∙ (c.loop-place.invariant
    ∙ flagged_all c.args.cast.now c.args.named.now c.loop-place.place (λ i within inside. omega (arith, within, inside, c.loop-place-test.false, c.min-places.ensures)))
