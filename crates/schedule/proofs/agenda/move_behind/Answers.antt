-- Each place is moved.
use Rattle.std.proofs.Common.{◌<◌, length, arith}
use Rattle.schedule.proofs.PartLemmas.{one_written, small_at, still}
use Rattle.schedule.specs.Agendas.{moved}
use Rattle.schedule.proofs.agenda.move_behind.Goals as goal

pub moved-requires : goal.moved-requires
moved-requires c =
    let old = c.args.places.now in
    let i = c.loop-place.place-index in
    let lt : i < length old = omega (arith, c.loop-place-test.true) in
    let lt' : i < length c.loop-place.places = omega (arith, c.loop-place-test.true, c.loop-place.auto.places) in
    omega (arith, still (moved c.args.at c.args.count) old c.loop-place.places i lt lt' c.loop-place.invariant, small_at c.args.count 18446744073709551616 old i lt c.requires.small)

pub loop-place-preserved : goal.loop-place-preserved
loop-place-preserved c =
    let old = c.args.places.now in
    let i = c.loop-place.place-index in
    let lt : i < length old = omega (arith, c.loop-place-test.true) in
    let lt' : i < length c.loop-place.places = omega (arith, c.loop-place-test.true, c.loop-place.auto.places) in
    one_written (moved c.args.at c.args.count) old c.loop-place.places i lt lt' c.loop-place.invariant c.moved.result c.moved.ensures
