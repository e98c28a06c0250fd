use Rattle.wanted_items.specs.Items.{is_wanted}
use Rattle.wanted_items.proofs.Tries.{kept_more}
use Rattle.wanted_items.proofs.trials.wanted_among.Goals as goal

pub loop-item-preserved : goal.loop-item-preserved
loop-item-preserved c = λ front walk.
    kept_more (is_wanted front) c.args.all.now c.loop-item.item-index _
    c.loop-item.items.items c.push_where.new.items.items c.in_ok-wanted.wanted c.loop-item-test.true (c.loop-item.invariant front walk) (c.in_ok-wanted.ensures front walk) c.in_ok-push_where.ensures
