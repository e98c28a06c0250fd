-- The first is written over the one, and the others are put in behind it.
use Rattle.std.proofs.Common.{refl, ◌∙◌, arith}
use Rattle.flat_role.proofs.ActiveLemmas.{first_put, one_more_put}
use Rattle.flat_role.proofs.active.give_way.Goals as goal

pub loop-i-init : goal.loop-i-init
loop-i-init c = record {
  given = first_put c.args.active.now.items c.args.news.now c.args.at c.requires.inside (omega (arith, c.in-len1-up.len_at_least));
  capacity = refl;
}

pub loop-i-preserved : goal.loop-i-preserved
loop-i-preserved c = record {
  given = one_more_put c.args.active.now.items c.args.news.now c.loop-i.active.items c.insert.new.active.items c.args.at c.loop-i.i c.requires.inside c.loop-i-test.true
      c.loop-i.invariant.given c.insert.ensures.inserted;
  capacity = c.insert.ensures.capacity ∙ c.loop-i.invariant.capacity;
}
