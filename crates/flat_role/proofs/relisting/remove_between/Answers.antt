-- One of those between the front and the back is removed.
use Rattle.std.proofs.Common.{◌+◌, ◌-◌, ◌<◌, drop, length, take, ap, ◌∙◌, arith}
use Rattle.std.proofs.lemmas.List.Edits.{length-remove}
use Rattle.flat_role.proofs.Edited.{removed_front, removed_more}
use Rattle.flat_role.proofs.relisting.remove_between.Goals as goal

pub loop-preserved : goal.loop-preserved
loop-preserved c =
    let xs = c.loop.acts.items in
    let front = c.args.front in
    let back = c.args.back in
    let more : front + back < length xs = omega (arith, c.loop-test.true, c.loop.invariant.count, c.len-end.ensures, c.args.acts.now.ok.0) in
    record {
      front = ap (take front) c.remove.ensures.items ∙ removed_front xs front (omega (arith, more)) ∙ c.loop.invariant.front;
      back = ap (λ ys. drop (length ys - back) ys) c.remove.ensures.items ∙ removed_more xs front back more ∙ c.loop.invariant.back;
      count = omega (arith, c.loop.invariant.count, ap length c.remove.ensures.items, length-remove xs front (omega (arith, more)));
    }
