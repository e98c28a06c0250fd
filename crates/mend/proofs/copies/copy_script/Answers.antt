-- One copy more, of the change that comes next.
use Rattle.std.proofs.Common.{◌++◌, ◌∷◌, [], ◌∙◌, take, sym, arith}
use Rattle.std.proofs.lemmas.List.{take_more}
use Rattle.mend.proofs.copies.copy_script.Goals as goal

pub loop-timed-preserved : goal.loop-timed-preserved
loop-timed-preserved c =
    let timed = c.timed-item.result in
    record {
      copies = c.push_reserved.ensures.items
          ∙ (λ j. c.loop-timed.invariant.copies j ++ (record { after = timed.after; change = c.in_ok-copy_change.ensures j }) ∷ [])
          ∙ (λ j. take c.loop-timed.timed-index c.args.script.now ++ c.timed-item.is j ∷ [])
          ∙ sym (take_more c.args.script.now c.loop-timed.timed-index timed c.loop-timed-test.true);
      count = omega (arith, c.push_reserved.ensures.len, c.loop-timed.invariant.count);
      room = omega (arith, c.push_reserved.ensures.capacity, c.loop-timed.invariant.room);
    }
