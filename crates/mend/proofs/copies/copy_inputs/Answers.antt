-- One copy more, of the input that comes next.
use Rattle.std.proofs.Common.{◌++◌, ◌∷◌, [], ◌∙◌, sym, arith}
use Rattle.std.proofs.lemmas.List.{take_more}
use Rattle.mend.proofs.copies.copy_inputs.Goals as goal

pub loop-input-preserved : goal.loop-input-preserved
loop-input-preserved c =
    let same = c.in_ok-copy_input.ensures ∙ c.input-item.is in
    record {
      copies = c.push_reserved.ensures.items
          ∙ (λ j. c.loop-input.invariant.copies j ++ same j ∷ [])
          ∙ sym (take_more c.args.inputs.now c.loop-input.input-index c.input-item.result c.loop-input-test.true);
      count = omega (arith, c.push_reserved.ensures.len, c.loop-input.invariant.count);
      room = omega (arith, c.push_reserved.ensures.capacity, c.loop-input.invariant.room);
    }
