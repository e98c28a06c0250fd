use Rattle.std.proofs.Common.{take, append_assoc}
use Rattle.dioc_terms.specs.Bundles.{adds}
use Rattle.mend.specs.Rules.{added_number}
use Rattle.mend.proofs.Counted.{one_more_add}
use Rattle.mend.proofs.rules.add_numbers.Goals as goal

pub loop-timed-preserved : goal.loop-timed-preserved
loop-timed-preserved c =
    let more = one_more_add c.args.script.now c.loop-timed.timed-index c.timed-item.result c.loop-timed-test.true c.timed-item.is in
    let grouped = append_assoc c.args.numbers.now.items (adds (take c.loop-timed.timed-index c.args.script.now)) (added_number c.timed-item.result.change) in
    cc (c.in_ok-add_number.ensures, c.loop-timed.invariant, more, grouped)
