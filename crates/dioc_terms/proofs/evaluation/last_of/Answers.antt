use Rattle.std.proofs.Common.{sym, ◌∙◌, ap, take, Bool, if◌then◌else◌}
use Rattle.dioc_terms.proofs.ValueLemmas.{bound-more}
use Rattle.dioc_terms.specs.BorrowedValues.{borrowed_value}
use Rattle.dioc_terms.specs.Values.{bound}
use Rattle.dioc_terms.proofs.evaluation.last_of.Goals as goal
use Rattle.dioc_terms.proofs.evaluation.last_of.Goals.{then-eq, else-eq}

pub loop-key-preserved : goal.loop-key-preserved
loop-key-preserved c =
    let more = bound-more c.args.name.now c.args.pairs.now c.loop-key.key-index c.loop-key-item.result c.loop-key-test.true c.loop-key-item.is in
    let chosen = λ (b : Bool). (if b then c.loop-key-item.result.1 else bound (take c.loop-key.key-index c.args.pairs.now) c.args.name.now) in
    elim c.if-eq.branch [
      | then-eq w ↦ ap borrowed_value w.last-is ∙ (w.seen-last.ensures ∙ sym (more ∙ ap chosen (sym c.eq.ensures ∙ w.if-eq.true)))
      | else-eq w ↦ ap borrowed_value w.last-is ∙ (c.loop-key.invariant ∙ sym (more ∙ ap chosen (sym c.eq.ensures ∙ w.if-eq.false)))
    ]
