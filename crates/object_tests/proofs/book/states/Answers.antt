use Rattle.std.proofs.Common.{◌∙◌, ap, sym, drop, map, slice_get, List, Some}
use Rattle.std.proofs.lemmas.List.{drop-drop, drop-map, drop_more}
use Rattle.dioc_terms.specs.declared.bundles.Change.{Change}
use Rattle.dioc_terms.specs.declared.bundles.Timed.{Timed}
use Rattle.object_tests.proofs.book.states.Goals as goal

pub apply-requires : goal.apply-requires
apply-requires c =
    let script = c.args.script.now in
    let at = c.loop-timed.timed-index in
    let timed = c.timed-item.result in
    record {
      next =
          ap (λ (left : List Change). slice_get left 0)
          (c.loop-timed.invariant ∙ (drop-map (λ (t : Timed). t.change) at script ∙ ap (map (λ (t : Timed). t.change)) (drop_more script at timed c.loop-timed-test.true)))
          ∙ ap (λ (t : Timed). Some t.change) (sym c.timed-item.is);
    }

pub loop-timed-preserved : goal.loop-timed-preserved
loop-timed-preserved c =
    c.apply.ensures.coming ∙ (ap (drop 1) c.loop-timed.invariant ∙ drop-drop 1 c.loop-timed.timed-index (map (λ (t : Timed). t.change) c.args.script.now))
