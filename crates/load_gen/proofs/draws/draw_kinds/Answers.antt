use Rattle.std.proofs.Common.{◌≡◌, ◌+◌, ◌-◌, ◌++◌, ◌∷◌, [], ℕ, List, ap, ap₂, append_assoc, sym, ◌∙◌}
use Rattle.load_gen.specs.declared.draws.Kind.{Kind}
use Rattle.load_gen.specs.Draws.{drawn, kind_of, kinds}
use Rattle.load_gen.proofs.Rows.{kinds_more}
use Rattle.load_gen.proofs.draws.draw_kinds.Goals as goal

pub loop-block-preserved : goal.loop-block-preserved
loop-block-preserved c =
    let size = c.args.size in
    let i = c.loop-block._block in
    let last = c.loop-block.number in
    let so_far = c.loop-block.kinds.items in
    let one : c.kind_of.result ≡ kind_of (drawn last) =
    c.kind_of.ensures ∙ ap kind_of c.draw-number.ensures in
    ap₂ (λ (l : List Kind) (x : ℕ). l ++ kinds (size - (i + 1)) x) c.in_ok-push.ensures.items
    c.draw-number.ensures
    ∙ (append_assoc so_far (c.kind_of.result ∷ []) (kinds (size - (i + 1)) (drawn last))
    ∙ (ap (λ (k : Kind). so_far ++ k ∷ kinds (size - (i + 1)) (drawn last)) one
    ∙ (ap (λ (l : List Kind). so_far ++ l) (sym (kinds_more size i last c.loop-block-test.true))
    ∙ c.loop-block.invariant)))
