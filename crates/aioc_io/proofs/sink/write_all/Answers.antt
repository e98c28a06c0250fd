use Rattle.std.proofs.Common.{◌≡◌, ◌≤◌, ◌+◌, ◌-◌, ◌++◌, length, take, drop, sym, ap, ◌∙◌, subst, arith, length-drop}
use Rattle.std.proofs.Math.Seq.{take-add}
use Rattle.std.proofs.lemmas.Slice.{between_to_end}
use Rattle.std.specs.Io.KnownBytes.{Appends}
use Rattle.std.proofs.KnownBytes.{Appends-trans}
use Rattle.aioc_io.proofs.sink.write_all.Goals as goal

pub loop-done-preserved : goal.loop-done-preserved
loop-done-preserved g c =
    let bytes = c.args.bytes.now in
    let done = c.loop-done.done in
    let count = c.in_ok-done.field-0 in
    let rest = between_to_end bytes done (length bytes) (omega arith) in
    let within : count ≤ length bytes - done = omega (arith, c.in_ok-done.ensures.within, ap length rest, length-drop done bytes) in
    let joined : take done bytes ++ take count (take (length bytes - done) (drop done bytes)) ≡ take (done + count) bytes =
    ap (λ l. take done bytes ++ take count l) rest ∙ sym (take-add done count bytes) in
    (omega arith, subst (Appends _ _) joined (Appends-trans _ _ _ _ _ c.loop-done.invariant.1 c.in_ok-done.ensures.bytes), omega arith)
