use Rattle.std.proofs.Common.{◌≡◌, ◌+◌, [], ◌∷◌, ◌++◌, get_or, take, slice_range, subst, sym, ap, ◌∙◌}
use Rattle.aioc_tokens.specs.declared.kinds.Kind.TheVariants.{Name}
use Rattle.aioc_tokens.specs.declared.words.Sort.TheVariants.{End}
use Rattle.bundle_layout.specs.declared.parts.PartKind.TheVariants.{Token}
use Rattle.bundle_layout.specs.declared.parts.Part.{Part}
use Rattle.bundle_layout.specs.Pieces.{HasPieces}
use Rattle.bundle_layout.specs.Parts.{pieces_of}
use Rattle.bundle_layout.proofs.Runs.{IsRunReady, run_goes_on, run_begins, run_ended}
use Rattle.bundle_layout.proofs.written.write_parts.Goals.{then-not-stands+in_ok-write_bytes+in_ok-write_bytes-2+else-len-gt-MOST_BYTES, else-not-stands}
use Rattle.bundle_layout.proofs.written.write_parts.Goals as goal

pub loop-place-preserved : goal.loop-place-preserved
loop-place-preserved c =
    let bytes = c.args.bytes.now in
    let parts = c.args.parts.now in
    let place = c.loop-place.place in
    let other : Part = record { kind = Token Name; sort = End; start = 0; end = 0 } in
    let part = get_or parts place other in
    let gap = c.safe_gap-before.result.now in
    let run = slice_range bytes c.loop-place.from c.loop-place.to in
    let pieces = pieces_of bytes (take (place + 1) parts) in
    let lies = c.requires.lie place other c.loop-place-test.true in
    elim c.if-not-stands.branch [
      | then-not-stands+in_ok-write_bytes+in_ok-write_bytes-2+else-len-gt-MOST_BYTES w ↦
          let items : c.if-not-stands.out.items ≡ (c.loop-place.out.items ++ run) ++ gap = ap (λ out. out.items) w.out-is ∙ w.in_ok-write_bytes-2.ensures.ok ∙ ap (λ front. front ++ gap) w.in_ok-write_bytes.ensures.ok in
          subst (λ from. IsRunReady bytes part.kind c.if-not-stands.out.items from part.end pieces) (sym w.from-is)
          (subst (λ items. IsRunReady bytes part.kind items part.start part.end pieces) (sym items)
          (run_begins bytes parts place other c.loop-place-test.true c.loop-place.kind c.loop-place.out.items c.loop-place.from c.loop-place.to c.loop-place.invariant gap c.safe_gap-before.ensures.spaces lies c.safe_gap-before.ensures.ends))
      | else-not-stands w ↦
          let stands = c.stands.ensures w.if-not-stands.false in
          subst (λ from. IsRunReady bytes part.kind c.if-not-stands.out.items from part.end pieces) (sym w.from-is)
          (subst (λ items. IsRunReady bytes part.kind items c.loop-place.from part.end pieces) (sym (ap (λ out. out.items) w.out-is))
          (run_goes_on bytes parts place other c.loop-place-test.true c.loop-place.kind c.loop-place.out.items c.loop-place.from c.loop-place.to c.loop-place.invariant gap c.safe_gap-before.ensures.spaces lies c.safe_gap-before.ensures.ends stands))
    ]

pub returns-clause-ok : goal.returns-clause-ok
returns-clause-ok c =
    let bytes = c.args.bytes.now in
    let parts = c.args.parts.now in
    let whole = c.in_ok-write_bytes-4.ensures.ok ∙ ap (λ front. front ++ 10 ∷ []) c.in_ok-write_bytes-3.ensures.ok in
    subst (λ written. HasPieces written (pieces_of bytes parts)) (sym whole)
    (run_ended bytes parts c.loop-place.place c.loop-place.kind c.loop-place.out.items c.loop-place.from c.loop-place.to c.loop-place-test.false c.loop-place.invariant)
