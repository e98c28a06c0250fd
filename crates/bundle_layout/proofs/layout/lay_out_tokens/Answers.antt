use Rattle.std.proofs.Common.{subst, arith}
use Rattle.bundle_layout.specs.Pieces.{HasPieces}
use Rattle.bundle_layout.specs.Parts.{pieces_of}
use Rattle.bundle_layout.proofs.Readings.{same_bundle}
use Rattle.bundle_layout.proofs.layout.lay_out_tokens.Goals as goal

pub returns-clause-bundle : goal.returns-clause-bundle
returns-clause-bundle c = λ b spells.
    let bytes = c.args.bytes.now in
    let parts = c.in_ok-parts.parts.items in
    let written = c.in_ok-text.text.items in
    let of_written = subst (λ parts. HasPieces written (pieces_of bytes parts)) c.deref-3.ensures.value c.in_ok-text.ensures.pieces in
    same_bundle bytes written b (record { pieces = pieces_of bytes parts; of_text = c.in_ok-parts.ensures.pieces; of_other = of_written }) (omega (arith, c.in_ok-text.text.ok.0, c.in_ok-text.ensures.short)) spells
