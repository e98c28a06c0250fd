use Rattle.std.proofs.Common.{subst}
use Rattle.bundle_layout.proofs.Lengths.{IsQuotedUpTo, quoted_begun, pair_ended, quote_closes, byte_passed}
use Rattle.bundle_layout.proofs.parts.quoted_length.Goals as goal

pub loop-at-init : goal.loop-at-init
loop-at-init c = quoted_begun c.args.text.now c.requires

pub loop-at-preserved-then-paired : goal.loop-at-preserved-then-paired
loop-at-preserved-then-paired c =
    let text = c.args.text.now in
    pair_ended text c.loop-at.at (subst (λ paired. IsQuotedUpTo text paired c.loop-at.at) c.if-paired.true c.loop-at.invariant) c.loop-at-test.true

pub returns-then-byte-eq34 : goal.returns-then-byte-eq34
returns-then-byte-eq34 c =
    let text = c.args.text.now in
    quote_closes text c.loop-at.at (subst (λ paired. IsQuotedUpTo text paired c.loop-at.at) c.if-paired.false c.loop-at.invariant) c.loop-at-test.true c.if-byte-eq34.true

pub loop-at-preserved : goal.loop-at-preserved
loop-at-preserved c =
    let text = c.args.text.now in
    byte_passed text c.loop-at.at (subst (λ paired. IsQuotedUpTo text paired c.loop-at.at) c.if-paired.false c.loop-at.invariant) c.loop-at-test.true c.if-byte-eq34.false
