use Rattle.std.proofs.Common.{◌-◌, ◌+◌, false, ap, sym, subst, ◌∙◌, take, drop, length, arith}
use Rattle.std.proofs.lemmas.List.{take_rest}
use Rattle.aioc_tokens.specs.declared.kinds.Kind.TheVariants.{Text}
use Rattle.aioc_tokens.specs.Tokens.{IsLongestToken}
use Rattle.aioc_tokens.specs.Packed.{text_end}
use Rattle.aioc_tokens.proofs.Quotes.{no_pair, quote_ends, bad_byte, no_end, text_longest, no_text}
use Rattle.aioc_tokens.proofs.scan.text_length.Goals as goal

pub returns-then-not-needs_pair : goal.returns-then-not-needs_pair
returns-then-not-needs_pair c =
    let text = c.args.text.now in
    let inside = take (length text - 1) (drop 1 text) in
    no_text text (ap (text_end false) (sym (take_rest text 1))
    ∙ no_pair inside _ _ c.loop-place.invariant c.loop-place-test.true c.if-paired.true (sym c.needs_pair.ensures ∙ c.if-not-needs_pair.true))

pub returns-then-byte-eq34 : goal.returns-then-byte-eq34
returns-then-byte-eq34 c =
    let text = c.args.text.now in
    let inside = take (length text - 1) (drop 1 text) in
    let ends = ap (text_end false) (sym (take_rest text 1)) ∙ quote_ends inside _ _ c.loop-place.invariant c.loop-place-test.true c.if-paired.false c.if-byte-eq34.true in
    subst (IsLongestToken text Text) (omega arith) (text_longest text (c.loop-place.place + 1) c.requires ends)

pub returns-then-not-is_printable : goal.returns-then-not-is_printable
returns-then-not-is_printable c =
    let text = c.args.text.now in
    let inside = take (length text - 1) (drop 1 text) in
    no_text text (ap (text_end false) (sym (take_rest text 1))
    ∙ bad_byte inside _ _ c.loop-place.invariant c.loop-place-test.true c.if-paired.false c.if-byte-eq34.false c.if-byte-eq92.false (sym c.is_printable.ensures ∙ c.if-not-is_printable.true))

pub returns : goal.returns
returns c =
    let text = c.args.text.now in
    let inside = take (length text - 1) (drop 1 text) in
    no_text text (ap (text_end false) (sym (take_rest text 1)) ∙ no_end inside _ _ c.loop-place.invariant c.loop-place-test.false)
