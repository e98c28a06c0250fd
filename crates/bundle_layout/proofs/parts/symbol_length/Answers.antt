use Rattle.std.proofs.Common.{ap, sym, ◌∙◌, is_some, arith}
use Rattle.aioc_tokens.proofs.Symbols.{short_for_pair}
use Rattle.bundle_layout.proofs.Lengths.{two_bytes, one_byte, not_found}
use Rattle.bundle_layout.proofs.parts.symbol_length.Goals.{else-text-gt1-via-then-text-gt1+else-is_some, else-text-gt1-via-else-text-gt1}
use Rattle.bundle_layout.proofs.parts.symbol_length.Goals as goal

pub returns-then-is_some : goal.returns-then-is_some
returns-then-is_some c =
    two_bytes c.args.text.now c.requires c.if-text-gt1.true (ap is_some (sym c.find_punctuator.ensures) ∙ sym c.is_some.ensures ∙ c.if-is_some.true)

pub returns-else-text-gt1 : goal.returns-else-text-gt1
returns-else-text-gt1 c = one_byte c.args.text.now c.requires (elim c.else-text-gt1.branch [
  | else-text-gt1-via-then-text-gt1+else-is_some w ↦ not_found c.args.text.now (ap is_some (sym w.find_punctuator.ensures) ∙ sym w.is_some.ensures ∙ w.if-is_some.false)
  | else-text-gt1-via-else-text-gt1 w ↦ short_for_pair c.args.text.now (omega (arith, w.if-text-gt1.false))
])
