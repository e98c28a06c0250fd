use Rattle.std.proofs.Common.{Err, ap, ◌∙◌}
use Rattle.aioc_tokens.proofs.Unique.{tokens_or_bad_byte}
use Rattle.text_places.proofs.known.tokens_of.Goals as goal

-- no byte is bad where there are tokens
pub unreachable-requires : goal.unreachable-requires
unreachable-requires c =
    tokens_or_bad_byte 0 c.args.bytes.now c.requires.0 c.in-Err-BadByte.field-0-0 c.requires.1
    (c.tokens.ensures.bad c.in-Err-BadByte.field-0-0 (c.in-Err-BadByte.is ∙ ap Err c.in-Err-BadByte.field-0-is))
