use Rattle.std.proofs.Common.{Err, ap, ◌∙◌}
use Rattle.dioc_terms.specs.declared.faults.SyntaxFault.TheVariants as faults
use Rattle.aioc_tokens.specs.Lexing.{place_of}
use Rattle.aioc_tokens.specs.Lexemes.{lexemes}
use Rattle.aioc_tokens.proofs.Unique.{one_lexing, tokens_or_bad_byte}
use Rattle.bundle_text.specs.Stops.{named_place}
use Rattle.bundle_text.proofs.stops.refusal.Goals as goal

-- a text that has tokens has no bad byte
pub unreachable-requires : goal.unreachable-requires
unreachable-requires c =
    let at = c.in-Err-BadByte._at in
    tokens_or_bad_byte 0 c.args.bytes.now c.requires.0 at c.requires.1 (c.tokens.ensures.bad at (c.in-Err-BadByte.is ∙ ap Err c.in-Err-BadByte.field-0-is))

-- and it has one list of them
pub returns-in-Ok : goal.returns-in-Ok
returns-in-Ok c = λ tokens lexes told.
    let text = c.args.bytes.now in
    c.fault.ensures told
    ∙ ap (λ found. faults.Syntax (place_of text found (named_place c.args.whole (lexemes text found) c.args.at)))
    (c.deref.ensures.value ∙ one_lexing 0 text c.in-Ok.tokens.items tokens c.in-Ok.ensures.found lexes)
