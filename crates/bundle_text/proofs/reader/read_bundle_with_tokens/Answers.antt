-- What the looks show, said of the bytes.
use Rattle.std.proofs.Common.{◌≡◌, ◌≢◌, ℕ, ◌≤◌, List, length, Result, Err, refl, sym, subst, ap, ◌∙◌, arith}
use Rattle.limits.specs.Limits.{most_bytes}
use Rattle.dioc_terms.specs.Plain.{plain}
use Rattle.aioc_tokens.specs.declared.kinds.Token.{Token}
use Rattle.aioc_tokens.specs.Lexing.{Lexes, place_of}
use Rattle.aioc_tokens.specs.Lexemes.{Lexeme, lexemes}
use Rattle.dioc_terms.specs.declared.faults.SyntaxFault.{SyntaxFault}
use Rattle.dioc_terms.specs.declared.faults.SyntaxFault.TheVariants as fault
use Rattle.wanted_tokens.specs.declared.goals.Goal.TheVariants as goals
use Rattle.bundle_text.specs.declared.stops.Stop.{Stop}
use Rattle.bundle_text.specs.declared.stops.Stop.TheVariants as stop
use Rattle.bundle_text.specs.Stops.{place_in, EndsAt, EndsAtByte, bad_byte, at_token, named_place}
use Rattle.bundle_text.proofs.Wholes.{bad_byte_none, byte_none}
use Rattle.bundle_text.proofs.Formed.{read_formed}
use Rattle.bundle_text.proofs.reader.read_bundle_with_tokens.Goals as goal

pub returns-in-Err-BadByte-clause-syntax : goal.returns-in-Err-BadByte-clause-syntax
returns-in-Err-BadByte-clause-syntax c =
    λ other. bad_byte_none c.args.bytes.now c.in-Err-BadByte.at (c.packed_tokens.ensures.bad c.in-Err-BadByte.at (c.in-Err-BadByte.is ∙ ap Err c.in-Err-BadByte.field-0-is))

pub returns-in-Err-BadByte-clause-byte : goal.returns-in-Err-BadByte-clause-byte
returns-in-Err-BadByte-clause-byte c = λ byte is.
    let same : c.in-Err-BadByte.at ≡ byte = cc in
    subst (EndsAtByte c.args.bytes.now) same (bad_byte (omega arith) (c.packed_tokens.ensures.bad c.in-Err-BadByte.at (c.in-Err-BadByte.is ∙ ap Err c.in-Err-BadByte.field-0-is)))

pub returns-in-Ok-bundle_at-clause-formed : goal.returns-in-Ok-bundle_at-clause-formed
returns-in-Ok-bundle_at-clause-formed c =
    read_formed c.args.bytes.now c.packed.result (plain c.in-Ok-bundle_at.bundle) c.packed.ensures.lexemes c.in-Ok-bundle_at.ensures.found

-- the reader stopped at a place
stopped : (s : Stop) (at : ℕ) (text : List Lexeme) → (s ≢ stop.Memory → EndsAt text (place_in s)) → s ≡ stop.At at → EndsAt text at
stopped s at text told is = subst (λ (s : Stop). EndsAt text (place_in s)) is (told (λ e. cc))

ends : (bytes : List ℕ) (tokens : List Token) (s : Stop) (at : ℕ) (text : List Lexeme) → length bytes ≤ most_bytes → Lexes 0 bytes tokens → text ≡ lexemes bytes tokens → (s ≢ stop.Memory → EndsAt text (place_in s)) → s ≡ stop.At at
    → EndsAtByte bytes (place_of bytes tokens (named_place goals.Bundle (lexemes bytes tokens) at))
ends bytes tokens s at text small lexes are told is = at_token small lexes (subst (λ list. EndsAt list at) are (stopped s at text told is)) refl

pub returns-in-Err-At-clause-syntax : goal.returns-in-Err-At-clause-syntax
returns-in-Err-At-clause-syntax c = λ other.
    byte_none c.args.bytes.now (place_of c.args.bytes.now c.packed.ensures.lexemes.tokens (named_place goals.Bundle (lexemes c.args.bytes.now c.packed.ensures.lexemes.tokens) c.in-Err-At.at))
    (ends c.args.bytes.now c.packed.ensures.lexemes.tokens c.in-Err-At.field-0 c.in-Err-At.at c.packed.result (omega arith) c.packed.ensures.lexemes.lexes (sym c.packed.ensures.lexemes.lexemes_are) c.in-Err-At.ensures.stopped c.in-Err-At.field-0-is)

-- the byte that a fault names
syntax_of : {A : Type 0} {told wanted : SyntaxFault} → ◌≡◌ {A = Result A SyntaxFault} (Err told) (Err wanted) → told ≡ wanted
syntax_of is = cc

named_byte : (told : SyntaxFault) (byte place : ℕ) → (told ≢ fault.Memory → told ≡ fault.Syntax place) → told ≡ fault.Syntax byte → place ≡ byte
named_byte told byte place names is = let named = names (λ e. cc) in cc

pub returns-in-Err-At-clause-byte : goal.returns-in-Err-At-clause-byte
returns-in-Err-At-clause-byte c = λ byte is.
    let text = c.args.bytes.now in
    let tokens = c.packed.ensures.lexemes.tokens in
    let same = named_byte c.refusal.result byte _ (c.refusal.ensures tokens c.packed.ensures.lexemes.lexes) (syntax_of is) in
    subst (EndsAtByte text) same
    (ends text tokens c.in-Err-At.field-0 c.in-Err-At.at c.packed.result (omega arith) c.packed.ensures.lexemes.lexes (sym c.packed.ensures.lexemes.lexemes_are) c.in-Err-At.ensures.stopped c.in-Err-At.field-0-is)

pub refusal-requires : goal.refusal-requires
refusal-requires c = (c.packed.ensures.lexemes.tokens, c.packed.ensures.lexemes.lexes)
