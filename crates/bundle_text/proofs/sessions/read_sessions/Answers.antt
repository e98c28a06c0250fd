-- What the looks show, said of the bytes.
use Rattle.std.proofs.Common.{◌≡◌, ◌≢◌, ℕ, ◌≤◌, List, length, Result, Err, refl, sym, subst, ap, ◌∙◌, arith}
use Rattle.limits.specs.Limits.{most_bytes}
use Rattle.aioc_tokens.specs.declared.kinds.Token.{Token}
use Rattle.aioc_tokens.specs.Lexing.{Lexes, place_of}
use Rattle.aioc_tokens.specs.Lexemes.{Lexeme, lexemes}
use Rattle.dioc_terms.specs.declared.faults.SyntaxFault.{SyntaxFault}
use Rattle.dioc_terms.specs.declared.faults.SyntaxFault.TheVariants as fault
use Rattle.wanted_tokens.specs.declared.goals.Goal.TheVariants as goals
use Rattle.bundle_text.specs.declared.stops.Stop.{Stop}
use Rattle.bundle_text.specs.declared.stops.Stop.TheVariants as stop
use Rattle.bundle_text.specs.Sessions.{EndsAmongSessions, SessionsEndAtByte, at_token}
use Rattle.bundle_text.specs.Stops.{place_in, named_place}
use Rattle.bundle_text.proofs.SessionLists.{bad_byte_no_sessions, byte_no_sessions, sessions_formed}
use Rattle.bundle_text.proofs.sessions.read_sessions.Goals as goal

pub returns-in-Err-BadByte-clause-syntax : goal.returns-in-Err-BadByte-clause-syntax
returns-in-Err-BadByte-clause-syntax c =
    λ other. bad_byte_no_sessions c.args.bytes.now c.in-Err-BadByte.at (c.packed_tokens.ensures.bad c.in-Err-BadByte.at (c.in-Err-BadByte.is ∙ ap Err c.in-Err-BadByte.field-0-is))

pub returns-in-Ok-sessions_of-clause-formed : goal.returns-in-Ok-sessions_of-clause-formed
returns-in-Ok-sessions_of-clause-formed c =
    sessions_formed c.args.bytes.now c.packed.result c.in-Ok-sessions_of.sessions.items c.packed.ensures.lexemes c.in-Ok-sessions_of.ensures.stand

-- the reader stopped at a place
stopped : (s : Stop) (at : ℕ) (text : List Lexeme) → (s ≢ stop.Memory → EndsAmongSessions text (place_in s)) → s ≡ stop.At at → EndsAmongSessions text at
stopped s at text told is = subst (λ (s : Stop). EndsAmongSessions text (place_in s)) is (told (λ e. cc))

ends : (bytes : List ℕ) (tokens : List Token) (s : Stop) (at : ℕ) (text : List Lexeme) → length bytes ≤ most_bytes → Lexes 0 bytes tokens → text ≡ lexemes bytes tokens → (s ≢ stop.Memory → EndsAmongSessions text (place_in s)) → s ≡ stop.At at
    → SessionsEndAtByte bytes (place_of bytes tokens (named_place goals.Sessions (lexemes bytes tokens) at))
ends bytes tokens s at text small lexes are told is = at_token small lexes (subst (λ list. EndsAmongSessions list at) are (stopped s at text told is)) refl

pub returns-in-Err-At-clause-syntax : goal.returns-in-Err-At-clause-syntax
returns-in-Err-At-clause-syntax c = λ other.
    byte_no_sessions c.args.bytes.now (place_of c.args.bytes.now c.packed.ensures.lexemes.tokens (named_place goals.Sessions (lexemes c.args.bytes.now c.packed.ensures.lexemes.tokens) c.in-Err-At.at))
    (ends c.args.bytes.now c.packed.ensures.lexemes.tokens c.in-Err-At.field-0 c.in-Err-At.at c.packed.result (omega arith) c.packed.ensures.lexemes.lexes (sym c.packed.ensures.lexemes.lexemes_are) c.in-Err-At.ensures.stopped c.in-Err-At.field-0-is)

-- the byte that a fault names
syntax_of : {A : Type 0} {told wanted : SyntaxFault} → ◌≡◌ {A = Result A SyntaxFault} (Err told) (Err wanted) → told ≡ wanted
syntax_of is = cc

named_byte : (told : SyntaxFault) (byte place : ℕ) → (told ≢ fault.Memory → told ≡ fault.Syntax place) → told ≡ fault.Syntax byte → place ≡ byte
named_byte told byte place names is = let named = names (λ e. cc) in cc

pub returns-in-Err-At-clause-byte : goal.returns-in-Err-At-clause-byte
returns-in-Err-At-clause-byte c = λ byte is.
    let text = c.args.bytes.now in
    let tokens = c.packed.ensures.lexemes.tokens in
    let same = named_byte c.refusal.result byte _ (c.refusal.ensures tokens c.packed.ensures.lexemes.lexes) (syntax_of is) in
    subst (SessionsEndAtByte text) same
    (ends text tokens c.in-Err-At.field-0 c.in-Err-At.at c.packed.result (omega arith) c.packed.ensures.lexemes.lexes (sym c.packed.ensures.lexemes.lexemes_are) c.in-Err-At.ensures.stopped c.in-Err-At.field-0-is)

pub refusal-requires : goal.refusal-requires
refusal-requires c = (c.packed.ensures.lexemes.tokens, c.packed.ensures.lexemes.lexes)
