use Rattle.std.proofs.Common.{ap, ◌∙◌, subst}
use Rattle.aioc_tokens.specs.declared.kinds.Token.{Token}
use Rattle.aioc_tokens.specs.Tokens.{Spells}
use Rattle.aioc_tokens.specs.Lexing.{bytes_of}
use Rattle.aioc_tokens.proofs.Looks.{token_read}
use Rattle.aioc_tokens.proofs.view.token_bytes.Goals as goal

pub bytes_of-requires : goal.bytes_of-requires
bytes_of-requires c =
    let token = c.in-Some.token.now in
    let found = c.in-Some.ensures.lookup.3 in
    token_read c.args.bytes.now c.args.tokens.now c.requires.lexes c.args.at token found.0 (found.1 token)

pub returns-clause-value : goal.returns-clause-value
returns-clause-value c = λ other.
    let found = c.in-Some.ensures.lookup.3 in
    c.bytes_of.ensures.value ∙ ap (bytes_of c.args.bytes.now) (found.1 other)

pub returns-clause-spells : goal.returns-clause-spells
returns-clause-spells c = λ other.
    let found = c.in-Some.ensures.lookup.3 in
    subst (λ (token : Token). Spells token.kind c.bytes_of.result.now) (found.1 other) c.bytes_of.ensures.spells
