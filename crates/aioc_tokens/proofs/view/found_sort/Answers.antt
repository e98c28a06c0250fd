use Rattle.std.proofs.Common.{[], ◌∷◌, ap, sym, ◌∙◌}
use Rattle.aioc_tokens.specs.Lexemes.{lexeme, sort_of}
use Rattle.aioc_tokens.proofs.Looks.{token_read, sort_read}
use Rattle.aioc_tokens.proofs.view.found_sort.Goals as goal

pub bytes_of-requires : goal.bytes_of-requires
bytes_of-requires c =
    let token = c.in-Some.token.now in
    let found = c.in-Some.ensures.lookup.3 in
    token_read c.args.bytes.now c.args.tokens.now (c.requires found.0) c.args.at token found.0 (found.1 token)

pub returns-in-Some : goal.returns-in-Some
returns-in-Some c =
    let token = c.in-Some.token.now in
    let found = c.in-Some.ensures.lookup.3 in
    c.sort_of.ensures ∙ ap (λ bytes. sort_of (lexeme token.kind bytes ∷ [])) c.bytes_of.ensures.value
    ∙ sym (sort_read c.args.bytes.now c.args.tokens.now (c.requires found.0) c.args.at token found.0 (found.1 token))
