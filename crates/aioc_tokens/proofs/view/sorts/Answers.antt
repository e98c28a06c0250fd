use Rattle.std.proofs.Common.{◌<◌, ◌∷◌, ◌++◌, [], length, slice_index_or, ap, ◌∙◌}
use Rattle.std.proofs.lemmas.List.{get_or_default}
use Rattle.aioc_tokens.specs.declared.kinds.Kind.TheVariants as kinds
use Rattle.aioc_tokens.specs.declared.kinds.Token.{Token}
use Rattle.aioc_tokens.specs.Lexemes.{lexeme, sort_of}
use Rattle.aioc_tokens.proofs.Looks.{token_read, sorts_further}
use Rattle.aioc_tokens.proofs.view.sorts.Goals as goal

pub bytes_of-requires : goal.bytes_of-requires
bytes_of-requires c =
    let none : Token = record { kind = kinds.Name; start = 0; end = 0 } in
    let at = c.loop-token.token-index in
    let inside : at < length c.args.tokens.now = c.loop-token-test.true in
    let token = slice_index_or c.args.tokens.now at none in
    token_read c.args.bytes.now c.args.tokens.now c.requires at token inside (get_or_default c.args.tokens.now at none token inside)

pub loop-token-preserved : goal.loop-token-preserved
loop-token-preserved c =
    let none : Token = record { kind = kinds.Name; start = 0; end = 0 } in
    let at = c.loop-token.token-index in
    let inside : at < length c.args.tokens.now = c.loop-token-test.true in
    let token = slice_index_or c.args.tokens.now at none in
    c.in_ok-push.ensures.items
    ∙ ap (λ sort. c.loop-token.found.items ++ (sort ∷ [])) (c.sort_of.ensures ∙ ap (λ bytes. sort_of (lexeme token.kind bytes ∷ [])) c.bytes_of.ensures.value)
    ∙ sorts_further c.args.bytes.now c.args.tokens.now at token c.loop-token.found.items c.requires inside (get_or_default c.args.tokens.now at none token inside) c.loop-token.invariant
