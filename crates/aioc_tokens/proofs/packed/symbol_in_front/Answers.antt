use Rattle.std.proofs.Common.{[], ◌∷◌, ◌∙◌, ap, sym, get_or}
use Rattle.std.specs.Option.{option_map_or}
use Rattle.aioc_tokens.specs.declared.kinds.Kind.TheVariants as kinds
use Rattle.aioc_tokens.specs.Lexemes.{Long, Symbol, sort_of}
use Rattle.aioc_tokens.proofs.Blanks.{no_blank}
use Rattle.aioc_tokens.proofs.Firsts.{no_other, symbol_by}
use Rattle.aioc_tokens.proofs.packed.symbol_in_front.Goals as goal

pub returns-in-Some : goal.returns-in-Some
returns-in-Some c = record {
  kind = kinds.Symbol;
  token = c.in-Some.ensures.token;
  sort_is = c.of.ensures ∙ ap (λ found. sort_of (option_map_or Symbol found Long ∷ [])) (sym c.in-Some.ensures.known);
}

pub returns-in-None : goal.returns-in-None
returns-in-None c =
    let text = c.args.text.now in
    let kind = symbol_by (get_or text 0 0) c.requires.no_letter c.requires.no_digit c.requires.no_quote in
    (no_blank text c.requires.no_space c.requires.no_comment, no_other text kinds.Symbol kind c.in-None.ensures)
