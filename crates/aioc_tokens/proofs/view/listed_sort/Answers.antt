use Rattle.std.proofs.Common.{◌∙◌}
use Rattle.aioc_tokens.specs.declared.words.Sort.TheVariants as sorts
use Rattle.aioc_tokens.specs.Lexemes.{lexemes}
use Rattle.aioc_tokens.proofs.Looks.{known_sort}
use Rattle.aioc_tokens.proofs.view.listed_sort.Goals as goal

pub returns-in-Some : goal.returns-in-Some
returns-in-Some c =
    let found = c.in-Some.ensures.lookup.3 in
    found.1 sorts.End ∙ known_sort c.args.listed.now (lexemes c.args.bytes.now c.args.tokens.now) c.args.at c.requires.known found.0
