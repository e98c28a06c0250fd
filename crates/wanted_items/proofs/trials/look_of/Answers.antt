use Rattle.std.proofs.Common.{ap, ◌∙◌}
use Rattle.aioc_tokens.specs.Lexemes.{lexemes}
use Rattle.wanted_tokens.specs.Looks.{look}
use Rattle.wanted_items.proofs.Tries.{item_has_tokens, item_lexemes}
use Rattle.wanted_items.proofs.trials.look_of.Goals as goal

pub tokens_of-requires : goal.tokens_of-requires
tokens_of-requires c = item_has_tokens c.args.item c.spelling-spelling.result.now c.spelling-spelling.ensures

pub returns : goal.returns
returns c =
    let text = c.spelling-spelling.result.now in
    c.look_at.ensures
    ∙ ap look (c.new.ensures ∙ (ap (lexemes text) c.deref.ensures.value ∙ item_lexemes c.args.item text c.in_ok-found.found.items c.spelling-spelling.ensures c.in_ok-found.ensures))
