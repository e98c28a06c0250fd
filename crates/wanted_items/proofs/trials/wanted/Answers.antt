use Rattle.std.proofs.Common.{take}
use Rattle.aioc_tokens.specs.Lexemes.{lexemes}
use Rattle.wanted_items.proofs.Tries.{wanted_there}
use Rattle.wanted_items.proofs.trials.wanted.Goals as goal

pub returns : goal.returns
returns c =
    wanted_there (λ items. items.items) (take c.args.at (lexemes c.args.bytes.now c.args.known.now)) c.in_ok-walk.walk _ c.as_slice.result.now c.wanted_among.result c.in_ok-walk.ensures c.as_slice.ensures c.wanted_among.ensures
