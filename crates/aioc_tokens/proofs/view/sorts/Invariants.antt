-- The sorts of the tokens so far are found.
use Rattle.std.proofs.Common.{◌≡◌, take}
use Rattle.aioc_tokens.specs.Lexemes.{lexemes, all_sorts}
use Rattle.aioc_tokens.proofs.view.sorts.Given as goal

abbrev pub invariant-loop-token : goal.invariant-loop-token
invariant-loop-token l = l.found.items ≡ take l.token-index (all_sorts (lexemes l.bytes l.tokens))
