use Rattle.std.proofs.Common.{◌≡◌, List, take, filter}
use Rattle.aioc_tokens.specs.Lexemes.{Lexeme}
use Rattle.wanted_items.specs.Items.{is_wanted}
use Rattle.wanted_items.specs.Walks.{IsWalk}
use Rattle.wanted_items.proofs.trials.wanted_among.Given as goal

abbrev pub invariant-loop-item : goal.invariant-loop-item
invariant-loop-item l = (front : List Lexeme) → IsWalk front l.walk → l.items.items ≡ filter (is_wanted front) (take l.item-index l.all)
