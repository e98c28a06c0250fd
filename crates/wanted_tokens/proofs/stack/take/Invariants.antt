-- The goals that are gone passed the token on.
use Rattle.std.proofs.Common.{◌≡◌, length, reverse}
use Rattle.wanted_tokens.specs.Wanted.{reading_behind}
use Rattle.wanted_tokens.proofs.stack.take.Given as goal

abbrev pub invariant-goals : goal.invariant-goals
invariant-goals l =
    (reading_behind l.second (reverse l.stack.items) l.look ≡ reading_behind l.initial.second (reverse l.initial.stack.items) l.look)
    × (l.second ≡ l.initial.second)

abbrev pub decreases-goals : goal.decreases-goals
decreases-goals l = length l.stack.items
