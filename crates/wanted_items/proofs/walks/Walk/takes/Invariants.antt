-- The goals that are left behind passed the token on.
use Rattle.std.proofs.Common.{◌≡◌, ◌≤◌, take, length, reverse, is_some}
use Rattle.wanted_tokens.specs.Wanted.{reading_behind}
use Rattle.wanted_items.proofs.walks.Walk.takes.Given as goal

abbrev pub invariant-goals : goal.invariant-goals
invariant-goals l =
    (is_some (reading_behind l.self.second (reverse l.self.goals.items) l.look)
    ≡ is_some (reading_behind l.self.second (reverse (take l.left l.self.goals.items)) l.look))
    × (l.left ≤ length l.self.goals.items)

abbrev pub decreases-goals : goal.decreases-goals
decreases-goals l = l.left
