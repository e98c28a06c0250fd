-- The tokens before the place are taken.
use Rattle.std.proofs.Common.{◌≡◌, ◌+◌, ◌-◌, ◌≤◌, drop, length, reverse, option_map}
use Rattle.wanted_tokens.specs.Wanted.{stop, unwanted}
use Rattle.wanted_tokens.proofs.stack.first_unwanted.Given as goal

abbrev pub invariant-tokens : goal.invariant-tokens
invariant-tokens l =
    (unwanted l.fn.whole l.text ≡ option_map (λ n. l.at + n)
    (stop (drop l.at l.text) (record { second = l.second; wanted = reverse l.stack.items })))
    × (l.at ≤ length l.text)

abbrev pub decreases-tokens : goal.decreases-tokens
decreases-tokens l = length l.text - l.at
