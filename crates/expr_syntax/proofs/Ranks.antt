-- Why the readers of the levels end: each call is at a later place, or at the same place with less to do there.
use Rattle.std.proofs.Common.{ℕ, ◌+◌, ◌*◌, ◌-◌}

-- how far it is to the end of a list of this length, and how much is to do at the place
abbrev pub left_over : ℕ → ℕ → ℕ → ℕ
left_over size at steps = 16 * (size - at) + steps
