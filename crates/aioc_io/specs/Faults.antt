-- How a count of faults moves.
use Rattle.std.specs.Prelude.{◌≡◌, ◌⊎◌, ℕ, ◌+◌, ◌<◌, min, Result, Ok, Err}

-- the last value of a counter of 64 bits, at which it stands still
abbrev pub last_count : ℕ
last_count = 18446744073709551615

-- the count rose in a call: it is greater after the call than before, or stands at a counter's last
-- value
abbrev pub Rose : ℕ → ℕ → Type 0
Rose before after = (before < after) ⊎ (after ≡ last_count)

-- one more, or a counter's last value
abbrev pub one_more : ℕ → ℕ
one_more count = min (count + 1) last_count

-- the count after a call that counts its own failure and nothing else
abbrev pub count_after : {T E : Type 0} → Result T E → ℕ → ℕ
count_after (Ok _) count = count
count_after (Err _) count = one_more count
