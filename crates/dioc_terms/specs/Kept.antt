-- How the bytes of a name are kept.
use Rattle.std.specs.Prelude.{◌≡◌, ℕ, ◌≤◌, ◌+◌, ◌-◌, List, [], ◌∷◌, drop, get_or, replicate, take}
use Rattle.dioc_terms.specs.declared.names.Kept.{Kept}
use Rattle.dioc_terms.specs.declared.names.Kept.TheVariants as kept

-- the bytes: the first ones of those in place, or all in the box
abbrev pub kept_items : Kept → List ℕ
kept_items (kept.Short count bytes) = take count bytes
kept_items (kept.Long bytes) = bytes.value.items

-- no more are in place than there is room for, and behind them are zeros
abbrev pub IsKept : Kept → Type 0
IsKept (kept.Short count bytes) = (count ≤ 14) × (drop count bytes ≡ replicate (14 - count) 0)
IsKept (kept.Long bytes) = Unit {0}

-- the eight bytes from this place on
abbrev pub eight : List ℕ → ℕ → List ℕ
eight bytes at =
    get_or bytes at 0 ∷ get_or bytes (at + 1) 0 ∷ get_or bytes (at + 2) 0
    ∷ get_or bytes (at + 3) 0 ∷ get_or bytes (at + 4) 0 ∷ get_or bytes (at + 5) 0
    ∷ get_or bytes (at + 6) 0 ∷ get_or bytes (at + 7) 0 ∷ []
