-- Bytes that are repeated, texts that are cut, and pieces of numbered items.
use Rattle.std.specs.Prelude.{ℕ, zero, suc, ◌-◌, ◌/◌, List, [], ◌∷◌, ◌++◌, length, take, drop, codes, nat_le, if◌then◌else◌}

-- a byte, so many times
abbrev pub repeated : ℕ → ℕ → List ℕ
repeated byte zero = []
repeated byte (suc count) = repeated byte count ++ byte ∷ []

-- how much is shown of the end of a text that is cut to so many bytes, three dots among them
abbrev pub tail_shown : ℕ → ℕ
tail_shown most = (most - 3) / 3

-- a text of at most so many bytes: where it has more, its front and its end with three dots between
abbrev pub shortened : ℕ → List ℕ → List ℕ
shortened most bytes = if nat_le (length bytes) most then bytes
    else take (most - 3 - tail_shown most) bytes ++ codes "..."
    ++ drop (length bytes - tail_shown most) bytes

-- the pieces of the items, numbered from `first` on, one behind the other
abbrev pub pieces_from : {T : Type 0} → (ℕ → T → List ℕ) → ℕ → List T → List ℕ
pieces_from piece first [] = []
pieces_from piece first (item ∷ items) = piece first item ++ pieces_from piece (suc first) items

-- the pieces of the numbers below `count`
abbrev pub pieces_below : (ℕ → List ℕ) → ℕ → List ℕ
pieces_below piece zero = []
pieces_below piece (suc count) = pieces_below piece count ++ piece count

-- texts, one behind the other
abbrev pub end_to_end : List (List ℕ) → List ℕ
end_to_end [] = []
end_to_end (text ∷ texts) = text ++ end_to_end texts
