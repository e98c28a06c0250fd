-- Where the message of a put arrives: at the first take of its key behind it.
use Rattle.std.specs.Prelude.{◌≡◌, ℕ, ◌+◌, ◌<◌, Bool, false, List, [], ◌∷◌, length, drop, get_or, Option, Some, None, if◌then◌else◌}
use Rattle.dioc_terms.specs.declared.entries.Entry.{Entry}
use Rattle.dioc_terms.specs.declared.entries.Entry.TheVariants as entry
use Rattle.dioc_terms.specs.declared.processes.Key.{Key}
use Rattle.dioc_terms.specs.Equality.{key_eq}

-- whether an entry takes the message of a key
abbrev pub takes : Key → Entry → Bool
takes key (entry.Take k x) = key_eq k key
takes key _ = false

-- the row of the first of these entries that takes it, where the first stands in `row`
abbrev pub taken_from : Key → ℕ → List Entry → Option ℕ
taken_from key row [] = None
taken_from key row (e ∷ later) = if takes key e then Some row else taken_from key (row + 1) later

-- the row of the take of the message that an entry puts, where this is the row of each key's take
abbrev pub found_by : (Key → Option ℕ) → Entry → Option ℕ
found_by row_of (entry.Put k n) = row_of k
found_by row_of _ = None

-- the row where the message of this entry in this row arrives; none of an entry that puts none, and
-- none of a message that is never taken
abbrev pub arrival : List Entry → ℕ → Entry → Option ℕ
arrival entries row e = found_by (λ k. taken_from k (row + 1) (drop (row + 1) entries)) e

-- this is the list of where the messages of the entries arrive
pub record AreArrivals (entries : List Entry) (arrivals : List (Option ℕ)) : Type 0 where
  pub as_many : length arrivals ≡ length entries
  pub at : (row : ℕ) (e : Entry) → row < length entries → e ≡ get_or entries row e
      → get_or arrivals row None ≡ arrival entries row e
