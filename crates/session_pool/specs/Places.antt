-- What was made, put at its places.
use Rattle.std.specs.Prelude.{List, [], ◌∷◌, Option, Some, slice_set}
use Rattle.session_pool.specs.declared.jobs.Numbered.{Numbered}

-- each at the place of its number, one after another
abbrev pub placed : {T : Type 0} → List (Option T) → List (Numbered T) → List (Option T)
placed places [] = places
placed places (first ∷ rest) = placed (slice_set places first.number (Some first.made)) rest
