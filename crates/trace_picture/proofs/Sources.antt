-- What a source that is too long tells.
use Rattle.std.proofs.Common.{◌<◌, ◌≡◌, ◌+◌, ℕ, List, length, Option, Some, None, IfSome}
use Rattle.std.specs.Prelude.{drop}

-- it has more bytes than the limit, whatever is left of it
pub longer : (limit : ℕ) (rest left : Option (List ℕ))
    → IfSome left (λ told. (limit < length told) × (rest ≡ Some (drop (limit + 1) told)))
    → IfSome left (λ told. limit < length told)
longer limit rest None h = h
longer limit rest (Some told) h = h.0
