-- Places of a text where choreographies are read.
use Rattle.std.specs.Prelude.{ℕ, ◌+◌, ◌-◌}
use Rattle.limits.specs.Limits.{most_depth}
use Rattle.dioc_syntax.specs.declared.places.Place.{Place}

-- where a whole choreography begins: nothing of it stands before it
abbrev pub front : ℕ → ℕ → Place
front at room = record { at = at; room = room; deep = most_depth; earlier = 0 }

-- behind the bracket that opens at a place: one bracket fewer may be open at once
abbrev pub inside : Place → Place
inside place =
    record { at = place.at + 1; room = place.room - 1; deep = place.deep; earlier = place.earlier }

-- behind the word that stands at a place
abbrev pub behind : Place → Place
behind place =
    record { at = place.at + 1; room = place.room; deep = place.deep; earlier = place.earlier }

-- a part is less deep than the choreography that begins at a place, and follows its constructs
abbrev pub part : Place → ℕ → ℕ → Place
part place at earlier =
    record { at = at; room = place.room; deep = place.deep - 1; earlier = earlier }
