-- Places of a text where expressions are read.
use Rattle.std.specs.Prelude.{ℕ, ◌+◌, ◌-◌}
use Rattle.expr_syntax.specs.declared.places.Place.{Place}

-- behind the bracket that opens at a place: one bracket fewer may be open at once
abbrev pub inside : Place → Place
inside place = record { at = place.at + 1; room = place.room - 1; deep = place.deep }

-- an operand is less deep than the expression that begins at a place
abbrev pub operand : Place → ℕ → Place
operand place at = record { at = at; room = place.room; deep = place.deep - 1 }
