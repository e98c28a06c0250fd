-- The views of drawers: at the start, and after each call.
use Rattle.std.specs.Prelude.{ℕ, ◌+◌, ◌-◌, List, [], ◌∷◌, ◌++◌}
use Rattle.ticket_table.specs.declared.views.View.{View}

-- of who has these parts, and has drawn these tickets
abbrev pub holding : ℕ → List ℕ → View
holding parts drawn = record { parts = parts; drawn = drawn }

-- of who has drawn one more
abbrev pub with_ticket : View → ℕ → View
with_ticket v ticket = record v { drawn = v.drawn ++ ticket ∷ [] }

-- of who has given a part away
abbrev pub one_part_less : View → View
one_part_less v = record v { parts = v.parts - 1 }

-- of who was given it
abbrev pub newcomer : View → View
newcomer _ = holding 1 []

-- of two drawers that were joined into the first
abbrev pub joined : View → View → View
joined v w = holding (v.parts + w.parts) (v.drawn ++ w.drawn)

-- of the second of them
abbrev pub spent : View
spent = holding 0 []
