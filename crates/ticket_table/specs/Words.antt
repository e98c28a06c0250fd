-- What contracts read of the tickets and of a drawer.
use Rattle.std.specs.Prelude.{◌≡◌, ℕ, List, []}
use Rattle.ticket_table.specs.declared.views.View.{View}
use Rattle.ticket_table.specs.declared.tickets.Tickets.{Tickets}
use Rattle.ticket_table.specs.declared.tickets.Drawer.{Drawer}

-- what the drawer knows
abbrev pub view : Drawer → View
view drawer = drawer.token.me.0

-- the tickets that it has drawn, in their order
abbrev pub drawn_by : Drawer → List ℕ
drawn_by drawer = (view drawer).drawn

abbrev pub parts_of : Drawer → ℕ
parts_of drawer = (view drawer).parts

-- the parts of all drawers together
abbrev pub all_parts : Tickets → ℕ
all_parts tickets = tickets.table.shared.key

abbrev pub IsDrawerOf : Tickets → Drawer → Type 0
IsDrawerOf tickets drawer =
    (drawer.token.table_id ≡ tickets.table.shared.table_id) × (drawer.token.me.1 ≡ [])
