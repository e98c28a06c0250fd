use Rattle.std.proofs.Common.{arith}
use Rattle.ticket_table.proofs.Steps.{joins}
use Rattle.ticket_table.proofs.tickets.Tickets.join.Goals as goal

pub join_seat-requires : goal.join_seat-requires
join_seat-requires c = (
  c.requires.of.0.0,
  c.requires.of.1.0,
  c.requires.of.1.1,
  omega (arith, c.args.self.now.sized.0),
  joins _ _ _ c.args.drawer.now.token.me.0 c.args.other.token.me.0,
)
