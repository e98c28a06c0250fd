use Rattle.std.proofs.Common.{arith}
use Rattle.ticket_table.proofs.Steps.{splits}
use Rattle.ticket_table.proofs.tickets.Tickets.split.Goals as goal

pub split_seat-token-requires : goal.split_seat-token-requires
split_seat-token-requires c = (
  c.requires.of.0,
  omega (arith, c.args.self.now.sized.0),
  splits _ _ c.args.drawer.now.token.me.0 c.requires.parts c.requires.none,
)

pub returns-clause-view : goal.returns-clause-view
returns-clause-view c = cc

pub returns-clause-new : goal.returns-clause-new
returns-clause-new c = cc
