use Rattle.std.proofs.Common.{arith}
use Rattle.ticket_table.proofs.Steps.{draws}
use Rattle.ticket_table.proofs.tickets.Tickets.draw.Goals as goal

pub fetch_add-requires : goal.fetch_add-requires
fetch_add-requires c = (
  c.requires.of.0,
  omega (arith, c.args.self.now.sized.0),
  draws _ _ _ c.args.drawer.now.token.me c.requires.some c.requires.few,
)

pub returns-clause-view : goal.returns-clause-view
returns-clause-view c = cc

pub returns-clause-beyond : goal.returns-clause-beyond
returns-clause-beyond c = assumption
