use Rattle.ticket_table.proofs.Closing.{closed_once}
use Rattle.ticket_table.proofs.tickets.Tickets.close.Goals as goal

pub returns-clause-once : goal.returns-clause-once
returns-clause-once c n lt = (closed_once _ _ c.args.drawer.token.me.0 _ _ c.requires.all c.close_with-closed.ensures.values.2 c.word-count.result c.word-count.ensures).0 n lt

pub returns-clause-none : goal.returns-clause-none
returns-clause-none c n le = (closed_once _ _ c.args.drawer.token.me.0 _ _ c.requires.all c.close_with-closed.ensures.values.2 c.word-count.result c.word-count.ensures).1 n le
