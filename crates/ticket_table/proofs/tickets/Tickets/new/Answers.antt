use Rattle.ticket_table.proofs.Steps.{opens}
use Rattle.ticket_table.proofs.tickets.Tickets.new.Goals as goal

pub of_words-requires : goal.of_words-requires
of_words-requires c = opens c.args.parts c.requires
