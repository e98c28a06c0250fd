use Rattle.std.proofs.lemmas.Grind.{common_steps}
use Rattle.role_mailbox.proofs.MailLemmas.{distinct_shown, payload_in_map, taken_shown}
use Rattle.std.proofs.Common.{arith, rules}
use Rattle.role_mailbox.proofs.mail.Mail.take.Goals as goal

pub returns-clause-payload : goal.returns-clause-payload
returns-clause-payload c = grind (arith, distinct_shown, payload_in_map, taken_shown)

pub returns-clause-taken : goal.returns-clause-taken
returns-clause-taken c = grind (arith, distinct_shown, payload_in_map, taken_shown)

pub returns-clause-count : goal.returns-clause-count
returns-clause-count c = grind (arith, common_steps)

pub returns-clause-same : goal.returns-clause-same
returns-clause-same c = search rules depth 2

pub returns-clause-keeps_room : goal.returns-clause-keeps_room
returns-clause-keeps_room c = assumption

pub returns-clause-distinct : goal.returns-clause-distinct
returns-clause-distinct c = grind (arith, distinct_shown, payload_in_map, taken_shown)
