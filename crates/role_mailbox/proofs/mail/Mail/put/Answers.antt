use Rattle.role_mailbox.proofs.MailLemmas.{distinct_shown, put_counts, put_shown}
use Rattle.std.proofs.Common.{arith}
use Rattle.role_mailbox.proofs.mail.Mail.put.Goals as goal

pub unwrap-requires : goal.unwrap-requires
unwrap-requires c = omega arith

pub returns-clause-put : goal.returns-clause-put
returns-clause-put c = grind (arith, distinct_shown, put_counts, put_shown)

pub returns-clause-count : goal.returns-clause-count
returns-clause-count c = grind (arith, distinct_shown, put_counts, put_shown)

pub returns-clause-room_left : goal.returns-clause-room_left
returns-clause-room_left c = assumption

pub returns-clause-distinct : goal.returns-clause-distinct
returns-clause-distinct c = grind (arith, distinct_shown, put_counts, put_shown)
