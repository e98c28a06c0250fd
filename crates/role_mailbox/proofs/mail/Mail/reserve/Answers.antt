use Rattle.std.proofs.Common.{rules}
use Rattle.role_mailbox.proofs.mail.Mail.reserve.Goals as goal

pub returns-clause-ok : goal.returns-clause-ok
returns-clause-ok c = search rules depth 2
