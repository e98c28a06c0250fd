use Rattle.marked_laws.proofs.MailLemmas.{mail-is_a_map}
use Rattle.marked_laws.proofs.mail_laws.mail_is_a_map.Goals as goal

pub returns : goal.returns
returns c = mail-is_a_map
