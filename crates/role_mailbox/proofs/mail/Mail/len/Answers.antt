-- There is no message exactly where none is pending for any key.
use Rattle.std.proofs.Common.{sym, ◌∙◌}
use Rattle.role_mailbox.proofs.MailLemmas.{nothing_at, none_at, distinct_shown, length-messages}
use Rattle.role_mailbox.proofs.mail.Mail.len.Goals as goal

pub returns-clause-none : goal.returns-clause-none
returns-clause-none c =
    let mail = c.args.self.now in
    let counted = c.len.ensures.len ∙ sym (length-messages mail) in
    (λ zero. nothing_at mail (sym counted ∙ zero), λ none. counted ∙ none_at mail none)

pub returns-clause-distinct : goal.returns-clause-distinct
returns-clause-distinct c = distinct_shown c.args.self.now c.len.ensures.unique
