-- Why a line may not stand where it stands.
use Rattle.std.proofs.Common.{rules, subst, IsErrOf}
use Rattle.trace_picture.specs.Reading.{LineSays, IsUnread, unread, behind_last}
use Rattle.trace_picture.specs.declared.reading.LineFault.TheVariants as line_fault
use Rattle.trace_picture.proofs.reading.next_line.Goals as goal

pub returns-in_err-said-clause-bad : goal.returns-in_err-said-clause-bad
returns-in_err-said-clause-bad c = λ is.
    let fault : IsErrOf c.read_line.result line_fault.NoLine = search rules in
    unread (subst IsUnread c.first_line_of.ensures (c.read_line.ensures.bad fault))

pub returns-clause-bad : goal.returns-clause-bad
returns-clause-bad c = λ is.
    behind_last (subst (λ line. LineSays line c.in_ok-said.said.entries c.in_ok-said.said.last) c.first_line_of.ensures c.in_ok-said.ensures.ok)
    (c.add_said.ensures.bad is)
