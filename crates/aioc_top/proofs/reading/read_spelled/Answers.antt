-- Why the bytes of the source aren't had, or spell no sessions; any other command is read as without threads.
use Rattle.std.proofs.Common.{Err, refl, ap, subst}
use Rattle.std.proofs.lemmas.Result.{err_from_is_err_and}
use Rattle.bundle_text.specs.Sessions.{SessionsEndAtByte, SpellsNoSessions}
use Rattle.command_words.specs.declared.commands.Command.TheVariants as command
use Rattle.aioc_top.proofs.FaultLemmas.{no_sessions, unread}
use Rattle.aioc_top.proofs.reading.read_spelled.Goals as goal

pub returns-in_err-bytes-in-Sessions-clause-fault : goal.returns-in_err-bytes-in-Sessions-clause-fault
returns-in_err-bytes-in-Sessions-clause-fault g c =
    let p = err_from_is_err_and c.from_residual.result c.from_residual.ensures.1 in
    rw (p.1, p.2, c.in-Sessions.is)
    (unread (command.Sessions c.in-Sessions.options) (g.S.Source.state c.args.source.now) (g.S.Source.state c.read_text.new.source) refl _ c.in_err-bytes-in-Sessions.ensures.fault)

pub returns-in_err-read_sessions_by-in-Sessions-clause-fault : goal.returns-in_err-read_sessions_by-in-Sessions-clause-fault
returns-in_err-read_sessions_by-in-Sessions-clause-fault g c =
    let read = c.in_ok-bytes-in-Sessions.ensures in
    let none = c.in_err-read_sessions_by-in-Sessions.ensures in
    let same = c.deref.ensures.value in
    let p = err_from_is_err_and c.from_residual-in_err-read_sessions_by-in-Sessions.result c.from_residual-in_err-read_sessions_by-in-Sessions.ensures.1 in
    rw (p.1, p.2, c.in-Sessions.is)
    (no_sessions c.in-Sessions.options (g.S.Source.state c.args.source.now) (g.S.Source.state c.read_text.new.source) c.in_ok-bytes-in-Sessions.bytes.items read.bytes read.end read.few read.within _
    (λ other. subst (λ bytes. SpellsNoSessions bytes) same (none.syntax other)) (λ byte is. subst (λ bytes. SessionsEndAtByte bytes byte) same (none.byte byte (ap Err is))))
