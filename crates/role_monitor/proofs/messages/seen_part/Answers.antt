-- The part of an update that was heard of.
use Rattle.std.proofs.Common.{sym}
use Rattle.dioc_terms.specs.Plain.{plain, setting}
use Rattle.role_monitor.proofs.Begins.{if_ok}
use Rattle.role_monitor.proofs.Noted.{noted_none, noted_part}
use Rattle.role_monitor.proofs.messages.seen_part.Goals as goal

pub returns-in-Some : goal.returns-in-Some
returns-in-Some c =
    if_ok c.rule_part.result _ _
    (λ o h. noted_part (setting (plain c.args.bundle.now)) c.args.role.now c.args.updates.now c.args.epoch c.in-Some.update.now o c.if-epoch-eq0.false (sym c.in-Some.ensures) h) c.rule_part.ensures

pub returns-in-None : goal.returns-in-None
returns-in-None c = noted_none (setting (plain c.args.bundle.now)) c.args.role.now c.args.updates.now c.args.epoch c.if-epoch-eq0.false (sym c.in-None.ensures)
