-- The message is there.
use Rattle.std.proofs.Common.{Some, sym, ap, ◌∙◌, subst}
use Rattle.std.specs.Prelude.{option_map}
use Rattle.dioc_terms.specs.Plain.{plain, setting}
use Rattle.dioc_terms.specs.Processes.{load}
use Rattle.role_mailbox.specs.Pending.{ChangesOnly}
use Rattle.role_monitor.proofs.Begins.{any_err}
use Rattle.role_monitor.proofs.Owns.{appended_holds, held_same, same_messages, some_there}
use Rattle.role_monitor.specs.Judging.{HoldsMail}
use Rattle.role_monitor.specs.Monitoring.{mail_with_some, noted_load}
use Rattle.role_monitor.proofs.messages.receive.Goals as goal

pub returns-then-holds-clause-received : goal.returns-then-holds-clause-received
returns-then-holds-clause-received c = λ pending held.
    some_there pending c.reserve.new.self c.args.key.now (noted_load (setting (plain c.args.bundle.now)) c.args.key.now.to c.args.updates.now c.args.note.now)
    (held_same pending c.args.mail.now c.reserve.new.self c.reserve.ensures.same held) (sym c.holds.ensures.holds ∙ c.if-holds.true)

pub returns-in-Ok-clause-received : goal.returns-in-Ok-clause-received
returns-in-Ok-clause-received c = λ pending held.
    let k = c.args.key.now in
    let l = load c.in-Some.payload in
    let told = sym (sym (ap (option_map load) c.in-Some.is) ∙ c.in_ok-noted_payload.ensures) in
    subst (λ o. HoldsMail (mail_with_some k o pending) c.put.new.self) (sym told)
    (appended_holds c.mail_is_a_map.ensures pending c.reserve.new.self c.put.new.self k l (held_same pending c.args.mail.now c.reserve.new.self c.reserve.ensures.same held) c.if-holds.ensures.free
    (subst (λ j. ChangesOnly c.reserve.new.self c.put.new.self j (Some l)) c.in-Ok.ensures c.put.ensures.put))

pub returns-in-None-clause-received : goal.returns-in-None-clause-received
returns-in-None-clause-received c = λ pending held.
    let told = sym (sym (ap (option_map load) c.in-None.is) ∙ c.in_ok-noted_payload.ensures) in
    subst (λ o. HoldsMail (mail_with_some c.args.key.now o pending) c.reserve.new.self) (sym told) (held_same pending c.args.mail.now c.reserve.new.self c.reserve.ensures.same held)

pub returns-in_err-reserve-clause-same : goal.returns-in_err-reserve-clause-same
returns-in_err-reserve-clause-same c = any_err c.from_residual.result (same_messages c.args.mail.now c.reserve.new.self c.reserve.ensures.same)

pub returns-in_err-noted_payload-clause-same : goal.returns-in_err-noted_payload-clause-same
returns-in_err-noted_payload-clause-same c = any_err c.from_residual-in_err-noted_payload.result (same_messages c.args.mail.now c.reserve.new.self c.reserve.ensures.same)

pub returns-in-Err-clause-same : goal.returns-in-Err-clause-same
returns-in-Err-clause-same c = any_err c.give_up.result (same_messages c.args.mail.now c.reserve.new.self c.reserve.ensures.same)
