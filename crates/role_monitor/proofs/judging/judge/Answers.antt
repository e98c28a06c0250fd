-- What is judged of the role that was made ready is judged of the role.
use Rattle.std.proofs.Common.{Err, sym, ap, ◌∙◌, subst}
use Rattle.dioc_terms.specs.Plain.{plain, setting}
use Rattle.dpoc_process.specs.RoleSteps.{IsShown}
use Rattle.role_monitor.proofs.Begins.{all_ok, any_err, any_false, if_ok, on_err, on_false, on_true, scope_keeps, scope_refuses}
use Rattle.role_monitor.proofs.Owns.{keeps_same, messages_after, plain_keeps, plain_refuses, refuses_same, same_messages, unoffered_refused}
use Rattle.role_monitor.specs.Judging.{MisfitsStay}
use Rattle.net_core.specs.Scopes.{Tells}
use Rattle.rule_book.specs.KeptBooks.{book_of}
use Rattle.role_monitor.proofs.judging.judge.Goals as goal

pub judge_scope-kept-requires-clause-shown : goal.judge_scope-kept-requires-clause-shown
judge_scope-kept-requires-clause-shown g c = subst (λ s. IsShown s c.args.act c.in-Ok.shown) (sym c.prepare_act.ensures.same) c.in-Ok.ensures.shown

pub judge_scope-kept-requires-clause-tells : goal.judge_scope-kept-requires-clause-tells
judge_scope-kept-requires-clause-tells g c = subst (λ s. Tells c.args.scene.now.bundle.now.cast s c.args.act) (sym c.prepare_act.ensures.same) c.requires.tells

pub judge_plain-requires-clause-shown : goal.judge_plain-requires-clause-shown
judge_plain-requires-clause-shown g c = subst (λ s. IsShown s c.args.act c.in-Ok.shown) (sym c.prepare_act.ensures.same) c.in-Ok.ensures.shown

pub judge_plain-requires-clause-misfits : goal.judge_plain-requires-clause-misfits
judge_plain-requires-clause-misfits g c = subst (λ s. MisfitsStay s c.args.act) (sym c.prepare_act.ensures.same) c.requires.misfits

pub returns-then-is_scope-clause-kept : goal.returns-then-is_scope-clause-kept
returns-then-is_scope-clause-kept g c =
    let b = setting (plain c.args.scene.now.bundle.now) in
    let book = book_of c.args.scene.now.book.now in
    let us = c.args.updates.now.items in
    let e = c.args.scene.now.entry.now in
    let mail = c.reserve.new.self in
    let mid = g.R.Runs.local c.prepare_act.new.self in
    let new = g.R.Runs.local c.judge_scope-kept.new.state in
    let us' = c.judge_scope-kept.new.updates.items in
    if_ok c.judge_scope-kept.result _ _
    (λ t h. on_true t
    (λ k. keeps_same b c.args.mail.now mail (same_messages c.args.mail.now mail c.reserve.ensures.same) book us e c.args.act (g.R.Runs.local c.args.state.now) mid new mail us' c.prepare_act.ensures.same
    (scope_keeps b mid mail book us e c.args.act new us' k)) h)
    c.judge_scope-kept.ensures.kept

pub returns-then-is_scope-clause-refused : goal.returns-then-is_scope-clause-refused
returns-then-is_scope-clause-refused g c =
    let b = setting (plain c.args.scene.now.bundle.now) in
    let book = book_of c.args.scene.now.book.now in
    let us = c.args.updates.now.items in
    let e = c.args.scene.now.entry.now in
    let mail = c.reserve.new.self in
    let mid = g.R.Runs.local c.prepare_act.new.self in
    if_ok c.judge_scope-kept.result _ _
    (λ t h. on_false t
    (λ k. refuses_same b c.args.mail.now mail (same_messages c.args.mail.now mail c.reserve.ensures.same) book us e c.args.act (g.R.Runs.local c.args.state.now) mid c.prepare_act.ensures.same
    (scope_refuses b mid book us e c.args.act (sym c.is_scope.ensures ∙ c.if-is_scope.true) mail k)) h)
    c.judge_scope-kept.ensures.refused

pub returns-then-is_scope-clause-same_local : goal.returns-then-is_scope-clause-same_local
returns-then-is_scope-clause-same_local g c =
    if_ok c.judge_scope-kept.result _ _ (λ t h. on_false t (λ same. same ∙ c.prepare_act.ensures.same) h) c.judge_scope-kept.ensures.same_local

pub returns-then-is_scope-clause-same_mail : goal.returns-then-is_scope-clause-same_mail
returns-then-is_scope-clause-same_mail g c =
    all_ok c.judge_scope-kept.result _ (λ t. any_false t (same_messages c.args.mail.now c.reserve.new.self c.reserve.ensures.same))

pub returns-then-is_scope-clause-local_stays : goal.returns-then-is_scope-clause-local_stays
returns-then-is_scope-clause-local_stays g c =
    on_err c.judge_scope-kept.result (λ same. same ∙ c.prepare_act.ensures.same) c.judge_scope-kept.ensures.local_stays

pub returns-then-is_scope-clause-mail_stays : goal.returns-then-is_scope-clause-mail_stays
returns-then-is_scope-clause-mail_stays g c = any_err c.judge_scope-kept.result (same_messages c.args.mail.now c.reserve.new.self c.reserve.ensures.same)

pub returns-else-is_scope-clause-kept : goal.returns-else-is_scope-clause-kept
returns-else-is_scope-clause-kept g c =
    let b = setting (plain c.args.scene.now.bundle.now) in
    let book = book_of c.args.scene.now.book.now in
    let us = c.args.updates.now.items in
    let e = c.args.scene.now.entry.now in
    let mail = c.reserve.new.self in
    let mid = g.R.Runs.local c.prepare_act.new.self in
    let new = g.R.Runs.local c.judge_plain.new.state in
    on_true c.judge_plain.result
    (λ k. keeps_same b c.args.mail.now mail (same_messages c.args.mail.now mail c.reserve.ensures.same) book us e c.args.act (g.R.Runs.local c.args.state.now) mid new c.judge_plain.new.mail us
    c.prepare_act.ensures.same
    (plain_keeps b mid book us e c.args.act c.steps_show_their_acts.ensures (sym c.is_scope.ensures ∙ c.if-is_scope.false) mail new c.judge_plain.new.mail k))
    c.judge_plain.ensures.kept

pub returns-else-is_scope-clause-refused : goal.returns-else-is_scope-clause-refused
returns-else-is_scope-clause-refused g c =
    let b = setting (plain c.args.scene.now.bundle.now) in
    let book = book_of c.args.scene.now.book.now in
    let us = c.args.updates.now.items in
    let e = c.args.scene.now.entry.now in
    let mail = c.reserve.new.self in
    let mid = g.R.Runs.local c.prepare_act.new.self in
    on_false c.judge_plain.result
    (λ k. refuses_same b c.args.mail.now mail (same_messages c.args.mail.now mail c.reserve.ensures.same) book us e c.args.act (g.R.Runs.local c.args.state.now) mid c.prepare_act.ensures.same
    (plain_refuses b mid book us e c.args.act c.steps_show_their_acts.ensures (sym c.is_scope.ensures ∙ c.if-is_scope.false) mail k))
    c.judge_plain.ensures.refused

pub returns-else-is_scope-clause-same_local : goal.returns-else-is_scope-clause-same_local
returns-else-is_scope-clause-same_local g c = on_false c.judge_plain.result (λ same. same ∙ c.prepare_act.ensures.same) c.judge_plain.ensures.same_local

pub returns-else-is_scope-clause-same_mail : goal.returns-else-is_scope-clause-same_mail
returns-else-is_scope-clause-same_mail g c =
    on_false c.judge_plain.result
    (λ same. messages_after c.args.mail.now c.reserve.new.self c.judge_plain.new.mail (same_messages c.args.mail.now c.reserve.new.self c.reserve.ensures.same) same)
    c.judge_plain.ensures.same_mail

pub returns-in-Err-NoAct-clause-refused : goal.returns-in-Err-NoAct-clause-refused
returns-in-Err-NoAct-clause-refused g c =
    unoffered_refused c.offers_are_steps.ensures (setting (plain c.args.scene.now.bundle.now)) (g.R.Runs.local c.args.state.now) c.args.mail.now (book_of c.args.scene.now.book.now) c.args.updates.now.items
    c.args.scene.now.entry.now c.args.act (c.in-Err-NoAct.ensures.no_act.0 (ap Err c.in-Err-NoAct.field-0-is))

pub returns-in-Err-NoAct-clause-same_mail : goal.returns-in-Err-NoAct-clause-same_mail
returns-in-Err-NoAct-clause-same_mail g c = same_messages c.args.mail.now c.reserve.new.self c.reserve.ensures.same

pub returns-in-Err-Memory-clause-mail_stays : goal.returns-in-Err-Memory-clause-mail_stays
returns-in-Err-Memory-clause-mail_stays g c = same_messages c.args.mail.now c.reserve.new.self c.reserve.ensures.same

pub returns-in-Err-clause-mail_stays : goal.returns-in-Err-clause-mail_stays
returns-in-Err-clause-mail_stays g c = any_err c.give_up.result (same_messages c.args.mail.now c.reserve.new.self c.reserve.ensures.same)
