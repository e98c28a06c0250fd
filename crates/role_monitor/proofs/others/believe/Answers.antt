-- The entry is believed.
use Rattle.std.proofs.Common.{List, OnOk, ap, sym, ◌∙◌, subst, refl}
use Rattle.dioc_terms.specs.declared.processes.Key.{Key}
use Rattle.dioc_terms.specs.Processes.{Load}
use Rattle.std.proofs.lemmas.Bool.{not-true}
use Rattle.dioc_terms.specs.declared.entries.Entry.TheVariants as entry
use Rattle.dioc_terms.specs.Equality.{role_eq}
use Rattle.dioc_terms.specs.Plain.{plain, setting}
use Rattle.role_monitor.proofs.Begins.{ok_all, on_ok}
use Rattle.role_monitor.proofs.Owns.{true_of}
use Rattle.role_monitor.proofs.Seen.{believes_other, believes_put, believes_rest, believes_scope}
use Rattle.role_monitor.specs.Judging.{Believes, HoldsMail}
use Rattle.role_monitor.specs.Monitoring.{mail_with_some, noted_load}
use Rattle.rule_book.specs.KeptBooks.{book_of}
use Rattle.role_monitor.proofs.others.believe.Goals as goal

pub returns-then-ne-clause-believed : goal.returns-then-ne-clause-believed
returns-then-ne-clause-believed c =
    let b = setting (plain c.args.bundle.now) in
    subst (λ e. Believes b c.args.me.now c.args.mail.now (book_of c.args.book.now) c.args.updates.now.items e c.args.mail.now c.args.updates.now.items) (sym c.in-Put.is)
    (believes_other b c.args.me.now c.args.mail.now (book_of c.args.book.now) c.args.updates.now.items c.in-Put.key c.in-Put.note
    (not-true (role_eq c.in-Put.key.to c.args.me.now) (sym c.ne.ensures ∙ c.if-ne.true)))

pub returns-else-ne-clause-believed : goal.returns-else-ne-clause-believed
returns-else-ne-clause-believed c =
    let b = setting (plain c.args.bundle.now) in
    let us = c.args.updates.now.items in
    let mine = true_of (role_eq c.in-Put.key.to c.args.me.now) (sym c.ne.ensures ∙ c.if-ne.false) in
    subst (λ e. OnOk c.receive.result (Believes b c.args.me.now c.args.mail.now (book_of c.args.book.now) us e c.receive.new.mail us)) (sym c.in-Put.is)
    (on_ok c.receive.result
    (λ h. believes_put b c.args.me.now c.args.mail.now (book_of c.args.book.now) us c.in-Put.key c.in-Put.note c.receive.new.mail mine h)
    (ok_all (λ pending. HoldsMail pending c.args.mail.now) (λ pending. HoldsMail (mail_with_some c.in-Put.key (noted_load b c.in-Put.key.to us c.in-Put.note) pending) c.receive.new.mail) c.receive.result
    (subst (λ ws. (pending : List (Key × Load)) → HoldsMail pending c.args.mail.now
    → OnOk c.receive.result (HoldsMail (mail_with_some c.in-Put.key (noted_load b c.in-Put.key.to ws c.in-Put.note) pending) c.receive.new.mail)) c.as_slice.ensures.value c.receive.ensures.received)))

pub returns-in-Keep-clause-believed : goal.returns-in-Keep-clause-believed
returns-in-Keep-clause-believed c =
    let b = setting (plain c.args.bundle.now) in
    let us = c.args.updates.now.items in
    subst (λ e. Believes b c.args.me.now c.args.mail.now (book_of c.args.book.now) us e c.args.mail.now us)
    (sym (c.in-Scope.is ∙ ap (entry.Scope c.in-Scope.index c.in-Scope.role) c.in-Keep.is))
    (record { left = λ pending. pending; gives = λ s pending count same. refl; holds = λ pending held. held })

pub returns-in-Rule-clause-believed : goal.returns-in-Rule-clause-believed
returns-in-Rule-clause-believed c =
    let b = setting (plain c.args.bundle.now) in
    let us = c.args.updates.now.items in
    subst (λ e. OnOk c.hear.result (Believes b c.args.me.now c.args.mail.now (book_of c.args.book.now) us e c.args.mail.now c.hear.new.updates.items))
    (sym (c.in-Scope.is ∙ ap (entry.Scope c.in-Scope.index c.in-Scope.role) c.in-Rule.is))
    (on_ok c.hear.result
    (λ h. believes_scope b c.args.me.now c.args.mail.now (book_of c.args.book.now) us c.in-Scope.index c.in-Scope.role c.in-Rule.name c.in-Rule.epoch c.hear.new.updates.items h)
    (c.hear.ensures.heard b.rules c.requires.book))

pub returns-in_default : goal.returns-in_default
returns-in_default c = record {
  believed = believes_rest (setting (plain c.args.bundle.now)) c.args.me.now c.args.mail.now (book_of c.args.book.now) c.args.updates.now.items c.args.entry.now c.in_default.not-Put
      c.in_default.not-Scope;
  same_mail = tt;
  same_updates = tt;
}
