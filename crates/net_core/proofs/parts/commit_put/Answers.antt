-- What the role did is the step that was prepared, and the message is the one that was shown.
use Rattle.std.proofs.Common.{◌≡◌, Some, IsSome, refl, sym, ap, ◌∙◌, subst}
use Rattle.std.specs.Prelude.{Option}
use Rattle.dioc_terms.specs.declared.entries.Act.{Act}
use Rattle.dioc_terms.specs.declared.entries.Entry.{Entry}
use Rattle.dioc_terms.specs.Processes.{Load, load}
use Rattle.dpoc_process.specs.Shows.{boxed_process, message_shown, put_message}
use Rattle.process_steps.specs.Steps.{Alone}
use Rattle.role_mailbox.specs.Pending.{payload_at}
use Rattle.net_core.specs.Acts.{PutBy, is_take, put_with}
use Rattle.net_core.specs.Deeds.{asks_scope}
use Rattle.net_core.proofs.DeedLemmas.{committed, leaves_mail, put_sends}
use Rattle.net_core.proofs.parts.commit_put.Goals as goal

pub message_of-requires : goal.message_of-requires
message_of-requires g c =
    subst (λ (e : Option Entry). IsSome (put_message e (boxed_process c.args.shown.part))) c.unwrap-entry.ensures
    (put_sends c.steps_show_their_acts.ensures (g.R.Runs.local c.args.state.now) c.args.act.now c.args.shown c.requires.shown
    Alone c.requires.can c.args.key c.requires.put)

pub returns-in-Ok-clause-done : goal.returns-in-Ok-clause-done
returns-in-Ok-clause-done g c = λ count.
    let a = c.args.act.now in
    let old = c.args.mail.now in
    let sends = message_shown c.args.shown in
    let sent : Some (load c.in-Ok.payload) ≡ sends =
    sym (ap (λ (e : Option Entry). put_message e (boxed_process c.args.shown.part)) c.unwrap-entry.ensures ∙ c.in-Ok.ensures) in
    let put : PutBy a sends old c.put.new.self = record {
      at = λ k. c.put.ensures.put.at k ∙ ap (λ (x : Act). put_with x (Some (load c.in-Ok.payload)) k (payload_at k old)) (sym c.requires.put)
          ∙ ap (λ (l : Option Load). put_with a l k (payload_at k old)) sent;
    } in
    committed c.steps_show_their_acts.ensures (g.R.Runs.local c.args.state.now) a c.args.shown c.requires.shown Alone
    (ap asks_scope c.requires.put) (g.R.Runs.local c.advance.new.self) (c.advance.ensures.steps Alone refl) c.unwrap-entry.result
    c.unwrap-entry.ensures old old c.put.new.self (leaves_mail a old (ap is_take c.requires.put)) put c.args.history.now.entries
    c.push.new.self.entries c.push.ensures.pushed count
