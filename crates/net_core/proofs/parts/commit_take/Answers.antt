-- What the role did with the message that came is the step that was prepared.
use Rattle.std.proofs.Common.{◌≡◌, sym, ap, ◌∙◌}
use Rattle.dioc_terms.specs.declared.entries.Act.{Act}
use Rattle.dioc_terms.specs.Processes.{load}
use Rattle.dpoc_process.specs.Shows.{message_shown}
use Rattle.process_steps.specs.Steps.{Got}
use Rattle.role_mailbox.specs.Pending.{payload_at}
use Rattle.net_core.proofs.DeedLemmas.{committed}
use Rattle.net_core.specs.Acts.{PutBy, TakenBy, given_from_mail, put_with, taken_with}
use Rattle.net_core.specs.Deeds.{asks_scope, message_given}
use Rattle.net_core.proofs.parts.commit_take.Goals as goal

pub returns-clause-done : goal.returns-clause-done
returns-clause-done g c = λ done count.
    let s = g.R.Runs.local c.args.state.now in
    let a = c.args.act.now in
    let key = c.args.key.now in
    let old = c.args.mail.now in
    let new = c.take.new.self in
    let given = given_from_mail a old in
    let sends = message_shown c.args.shown in
    let came : given ≡ Got (load c.in-Some.came) =
    ap (λ (x : Act). given_from_mail x old) c.requires.take ∙ ap message_given (sym c.in-Some.ensures.payload) in
    let taken : TakenBy a old new = record {
      at = λ k. c.in-Some.ensures.taken.at k ∙ ap (λ (x : Act). taken_with x k (payload_at k old)) (sym c.requires.take);
    } in
    let put : PutBy a sends new new = record {
      at = λ k. ap (λ (x : Act). put_with x sends k (payload_at k new)) (sym c.requires.take);
    } in
    committed c.steps_show_their_acts.ensures s a c.args.shown c.requires.shown given (ap asks_scope c.requires.take) (g.R.Runs.local c.advance.new.self)
    (c.advance.ensures.steps given came) c.unwrap.result c.unwrap.ensures old new new taken put c.args.history.now.entries c.push.new.self.entries
    c.push.ensures.pushed count
