-- The message was taken, or is back.
use Rattle.std.proofs.Common.{None, sym, ap, ◌∙◌}
use Rattle.std.proofs.lemmas.Bool.{cond-true}
use Rattle.dioc_terms.specs.Equality.{key_eq}
use Rattle.dioc_terms.specs.Processes.{load}
use Rattle.marked_laws.proofs.Equality.{key_itself}
use Rattle.role_mailbox.specs.Pending.{payload_at}
use Rattle.role_monitor.proofs.Owns.{put_back, same_messages}
use Rattle.role_monitor.specs.Judging.{is_fitting}
use Rattle.role_monitor.proofs.own.taken_message.Goals as goal

pub returns-in_default-clause-same : goal.returns-in_default-clause-same
returns-in_default-clause-same c = same_messages c.args.mail.now c.take.new.self c.in_default.ensures.same

pub put-requires-clause-free : goal.put-requires-clause-free
put-requires-clause-free c =
    c.take.ensures.taken.at c.args.key ∙ cond-true (key_eq c.args.key c.args.key) None (payload_at c.args.key c.args.mail.now) (key_itself c.args.key)

pub returns-clause-misfit : goal.returns-clause-misfit
returns-clause-misfit c = ap (is_fitting c.args.key) (sym c.in-Some.ensures.payload) ∙ sym c.fits.ensures ∙ c.if-fits.false

pub returns-clause-same : goal.returns-clause-same
returns-clause-same c =
    put_back c.args.mail.now c.take.new.self c.put.new.self c.args.key (load c.in-Some.payload) (sym c.in-Some.ensures.payload) c.take.ensures.taken c.put.ensures.put
