-- The message is kept where it is the role's to itself, and none of its key is there.
use Rattle.std.proofs.Common.{sym, ◌∙◌}
use Rattle.std.proofs.lemmas.Bool.{not-true}
use Rattle.dioc_terms.specs.Equality.{role_eq}
use Rattle.dioc_terms.specs.Processes.{load}
use Rattle.role_monitor.proofs.Owns.{appended_holds, put_to_me, put_to_other, there_holds, true_of}
use Rattle.role_monitor.proofs.own.keep_put.Goals as goal

pub returns-then-ne : goal.returns-then-ne
returns-then-ne c =
    put_to_other c.args.me.now c.args.mail.now c.args.key (load c.args.payload) (not-true (role_eq c.args.key.to c.args.me.now) (sym c.ne.ensures ∙ c.if-ne.true))

pub returns-then-holds : goal.returns-then-holds
returns-then-holds c =
    put_to_me c.args.me.now c.args.mail.now c.args.mail.now c.args.key (load c.args.payload) (true_of (role_eq c.args.key.to c.args.me.now) (sym c.ne.ensures ∙ c.if-ne.false))
    (λ pending held. there_holds pending c.args.mail.now c.args.key (load c.args.payload) held (sym c.holds.ensures.holds ∙ c.if-holds.true))

pub returns : goal.returns
returns c =
    put_to_me c.args.me.now c.args.mail.now c.put.new.self c.args.key (load c.args.payload) (true_of (role_eq c.args.key.to c.args.me.now) (sym c.ne.ensures ∙ c.if-ne.false))
    (λ pending held. appended_holds c.mail_is_a_map.ensures pending c.args.mail.now c.put.new.self c.args.key (load c.args.payload) held c.if-holds.ensures.free c.put.ensures.put)
