-- An entry of another role was read.
use Rattle.std.proofs.Common.{refl, sym, subst, arith}
use Rattle.dioc_terms.specs.Plain.{PlainBundle, plain, setting}
use Rattle.role_monitor.specs.Judging.{Believes}
use Rattle.marked_laws.specs.Laws.{IsSound}
use Rattle.rule_book.specs.KeptBooks.{book_of, IsBookOf}
use Rattle.role_monitor.proofs.OneMore.{fed_fits, read_believed, read_same, rules_in_cast}
use Rattle.role_monitor.proofs.monitor.Monitor.believe.Goals as goal

pub believe-requires-clause-rules : goal.believe-requires-clause-rules
believe-requires-clause-rules c =
    let read = c.requires.read.3 in
    rules_in_cast c.mentions_are_roles.ensures (plain c.args.self.now.bundle.now) (subst IsSound (sym read.bundle) read.sound)

pub believe-requires-clause-book : goal.believe-requires-clause-book
believe-requires-clause-book c =
    let read = c.requires.read.3 in
    subst (λ (b : PlainBundle). IsBookOf b.rules c.args.self.now.book) (sym read.bundle) read.shows.script.of

pub overflow_add-self : goal.overflow_add-self
overflow_add-self c = omega (arith, fed_fits c.requires.read.0 c.requires.read.1 c.args.self.now c.requires.read.2 c.requires.read.3 c.requires.read.4)

pub returns-in-Ok-clause-read : goal.returns-in-Ok-clause-read
returns-in-Ok-clause-read c = λ b r entries read.
    let other = c.requires.other in
    read_believed b r c.args.self.now entries read c.args.entry.now c.leaders_tell.ensures c.mail_is_a_map.ensures other.0 other.1 other.2 _
    (subst (λ x. Believes (setting x) c.args.self.now.role.now c.args.self.now.mail (book_of c.args.self.now.book) c.args.self.now.updates.items c.args.entry.now c.believe.new.mail c.believe.new.updates.items)
    read.bundle c.in-Ok.ensures.believed)
    refl refl refl refl refl refl refl

pub returns-in-Err-clause-same : goal.returns-in-Err-clause-same
returns-in-Err-clause-same c = λ b r entries read.
    read_same b r c.args.self.now _ entries read refl c.in-Err.ensures.same_mail c.in-Err.ensures.same_updates refl refl refl refl refl refl
