-- An entry of the role was read.
use Rattle.std.proofs.Common.{refl, sym, subst, arith}
use Rattle.dioc_terms.specs.Plain.{PlainBundle, setting}
use Rattle.flat_role.specs.FlatStates.{local_of}
use Rattle.role_monitor.specs.Judging.{KeepsOwn, RefusesOwn}
use Rattle.net_core.specs.Scopes.{Tells}
use Rattle.marked_laws.specs.Laws.{IsSound}
use Rattle.rule_book.specs.KeptBooks.{book_of, IsBookOf}
use Rattle.role_monitor.proofs.OneMore.{fed_fits, judged_fits, misfits_here, own_role, read_kept, read_refused, read_same, tells_here}
use Rattle.role_monitor.proofs.monitor.Monitor.judge_act.Goals as goal

pub judge-requires-clause-sound : goal.judge-requires-clause-sound
judge-requires-clause-sound c = let read = c.requires.read.3 in subst IsSound (sym read.bundle) read.sound

pub judge-requires-clause-book : goal.judge-requires-clause-book
judge-requires-clause-book c =
    let read = c.requires.read.3 in
    subst (λ (b : PlainBundle). IsBookOf b.rules c.args.self.now.book) (sym read.bundle) read.shows.script.of

pub judge-requires-clause-tells : goal.judge-requires-clause-tells
judge-requires-clause-tells c =
    let read = c.requires.read.3 in
    subst (λ (b : PlainBundle). Tells b.cast (local_of c.args.self.now.state) c.args.act) (sym read.bundle)
    (tells_here c.requires.read.0 c.requires.read.1 c.args.self.now c.requires.read.2 read c.args.entry.now c.leaders_tell.ensures c.mail_is_a_map.ensures c.args.act)

pub judge-requires-clause-misfits : goal.judge-requires-clause-misfits
judge-requires-clause-misfits c =
    misfits_here c.requires.read.0 c.requires.read.1 c.args.self.now c.requires.read.2 c.requires.read.3 c.args.entry.now c.leaders_tell.ensures c.mail_is_a_map.ensures c.args.act

pub judge-requires-clause-me : goal.judge-requires-clause-me
judge-requires-clause-me c =
    own_role c.requires.read.0 c.requires.read.1 c.args.self.now c.requires.read.2 c.requires.read.3 c.args.entry.now c.leaders_tell.ensures c.mail_is_a_map.ensures

pub overflow_add-self : goal.overflow_add-self
overflow_add-self c = omega (arith, fed_fits c.requires.read.0 c.requires.read.1 c.args.self.now c.requires.read.2 c.requires.read.3 c.requires.read.4)

pub overflow_add-self-in-Ok-true : goal.overflow_add-self-in-Ok-true
overflow_add-self-in-Ok-true c = omega (arith, judged_fits c.requires.read.0 c.requires.read.1 c.args.self.now c.requires.read.2 c.requires.read.3 c.requires.read.4)

pub overflow_add-result : goal.overflow_add-result
overflow_add-result c = omega (arith, fed_fits c.requires.read.0 c.requires.read.1 c.args.self.now c.requires.read.2 c.requires.read.3 c.requires.read.4)

pub returns-in-Ok-true-clause-read : goal.returns-in-Ok-true-clause-read
returns-in-Ok-true-clause-read c = λ b r entries read.
    let own = c.requires.own in
    let kept = rw c.in-Ok-true.field-0-test at c.in-Ok-true.ensures.kept in
    read_kept b r c.args.self.now entries read c.args.entry.now c.leaders_tell.ensures c.mail_is_a_map.ensures own.0 own.1 own.2 c.args.act c.requires.act _
    (subst (λ x. KeepsOwn (setting x) (local_of c.args.self.now.state) c.args.self.now.mail (book_of c.args.self.now.book) c.args.self.now.updates.items c.args.entry.now c.args.act
    (local_of c.judge.new.state) c.judge.new.mail c.judge.new.updates.items) read.bundle kept)
    refl refl refl refl refl refl

pub returns-in-Ok-false-clause-deviates : goal.returns-in-Ok-false-clause-deviates
returns-in-Ok-false-clause-deviates c = λ b r entries read.
    let own = c.requires.own in
    let refuses = rw c.in-Ok-false.field-0-test at c.in-Ok-false.ensures.refused in (
      omega (arith, read.fed),
      read_refused b r c.args.self.now entries read c.args.entry.now c.leaders_tell.ensures c.mail_is_a_map.ensures own.0 own.1 own.2 c.args.act c.requires.act
          (subst (λ x. RefusesOwn (setting x) (local_of c.args.self.now.state) c.args.self.now.mail (book_of c.args.self.now.book) c.args.self.now.updates.items c.args.entry.now c.args.act)
          read.bundle refuses),
    )

pub returns-in-Ok-false-clause-same : goal.returns-in-Ok-false-clause-same
returns-in-Ok-false-clause-same c = λ b r entries read.
    let local = rw c.in-Ok-false.field-0-test at c.in-Ok-false.ensures.same_local in
    let mail = rw c.in-Ok-false.field-0-test at c.in-Ok-false.ensures.same_mail in
    let updates = rw c.in-Ok-false.field-0-test at c.in-Ok-false.ensures.same_updates in
    read_same b r c.args.self.now _ entries read local mail updates refl refl refl refl refl refl

pub returns-in-Err-clause-same : goal.returns-in-Err-clause-same
returns-in-Err-clause-same c = λ b r entries read.
    read_same b r c.args.self.now _ entries read c.in-Err.ensures.local_stays c.in-Err.ensures.mail_stays c.in-Err.ensures.updates_stay refl refl refl refl refl refl
