-- A change was read.
use Rattle.std.proofs.Common.{◌≡◌, List, refl, sym, subst, arith}
use Rattle.dioc_terms.specs.declared.processes.Key.{Key}
use Rattle.dioc_terms.specs.Plain.{PlainBundle, setting}
use Rattle.dioc_terms.specs.Processes.{Load}
use Rattle.dpoc_process.specs.LocalStates.{LocalState}
use Rattle.role_monitor.specs.declared.updates.Update.{Update}
use Rattle.role_monitor.specs.Judging.{HoldsScript, monitor_state}
use Rattle.role_monitor.specs.Monitoring.{change_noted}
use Rattle.rule_book.specs.KeptBooks.{book_of}
use Rattle.role_monitor.proofs.OneMore.{fed_fits, read_change}
use Rattle.role_monitor.proofs.monitor.Monitor.see.Goals as goal

pub see_change-requires : goal.see_change-requires
see_change-requires c =
    let read = c.requires.read.3 in
    subst (λ b. HoldsScript b c.args.self.now.book c.args.self.now.changes) (sym read.bundle) read.shows.script

pub overflow_add-self : goal.overflow_add-self
overflow_add-self c = omega (arith, fed_fits c.requires.read.0 c.requires.read.1 c.args.self.now c.requires.read.2 c.requires.read.3 c.requires.read.4)

pub returns : goal.returns
returns c = λ b r entries read.
    read_change b r c.args.self.now entries read c.args.entry.now c.requires.change _
    (subst (λ (x : PlainBundle). (s : LocalState) (pending : List (Key × Load)) (us : List Update)
    → change_noted (setting x) (monitor_state s pending (book_of c.args.self.now.book) c.args.self.now.changes us) c.args.entry.now
    ≡ monitor_state s pending (book_of c.see_change.new.book) c.see_change.new.changes us) read.bundle c.see_change.ensures.seen)
    (subst (λ x. HoldsScript x c.see_change.new.book c.see_change.new.changes) read.bundle c.see_change.ensures.script)
    refl refl refl refl refl refl refl
