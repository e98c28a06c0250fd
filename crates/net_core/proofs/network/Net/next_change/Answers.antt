-- The change is that of the net.
use Rattle.std.proofs.Common.{◌≡◌, ◌≢◌, ◌<◌, Some, length, sym, ap, subst}
use Rattle.std.specs.Prelude.{map, OnOk, IfErr}
use Rattle.dioc_terms.specs.Plain.{plain}
use Rattle.trace_book.specs.Histories.{Written}
use Rattle.net_core.proofs.ChangeLemmas.{changed_same, change_made, change_refused, stands_changed}
use Rattle.net_core.specs.Changes.{IsChangeOf, change_fault}
use Rattle.net_core.specs.declared.faults.ChangeFault.TheVariants as fault
use Rattle.net_core.specs.KeptParts.{body_seen, due_seen}
use Rattle.net_core.specs.Nets.{NetState}
use Rattle.net_core.proofs.network.Net.next_change.Goals as goal
use Rattle.net_core.proofs.network.Net.next_change.Goals.{in-Ok, in-Err}

pub invariant_of-self : goal.invariant_of-self
invariant_of-self g c =
    let i = c.self.inside in
    let b = plain i.of.value in
    let room = subst (λ (net : NetState). length net.history < net.limit) (sym c.self.view_is) c.requires in
    elim c.match-make_change.branch [
      | in-Ok w ↦ stands_changed b i.limit i.cast (map g.R.Runs.local i.roles.items) i.mail i.book (map body_seen i.bodies) (map due_seen i.coming.items) i.updates i.history.entries c.self.invariant c.steps_run.ensures
          (map due_seen c.make_change.new.script.items) c.make_change.new.book c.make_change.new.history.entries
          (w.in-Ok.ensures.made b.rules c.self.invariant.of) room
      | in-Err w ↦ changed_same b i.limit i.cast (map g.R.Runs.local i.roles.items) i.mail i.book (map body_seen i.bodies) (map due_seen i.coming.items) i.updates i.history.entries c.self.invariant (map due_seen c.make_change.new.script.items) c.make_change.new.book c.make_change.new.history.entries
          (ap (map due_seen) w.in-Err.ensures.same_script) w.in-Err.ensures.same_book (ap (λ (h : Written). h.entries) w.in-Err.ensures.same_history)
    ]

pub returns-clause-changed : goal.returns-clause-changed
returns-clause-changed g c =
    let i = c.self.inside in
    let b = plain i.of.value in
    let room = subst (λ (net : NetState). length net.history < net.limit) (sym c.self.view_is) c.requires in
    let new : NetState = record { bundle = b; history = c.make_change.new.history.entries; limit = i.limit } in
    elim c.match-make_change.branch [
      | in-Ok w ↦ subst (λ r. OnOk r (IsChangeOf c.args.self.now new)) (sym w.result-is)
          (subst (λ old. IsChangeOf old new) c.self.view_is
          (change_made b i.limit i.cast (map g.R.Runs.local i.roles.items) i.mail i.book (map body_seen i.bodies) (map due_seen i.coming.items) i.updates i.history.entries c.self.invariant room c.steps_run.ensures
          (map due_seen c.make_change.new.script.items) c.make_change.new.book c.make_change.new.history.entries (w.in-Ok.ensures.made b.rules c.self.invariant.of)))
      | in-Err w ↦ subst (λ r. OnOk r (IsChangeOf c.args.self.now new)) (sym w.result-is) tt
    ]

pub returns-clause-refused : goal.returns-clause-refused
returns-clause-refused g c =
    let i = c.self.inside in
    let room = subst (λ (net : NetState). length net.history < net.limit) (sym c.self.view_is) c.requires in
    elim c.match-make_change.branch [
      | in-Ok w ↦ subst (λ r. IfErr r (λ f. f ≢ fault.Memory → change_fault c.args.self.now ≡ Some f)) (sym w.result-is) tt
      | in-Err w ↦ subst (λ r. IfErr r (λ f. f ≢ fault.Memory → change_fault c.args.self.now ≡ Some f)) (sym w.result-is)
          (subst (λ old. w.in-Err.fault ≢ fault.Memory → change_fault old ≡ Some w.in-Err.fault) c.self.view_is
          (change_refused (plain i.of.value) i.limit i.cast (map g.R.Runs.local i.roles.items) i.mail i.book (map body_seen i.bodies) (map due_seen i.coming.items) i.updates i.history.entries c.self.invariant room w.in-Err.fault w.in-Err.ensures.refused))
    ]
