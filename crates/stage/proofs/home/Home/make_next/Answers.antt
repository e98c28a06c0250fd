-- The script's next change is one more step of the run.
use Rattle.std.proofs.Common.{◌≡◌, None, ap, sym, subst}
use Rattle.std.specs.Prelude.{map, OnOk}
use Rattle.dioc_terms.specs.Plain.{plain}
use Rattle.net_core.specs.KeptParts.{due_seen}
use Rattle.trace_book.specs.Histories.{Written}
use Rattle.stage.proofs.ChangedHome.{home_changed}
use Rattle.stage.proofs.FeederLemmas.{feeder_free, home_unchanged, is_changed}
use Rattle.stage.specs.Changes.{IsChanged}
use Rattle.stage.specs.Faults.{feeder_fault}
use Rattle.stage.specs.Homes.{HomeState}
use Rattle.stage.proofs.home.Home.make_next.Goals as goal
use Rattle.stage.proofs.home.Home.make_next.Goals.{in-Ok, in-Err}

pub invariant_of-self : goal.invariant_of-self
invariant_of-self c =
    let i = c.self.inside in
    let home : HomeState = record { bundle = plain i.of.value; limit = i.limit; history = i.history.entries; finished = i.finished.items; stopped = i.stopped } in
    let free = feeder_free home (subst (λ (h : HomeState). feeder_fault h ≡ None) (sym c.self.view_is) c.requires.free) in
    elim c.match-make_change.branch [
      | in-Ok w ↦ home_changed (plain i.of.value) i.limit i.history.entries i.cast i.names.items i.mail i.book (map due_seen i.coming.items) i.updates i.finished.items i.stopped c.self.invariant
          c.steps_run.ensures free.0 free.1 (map due_seen c.make_change.new.script.items) c.make_change.new.book c.make_change.new.history.entries
          (w.in-Ok.ensures.made (plain i.of.value).rules c.self.invariant.shared.of)
      | in-Err w ↦ home_unchanged (plain i.of.value) i.limit i.history.entries i.cast i.names.items i.mail i.book (map due_seen i.coming.items) i.updates i.finished.items i.stopped c.self.invariant
          (map due_seen c.make_change.new.script.items) c.make_change.new.book c.make_change.new.history.entries
          (ap (map due_seen) w.in-Err.ensures.same_script) w.in-Err.ensures.same_book (ap (λ (h : Written). h.entries) w.in-Err.ensures.same_history)
    ]

pub returns-clause-changed : goal.returns-clause-changed
returns-clause-changed c =
    let i = c.self.inside in
    let new : HomeState = record { bundle = plain i.of.value; limit = i.limit; history = c.make_change.new.history.entries; finished = i.finished.items; stopped = i.stopped } in
    elim c.match-make_change.branch [
      | in-Ok w ↦ subst (λ r. OnOk r (IsChanged c.args.self.now new)) (sym w.result-is)
          (subst (λ old. IsChanged old new) c.self.view_is
          (is_changed (plain i.of.value) i.limit i.history.entries i.cast i.names.items i.mail i.book (map due_seen i.coming.items) i.updates i.finished.items i.stopped c.self.invariant
          c.steps_run.ensures (map due_seen c.make_change.new.script.items) c.make_change.new.book c.make_change.new.history.entries
          (w.in-Ok.ensures.made (plain i.of.value).rules c.self.invariant.shared.of)))
      | in-Err w ↦ subst (λ r. OnOk r (IsChanged c.args.self.now new)) (sym w.result-is) tt
    ]
