-- The first of the changes is the script's next change.
use Rattle.std.proofs.Common.{◌≡◌, None, Some, slice_get, sym, ◌∙◌, subst}
use Rattle.std.specs.Prelude.{map}
use Rattle.dioc_terms.specs.Plain.{plain}
use Rattle.network_steps.specs.Schedule.{changes_in}
use Rattle.net_core.specs.KeptParts.{due_seen}
use Rattle.stage.proofs.FeederLemmas.{fault_after, next_is}
use Rattle.stage.specs.Faults.{next_fault}
use Rattle.stage.specs.Homes.{HomeState}
use Rattle.stage.proofs.home.Home.next_fault.Goals as goal

pub returns-in-None-clause-first : goal.returns-in-None-clause-first
returns-in-None-clause-first c =
    let i = c.self.inside in
    let home : HomeState = record { bundle = plain i.of.value; limit = i.limit; history = i.history.entries; finished = i.finished.items; stopped = i.stopped } in
    subst (λ (h : HomeState). fault_after h None ≡ next_fault h (slice_get h.bundle.script (changes_in h.history))) c.self.view_is
    (next_is home i.limit i.mail i.book (map due_seen i.coming.items) i.updates c.self.invariant.shared None (sym c.in-None.is ∙ c.first_after.ensures))

pub returns-in-Some-clause-first : goal.returns-in-Some-clause-first
returns-in-Some-clause-first c =
    let i = c.self.inside in
    let home : HomeState = record { bundle = plain i.of.value; limit = i.limit; history = i.history.entries; finished = i.finished.items; stopped = i.stopped } in
    c.fault_before.ensures.first
    ∙ subst (λ (h : HomeState). fault_after h (Some c.in-Some.after) ≡ next_fault h (slice_get h.bundle.script (changes_in h.history))) c.self.view_is
    (next_is home i.limit i.mail i.book (map due_seen i.coming.items) i.updates c.self.invariant.shared (Some c.in-Some.after) (sym c.in-Some.is ∙ c.first_after.ensures))
