-- What a role can do alone is one more step of the run.
use Rattle.std.proofs.Common.{◌≡◌, None, refl, sym, subst}
use Rattle.std.specs.Prelude.{map}
use Rattle.dioc_terms.specs.Plain.{plain}
use Rattle.net_core.specs.KeptParts.{due_seen}
use Rattle.stage.proofs.HomeLemmas.{Laws, home_added, home_same}
use Rattle.stage.specs.Faults.{role_fault}
use Rattle.stage.specs.Homes.{HomeState}
use Rattle.stage.specs.Roles.{CanAdd}
use Rattle.stage.proofs.home.Home.add_own.Goals as goal
use Rattle.stage.proofs.home.Home.add_own.Goals.{in-Ok, in-Err}

pub invariant_of-self : goal.invariant_of-self
invariant_of-self c =
    let i = c.self.inside in
    let laws : Laws = record { steps = c.steps_run.ensures; keys = c.unique_keys.ensures; maps = c.mail_is_a_map.ensures; offers = c.offers_are_steps.ensures } in
    let can = subst (λ (h : HomeState). CanAdd h.bundle h.history c.args.entry) (sym c.self.view_is) c.requires.can in
    let free = subst (λ (h : HomeState). role_fault h ≡ None) (sym c.self.view_is) c.requires.free in
    elim c.match-push_entry.branch [
      | in-Ok w ↦ home_added (plain i.of.value) i.limit i.history.entries i.cast i.names.items i.mail i.book (map due_seen i.coming.items) i.updates i.finished.items i.stopped c.self.invariant laws
          c.steps_show_their_acts.ensures c.args.entry can free c.push_entry.new.history.entries w.in-Ok.ensures.pushed
      | in-Err w ↦ home_same (plain i.of.value) i.limit i.history.entries i.cast i.names.items i.mail i.book (map due_seen i.coming.items) i.updates i.finished.items i.stopped c.self.invariant
          i.mail c.push_entry.new.history.entries refl w.in-Err.ensures.same
    ]
