-- The begin of a scope is one more step of the run.
use Rattle.std.proofs.Common.{◌≡◌, [], ◌∷◌, ◌++◌, None, ap, refl, sym, subst, ◌∙◌}
use Rattle.std.specs.Prelude.{map, IfOk, OnOk}
use Rattle.dioc_terms.specs.KeptStores.{store_of}
use Rattle.dioc_terms.specs.Plain.{plain}
use Rattle.net_core.specs.KeptParts.{due_seen}
use Rattle.stage.proofs.BeginLemmas.{begin_there, home_led, update_fits, update_there}
use Rattle.stage.proofs.HomeLemmas.{Laws, home_same}
use Rattle.stage.specs.Begins.{CanBegin, begin_in, update_in}
use Rattle.stage.specs.Faults.{role_fault}
use Rattle.stage.specs.Homes.{HomeState, IsHome, with_entry}
use Rattle.stage.proofs.home.Home.add_scope.Goals as goal
use Rattle.stage.proofs.home.Home.add_scope.Goals.{in-Ok, in-Err}

pub begin_scope-requires : goal.begin_scope-requires
begin_scope-requires c =
    let i = c.self.inside in
    let free = subst (λ (h : HomeState). role_fault h ≡ None) (sym c.self.view_is) c.requires.free in
    record {
      known = ((plain i.of.value).rules, c.self.invariant.shared.of, c.as_slice.ensures.value ∙ c.self.invariant.same_names);
      updates = update_fits (plain i.of.value) i.limit i.history.entries i.cast i.names.items i.mail i.book (map due_seen i.coming.items) i.updates i.finished.items i.stopped c.self.invariant free;
    }

pub invariant_of-self : goal.invariant_of-self
invariant_of-self c =
    let i = c.self.inside in
    let rules = (plain i.of.value).rules in
    let laws : Laws = record { steps = c.steps_run.ensures; keys = c.unique_keys.ensures; maps = c.mail_is_a_map.ensures; offers = c.offers_are_steps.ensures } in
    let names = c.as_slice.ensures.value ∙ c.self.invariant.same_names in
    let can = subst (λ (h : HomeState). CanBegin h.bundle h.history c.args.head.now (store_of c.args.store.now)) (sym c.self.view_is) c.requires.can in
    let free = subst (λ (h : HomeState). role_fault h ≡ None) (sym c.self.view_is) c.requires.free in
    elim c.match-begin_scope.branch [
      | in-Ok w ↦ home_led (plain i.of.value) i.limit i.history.entries i.cast i.names.items i.mail i.book (map due_seen i.coming.items) i.updates i.finished.items i.stopped c.self.invariant laws
          c.args.head.now (store_of c.args.store.now) can free c.begin_scope.new.updates c.begin_scope.new.history.entries
          (w.in-Ok.ensures.counted rules c.self.invariant.shared.of names) (w.in-Ok.ensures.pushed rules c.self.invariant.shared.of names)
      | in-Err w ↦ subst (λ n. IsHome (plain i.of.value) i.limit c.begin_scope.new.history.entries i.cast i.names.items i.mail i.book (map due_seen i.coming.items) n i.finished.items i.stopped) (sym w.in-Err.ensures.same_updates)
          (home_same (plain i.of.value) i.limit i.history.entries i.cast i.names.items i.mail i.book (map due_seen i.coming.items) i.updates i.finished.items i.stopped c.self.invariant
          i.mail c.begin_scope.new.history.entries refl w.in-Err.ensures.same_history)
    ]

pub returns-clause-chosen : goal.returns-clause-chosen
returns-clause-chosen c =
    let i = c.self.inside in
    elim c.match-begin_scope.branch [
      | in-Ok w ↦ subst (λ r. IfOk r (λ update. update ≡ update_in c.args.self.now c.args.head.now (store_of c.args.store.now))) (sym w.result-is)
          (subst (λ (h : HomeState). w.in-Ok.update ≡ update_in h c.args.head.now (store_of c.args.store.now)) c.self.view_is
          (w.in-Ok.ensures.chosen (plain i.of.value).rules c.self.invariant.shared.of
          ∙ update_there (plain i.of.value) i.limit i.history.entries i.cast i.names.items i.mail i.book (map due_seen i.coming.items) i.updates i.finished.items i.stopped c.self.invariant c.args.head.now (store_of c.args.store.now)))
      | in-Err w ↦ subst (λ r. IfOk r (λ update. update ≡ update_in c.args.self.now c.args.head.now (store_of c.args.store.now))) (sym w.result-is) tt
    ]

pub returns-clause-added : goal.returns-clause-added
returns-clause-added c =
    let i = c.self.inside in
    let new : HomeState = record { bundle = plain i.of.value; limit = i.limit; history = c.begin_scope.new.history.entries; finished = i.finished.items; stopped = i.stopped } in
    elim c.match-begin_scope.branch [
      | in-Ok w ↦ subst (λ r. OnOk r (new ≡ with_entry c.args.self.now (begin_in c.args.self.now c.args.head.now (store_of c.args.store.now)))) (sym w.result-is)
          (subst (λ (h : HomeState). new ≡ with_entry h (begin_in h c.args.head.now (store_of c.args.store.now))) c.self.view_is
          (ap (λ h. record { bundle = plain i.of.value; limit = i.limit; history = h; finished = i.finished.items; stopped = i.stopped })
          (w.in-Ok.ensures.pushed (plain i.of.value).rules c.self.invariant.shared.of (c.as_slice.ensures.value ∙ c.self.invariant.same_names)
          ∙ ap (λ e. i.history.entries ++ e ∷ [])
          (begin_there (plain i.of.value) i.limit i.history.entries i.cast i.names.items i.mail i.book (map due_seen i.coming.items) i.updates i.finished.items i.stopped c.self.invariant c.args.head.now (store_of c.args.store.now)))))
      | in-Err w ↦ subst (λ r. OnOk r (new ≡ with_entry c.args.self.now (begin_in c.args.self.now c.args.head.now (store_of c.args.store.now)))) (sym w.result-is) tt
    ]
