-- A put that its role can do is one more step of the run.
use Rattle.std.proofs.Common.{◌≡◌, None, refl, sym, subst}
use Rattle.std.specs.Prelude.{map}
use Rattle.dioc_terms.specs.declared.entries.Act.TheVariants as acts
use Rattle.dioc_terms.specs.Plain.{plain}
use Rattle.dioc_terms.specs.Processes.{load}
use Rattle.process_steps.specs.Steps.{Alone, Puts}
use Rattle.net_core.specs.KeptParts.{due_seen}
use Rattle.stage.proofs.HomeLemmas.{Laws, home_did, home_same, is_free}
use Rattle.stage.specs.Faults.{role_fault}
use Rattle.stage.specs.Homes.{HomeState}
use Rattle.stage.specs.Roles.{CanDo}
use Rattle.stage.proofs.home.Home.add_put.Goals as goal
use Rattle.stage.proofs.home.Home.add_put.Goals.{in-Ok, in-Err}

pub put_message-requires : goal.put_message-requires
put_message-requires c =
    let i = c.self.inside in
    let laws : Laws = record { steps = c.steps_run.ensures; keys = c.unique_keys.ensures; maps = c.mail_is_a_map.ensures; offers = c.offers_are_steps.ensures } in
    let can = subst (λ (h : HomeState). CanDo h.bundle h.history c.args.key.from (acts.Put c.args.key) Alone (Puts c.args.key (load c.args.payload))) (sym c.self.view_is) c.requires.can in
    record {
      free = is_free (plain i.of.value) i.limit i.history.entries i.mail i.book (map due_seen i.coming.items) i.updates c.self.invariant.shared laws
          c.args.key.from c.args.key (load c.args.payload) can;
    }

pub invariant_of-self : goal.invariant_of-self
invariant_of-self c =
    let i = c.self.inside in
    let laws : Laws = record { steps = c.steps_run.ensures; keys = c.unique_keys.ensures; maps = c.mail_is_a_map.ensures; offers = c.offers_are_steps.ensures } in
    let can = subst (λ (h : HomeState). CanDo h.bundle h.history c.args.key.from (acts.Put c.args.key) Alone (Puts c.args.key (load c.args.payload))) (sym c.self.view_is) c.requires.can in
    let free = subst (λ (h : HomeState). role_fault h ≡ None) (sym c.self.view_is) c.requires.free in
    elim c.match-put_message.branch [
      | in-Ok w ↦ home_did (plain i.of.value) i.limit i.history.entries i.cast i.names.items i.mail i.book (map due_seen i.coming.items) i.updates i.finished.items i.stopped c.self.invariant laws
          c.args.key.from (acts.Put c.args.key) Alone (Puts c.args.key (load c.args.payload)) can refl refl free
          c.put_message.new.mail i.updates c.put_message.new.history.entries w.in-Ok.ensures.put refl w.in-Ok.ensures.pushed
      | in-Err w ↦ home_same (plain i.of.value) i.limit i.history.entries i.cast i.names.items i.mail i.book (map due_seen i.coming.items) i.updates i.finished.items i.stopped c.self.invariant
          c.put_message.new.mail c.put_message.new.history.entries w.in-Err.ensures.same_mail w.in-Err.ensures.same_history
    ]
