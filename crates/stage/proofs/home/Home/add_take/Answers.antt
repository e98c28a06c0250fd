-- A take whose message is there is one more step of the run.
use Rattle.std.proofs.Common.{◌≡◌, None, Some, refl, sym, subst, ◌∙◌}
use Rattle.std.specs.Prelude.{map}
use Rattle.std.proofs.lemmas.Result.{IfErr-weaker, IfOk-weaker}
use Rattle.dioc_terms.specs.declared.processes.Payload.{Payload}
use Rattle.dioc_terms.specs.Plain.{plain}
use Rattle.dioc_terms.specs.Processes.{load}
use Rattle.network_steps.specs.Network.{pending_at}
use Rattle.net_core.specs.KeptParts.{due_seen}
use Rattle.net_core.specs.Nets.{network_at}
use Rattle.stage.proofs.HomeLemmas.{Laws, home_asked, pending_is, take_is_free, take_is_refused}
use Rattle.stage.specs.declared.faults.CommitFault.{CommitFault}
use Rattle.stage.specs.Faults.{role_fault, take_fault}
use Rattle.stage.specs.Homes.{HomeState}
use Rattle.stage.specs.Roles.{CanTake}
use Rattle.stage.proofs.home.Home.add_take.Goals as goal

pub invariant_of-self : goal.invariant_of-self
invariant_of-self c =
    let i = c.self.inside in
    let laws : Laws = record { steps = c.steps_run.ensures; keys = c.unique_keys.ensures; maps = c.mail_is_a_map.ensures; offers = c.offers_are_steps.ensures } in
    let can = subst (λ (h : HomeState). CanTake h.bundle h.history c.args.key.now.to c.args.key.now c.args.var) (sym c.self.view_is) c.requires.can in
    let free = subst (λ (h : HomeState). role_fault h ≡ None) (sym c.self.view_is) c.requires.free in
    let took = c.take_message.ensures in
    home_asked (plain i.of.value) i.limit i.history.entries i.cast i.names.items i.mail i.book (map due_seen i.coming.items) i.updates i.finished.items i.stopped c.self.invariant laws
    c.args.key.now.to c.args.key.now c.args.var refl can free c.take_message.new.mail c.take_message.new.history.entries c.take_message.result
    took.payload took.taken took.pushed took.same_mail took.same_history

pub returns-clause-free : goal.returns-clause-free
returns-clause-free c =
    let i = c.self.inside in
    let free = subst (λ (h : HomeState). role_fault h ≡ None) (sym c.self.view_is) c.requires.free in
    IfOk-weaker c.take_message.result _ _ (λ (p : Payload) there. subst (λ (h : HomeState). take_fault c.args.key.now h ≡ None) c.self.view_is
    (take_is_free (plain i.of.value) i.limit i.history.entries i.cast i.names.items i.mail i.book (map due_seen i.coming.items) i.updates i.finished.items i.stopped c.self.invariant
    c.args.key.now free (load p) there)) c.take_message.ensures.payload

pub returns-clause-taken : goal.returns-clause-taken
returns-clause-taken c =
    let i = c.self.inside in
    IfOk-weaker c.take_message.result _ _ (λ (p : Payload) there. subst (λ (h : HomeState). pending_at c.args.key.now (network_at h.bundle h.history).pending ≡ Some (load p)) c.self.view_is
    (sym (pending_is (plain i.of.value) i.limit i.history.entries i.mail i.book (map due_seen i.coming.items) i.updates c.self.invariant.shared c.args.key.now) ∙ there)) c.take_message.ensures.payload

pub returns-clause-first : goal.returns-clause-first
returns-clause-first c =
    let i = c.self.inside in
    let free = subst (λ (h : HomeState). role_fault h ≡ None) (sym c.self.view_is) c.requires.free in
    IfErr-weaker c.take_message.result _ _ (λ (f : CommitFault) is enough. subst (λ (h : HomeState). take_fault c.args.key.now h ≡ Some f) c.self.view_is
    ((take_is_refused (plain i.of.value) i.limit i.history.entries i.cast i.names.items i.mail i.book (map due_seen i.coming.items) i.updates i.finished.items i.stopped c.self.invariant
    c.args.key.now free f is).0 enough)) c.take_message.ensures.fault

pub returns-clause-short : goal.returns-clause-short
returns-clause-short c =
    let i = c.self.inside in
    let free = subst (λ (h : HomeState). role_fault h ≡ None) (sym c.self.view_is) c.requires.free in
    IfErr-weaker c.take_message.result _ _ (λ (f : CommitFault) is scarce. subst (λ (h : HomeState). take_fault c.args.key.now h ≡ None) c.self.view_is
    ((take_is_refused (plain i.of.value) i.limit i.history.entries i.cast i.names.items i.mail i.book (map due_seen i.coming.items) i.updates i.finished.items i.stopped c.self.invariant
    c.args.key.now free f is).1 scarce)) c.take_message.ensures.fault
