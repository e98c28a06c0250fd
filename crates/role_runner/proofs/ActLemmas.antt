-- What a role that is tied to its seat may commit.
use Rattle.std.proofs.Common.{◌≡◌, ℕ, List, true, Option, Some, None, IsSome, refl, sym, ap, ◌∙◌, subst}
use Rattle.dioc_terms.specs.declared.entries.Act.{Act}
use Rattle.dioc_terms.specs.declared.entries.Act.TheVariants as act
use Rattle.dioc_terms.specs.declared.entries.Entry.{Entry}
use Rattle.dioc_terms.specs.declared.entries.Entry.TheVariants as entry
use Rattle.dioc_terms.specs.declared.names.Role.{Role}
use Rattle.dioc_terms.specs.declared.processes.Key.{Key}
use Rattle.dioc_terms.specs.declared.processes.Payload.{Payload}
use Rattle.dioc_terms.specs.Attempts.{Does}
use Rattle.dioc_terms.specs.Messages.{act_of, doer}
use Rattle.dioc_terms.specs.Plain.{PlainBundle, setting}
use Rattle.dioc_terms.specs.Processes.{Process, Load, load, noted}
use Rattle.dpoc_process.specs.declared.runs.Got.TheVariants as came
use Rattle.dpoc_process.specs.declared.runs.Shown.{Shown}
use Rattle.dpoc_process.specs.Handed.{Empty, IsEnabled, Message}
use Rattle.dpoc_process.specs.LocalStates.{LocalState, step_at}
use Rattle.dpoc_process.specs.RoleSteps.{IsShown, IsStep}
use Rattle.dpoc_process.specs.Shows.{message_shown}
use Rattle.marked_laws.proofs.Premise.{Known}
use Rattle.marked_laws.proofs.Shapes.{none_some, some_same}
use Rattle.marked_laws.specs.Laws.{IsSound}
use Rattle.network_steps.specs.Network.{given_at}
use Rattle.process_steps.specs.Laws.{is_done, OffersAreSteps, StepsShowTheirActs}
use Rattle.process_steps.specs.Steps.{Deed, Puts, Takes, Given, Alone, Got, entry_of, is_offered, offers, step}
use Rattle.role_runner.proofs.StepLemmas.{alone_given, alone_shown, can_do, own_deeds, put_shown, take_entry}
use Rattle.role_runner.specs.Acts.{is_alone}
use Rattle.role_runner.proofs.TieLemmas.{moved_leaves}
use Rattle.role_runner.specs.declared.acting.Tried.TheVariants as tried
use Rattle.role_runner.specs.Ties.{IsCommitted, IsTied, Leaves}
use Rattle.schedule.proofs.OwnLemmas.{own_takes}
use Rattle.stage.proofs.OwnLemmas.{is_own}
use Rattle.stage.specs.declared.faults.CommitFault.{CommitFault}
use Rattle.stage.specs.Faults.{role_fault, take_fault}
use Rattle.stage.specs.Homes.{HomeState}
use Rattle.stage.specs.Owners.{cast_place}
use Rattle.stage.specs.Roles.{CanDo, CanTake, RoleStandsAt}
use Rattle.stage.specs.Seats.{Base, CanCommit, CanCommitOwn, CanReceive, Committed, CommittedOwn}
use Rattle.turn_lock.specs.declared.views.View.{View}
use Rattle.turn_lock.specs.Views.{number}

module _ (known : Known) (steps : OffersAreSteps) (shows : StepsShowTheirActs) (bundle : PlainBundle) (sound : IsSound bundle) (q : Role) (v : View Entry Base) (s : LocalState)
    (tied : IsTied bundle q v s) where
  -- the bundle of the seat is that of the tie
  here : (base : Base) → v.base ≡ Some base → (bundle, tied.limit) ≡ base
  here base is = some_same (sym tied.base ∙ is)

  -- a deed that the role can do where its seat looked
  pub can_commit : (r : Role) (a : Act) (given : Given) (d : Deed) (P : Process) → r ≡ q → step_at s a given ≡ Does d P → CanCommit v r a given d
  can_commit r a given d P same does base is =
      subst (λ (b : Base). (number v ≡ cast_place b.0.cast r) × CanDo b.0 v.seen r a given d) (here base is) (
        tied.number_is ∙ ap (cast_place bundle.cast) (sym same),
        record {
          process = s.process;
          store = s.store;
          stands = subst (λ p. RoleStandsAt bundle v.seen p s.process s.store) (sym same) tied.stands;
          next = P;
          does = ap (λ p. step p s.store s.process a given) (same ∙ sym tied.role) ∙ does;
        },
      )

  -- each deed of the role is its own
  pub deed_own : (a : Act) (given : Given) (d : Deed) (P : Process) → given ≡ given_at (setting bundle) tied.stands.network q a → step_at s a given ≡ Does d P
      → doer (entry_of d) ≡ Some q
  deed_own a given d P fits does = own_deeds known bundle sound v.seen q s.process s.store tied.stands a given d P fits
      (ap (λ p. step p s.store s.process a given) (sym tied.role) ∙ does)

  module _ (k : Key) (p : Shown) (prepared : IsShown s (act.Put k) p) where
    abbrev pub put_is : (l : Load) × (P : Process) × (step_at s (act.Put k) Alone ≡ Does (Puts k l) P) × (message_shown p ≡ Some l)
        × (p.entry ≡ Some (entry.Put k (noted l)))
    put_is = put_shown steps shows s k p prepared

    -- the message of a put is the role's
    pub put_mine : k.from ≡ q
    put_mine = some_same (deed_own (act.Put k) Alone (Puts k put_is.0) put_is.1 refl put_is.2)

    -- and it is there
    pub put_sends : IsSome (message_shown p)
    put_sends = subst IsSome (sym put_is.3) refl

    pub put_can : (payload : Payload) → message_shown p ≡ Some (load payload) → CanCommit v k.from (act.Put k) Alone (Puts k (load payload))
    put_can payload is =
        let same : put_is.0 ≡ load payload = some_same (sym put_is.3 ∙ is) in
        subst (λ l. CanCommit v k.from (act.Put k) Alone (Puts k l)) same
        (can_commit k.from (act.Put k) Alone (Puts k put_is.0) put_is.1 put_mine put_is.2)

    pub put_enabled : IsEnabled s (act.Put k) Empty
    put_enabled = can_do steps s (act.Put k) prepared.can_act Alone refl

    pub put_leaves : (l : Load) (w : View Entry Base) → Committed role_fault v w k.from (act.Put k) Alone (Puts k l) → (local' : LocalState) → IsStep s (act.Put k) Alone local'
        → Leaves bundle q v w tried.Done local'
    put_leaves l w done local' stepped = moved_leaves bundle q v s tied role_fault w k.from (act.Put k) Alone (Puts k l) put_mine done local' stepped

    -- a put that was committed is the role's next step
    pub put_committed : (payload : Payload) → message_shown p ≡ Some (load payload) → (w : View Entry Base) → Committed role_fault v w k.from (act.Put k) Alone (Puts k (load payload))
        → IsCommitted bundle q v w s (act.Put k) came.Nothing
    put_committed payload is w done = record {
      enabled = put_enabled;
      given = Alone;
      brings = refl;
      leaves = put_leaves (load payload) w done;
    }

  module _ (k : Key) (p : Shown) (prepared : IsShown s (act.Take k) p) where
    -- what a role takes is to it
    pub take_mine : k.to ≡ q
    take_mine =
        let N = tied.stands.network in
        own_takes known bundle v.seen N sound tied.stands.runs q k
        ((λ i. is_offered (act.Take k) (offers (sym tied.role i) (tied.stands.process i))) ∙ prepared.can_act)

    pub take_can : (x : Option (List ℕ)) → p.entry ≡ Some (entry.Take k x) → CanReceive v k.to k x
    take_can x is base at =
        let role : k.to ≡ s.role = take_mine ∙ sym tied.role in
        subst (λ (b : Base). (number v ≡ cast_place b.0.cast k.to) × CanTake b.0 v.seen k.to k x) (here base at) (
          tied.number_is ∙ ap (cast_place bundle.cast) (sym take_mine),
          record {
            process = s.process;
            store = s.store;
            stands = subst (λ r. RoleStandsAt bundle v.seen r s.process s.store) (sym take_mine) tied.stands;
            offers = ap (λ r. is_offered (act.Take k) (offers r s.process)) role ∙ prepared.can_act;
            shows = λ given d P does. take_entry shows s k p prepared x is given d P (ap (λ r. step r s.store s.process (act.Take k) given) (sym role) ∙ does);
          },
        )

    module _ (fault_of : HomeState → Option CommitFault) (w : View Entry Base) (l : Load) (x : Option (List ℕ)) (done : Committed fault_of v w k.to (act.Take k) (Got l) (Takes k x l)) where
      -- with the message that came the take can be done
      pub take_enabled : IsEnabled s (act.Take k) (Message l)
      take_enabled =
          let moved = done.moved (bundle, tied.limit) s.process s.store (tied.base, tied.number_is ∙ ap (cast_place bundle.cast) (sym take_mine))
          (subst (λ r. RoleStandsAt bundle v.seen r s.process s.store) (sym take_mine) tied.stands) in
          ap is_done (ap (λ r. step r s.store s.process (act.Take k) (Got l)) (tied.role ∙ sym take_mine) ∙ moved.1)

      pub take_leaves : (local' : LocalState) → IsStep s (act.Take k) (Got l) local' → Leaves bundle q v w tried.Done local'
      take_leaves local' stepped = moved_leaves bundle q v s tied fault_of w k.to (act.Take k) (Got l) (Takes k x l) take_mine done local' stepped

    -- a take that was committed is the role's next step, with the message that came
    pub take_committed : (x : Option (List ℕ)) (w : View Entry Base) (payload : Payload)
        → Committed (take_fault k) v w k.to (act.Take k) (Got (load payload)) (Takes k x (load payload)) → IsCommitted bundle q v w s (act.Take k) (came.Payload payload)
    take_committed x w payload done = record {
      enabled = take_enabled (take_fault k) w (load payload) x done;
      given = Got (load payload);
      brings = refl;
      leaves = take_leaves (take_fault k) w (load payload) x done;
    }

  module _ (a : Act) (p : Shown) (prepared : IsShown s a p) (alone : is_alone a ≡ true) where
    -- what a role does alone it may commit
    pub alone_can : (e : Entry) → p.entry ≡ Some e → (act_of e ≡ Some a) × CanCommitOwn v e
    alone_can e is =
        let shown = alone_shown steps shows s a p prepared alone in
        let same : entry_of shown.deed ≡ e = some_same (sym shown.shown ∙ is) in
        let mine = deed_own a Alone shown.deed shown.left (alone_given bundle tied.stands.network q a alone) shown.does in (
          ap act_of (sym same) ∙ shown.acts,
          subst (CanCommitOwn v) same (record {
            role = q;
            act = a;
            deed = shown.deed;
            is_own = shown.is_own;
            who = mine;
            can = can_commit q a Alone shown.deed shown.left refl shown.does;
          }),
        )

    pub alone_entry : IsSome p.entry
    alone_entry = subst IsSome (sym (alone_shown steps shows s a p prepared alone).shown) refl

    pub alone_enabled : IsEnabled s a Empty
    alone_enabled = let shown = alone_shown steps shows s a p prepared alone in ap is_done shown.does

    -- what was done alone leaves the role tied
    pub alone_leaves : (e : Entry) → p.entry ≡ Some e → (w : View Entry Base) → CommittedOwn role_fault v w e → (local' : LocalState) → IsStep s a Alone local'
        → Leaves bundle q v w tried.Done local'
    alone_leaves e is w done local' stepped =
        let shown = alone_shown steps shows s a p prepared alone in
        let same : entry_of shown.deed ≡ e = some_same (sym shown.shown ∙ is) in
        let mine : doer e ≡ Some q = ap doer (sym same) ∙ deed_own a Alone shown.deed shown.left (alone_given bundle tied.stands.network q a alone) shown.does in
        let role : done.role ≡ q = some_same (sym done.who ∙ mine) in
        let entry_is : entry_of done.deed ≡ e = (is_own e done.deed done.is_own).shows in
        let moved = done.done.moved (bundle, tied.limit) s.process s.store (tied.base, tied.number_is ∙ ap (cast_place bundle.cast) (sym role))
        (subst (λ r. RoleStandsAt bundle v.seen r s.process s.store) (sym role) tied.stands) in
        let acts = shows done.role s.store s.process done.act Alone done.deed moved.0 moved.1 in
        let act_is : done.act ≡ a = some_same (sym acts ∙ ap act_of (entry_is ∙ sym same) ∙ shown.acts) in
        moved_leaves bundle q v s tied role_fault w done.role done.act Alone done.deed role done.done local'
        (subst (λ x. IsStep s x Alone local') (sym act_is) stepped)

    -- what was committed alone is the role's next step
    pub alone_committed : (e : Entry) → p.entry ≡ Some e → (w : View Entry Base) → CommittedOwn role_fault v w e → IsCommitted bundle q v w s a came.Nothing
    alone_committed e is w done = record {
      enabled = alone_enabled;
      given = Alone;
      brings = refl;
      leaves = alone_leaves e is w done;
    }
