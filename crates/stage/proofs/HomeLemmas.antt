-- What a home keeps, before a commit and after it.
use Rattle.std.proofs.Common.{◌≡◌, ◌≢◌, ◌≤◌, ◌<◌, ℕ, suc, List, [], ◌∷◌, ◌++◌, length, Bool, true, false, is_some, is_none, Option, Some, None, IsSome, refl, sym, ap, ◌∙◌, subst, arith, length-append}
use Rattle.std.specs.Prelude.{nat_le, Result, Ok, Err, IfOk, OnErr, OnOk}
use Rattle.std.specs.Option.{option_or}
use Rattle.std.specs.Map.{lookup}
use Rattle.std.proofs.lemmas.Bool.Decides.{nat_tests}
use Rattle.dioc_terms.specs.declared.entries.Act.{Act}
use Rattle.dioc_terms.specs.declared.entries.Act.TheVariants as act
use Rattle.dioc_terms.specs.declared.entries.Chosen.TheVariants as chosen
use Rattle.dioc_terms.specs.declared.entries.Entry.{Entry}
use Rattle.dioc_terms.specs.declared.names.Role.{Role}
use Rattle.dioc_terms.specs.declared.entries.Entry.TheVariants as entry
use Rattle.dioc_terms.specs.declared.processes.Key.{Key}
use Rattle.dioc_terms.specs.declared.processes.Payload.{Payload}
use Rattle.dioc_terms.specs.Attempts.{Attempt, Stuck, Does}
use Rattle.dioc_terms.specs.Equality.{key_eq}
use Rattle.dioc_terms.specs.Messages.{doer, visible}
use Rattle.dioc_terms.specs.Plain.{PlainBundle, setting}
use Rattle.dioc_terms.specs.Processes.{Process, Load, load}
use Rattle.global_steps.specs.Follow.{updates_after}
use Rattle.marked_laws.proofs.Networks.{after_deed, deed_outcome}
use Rattle.marked_laws.proofs.Shapes.{some_same}
use Rattle.marked_laws.specs.Laws.{IsSound, UniqueKeys}
use Rattle.marked_laws.specs.MailLaws.{MailIsAMap}
use Rattle.network_steps.specs.Network.{Network, given_at, network_run, pending_at}
use Rattle.network_steps.specs.Schedule.{change_is_due, change_due}
use Rattle.process_steps.specs.Laws.{is_done, OffersAreSteps, StepsShowTheirActs}
use Rattle.process_steps.specs.Steps.{Deed, Puts, Takes, Sets, Inputs, Picks, Chooses, Given, Alone, Got, entry_of, ended, is_offered, offers, step}
use Rattle.role_mailbox.specs.declared.mail.Mail.{Mail}
use Rattle.role_mailbox.specs.Pending.{messages, payload_at}
use Rattle.net_core.proofs.MailLemmas.{mail_now, put_was_free}
use Rattle.net_core.proofs.NetLemmas.{network_is, visible_now}
use Rattle.net_core.specs.Deeds.{MailAfter, message_given}
use Rattle.net_core.specs.MovesIn.{is_first_due}
use Rattle.net_core.specs.Nets.{network_at}
use Rattle.net_core.specs.Standing.{ScriptedChange}
use Rattle.net_core.specs.StepLaws.{StepsRun}
use Rattle.rule_book.specs.declared.book.Book.{Book as KeptBook}
use Rattle.stage.proofs.PromptRuns.{prompt_more, no_change_more, first_due}
use Rattle.stage.proofs.Runs.{stands_still}
use Rattle.stage.specs.declared.faults.Why.{Why}
use Rattle.stage.specs.declared.faults.CommitFault.{CommitFault}
use Rattle.stage.specs.Homes.{HomeState, HasEnded, IsHome, IsSharedAfter, IsSoundHome, MarksHold}
use Rattle.stage.specs.Faults.{stop_fault, fault_if, full_fault, refusal_by, role_fault, take_fault}
use Rattle.stage.specs.declared.faults.CommitFault.TheVariants as fault
use Rattle.stage.specs.Roles.{CanAdd, CanDo, CanTake}
use Rattle.stage.proofs.OwnLemmas.{is_own}
use Rattle.stage.proofs.TakeLemmas.{take_is}

-- the laws that a commit rests on
pub record Laws : Type 0 where
  pub steps : StepsRun
  pub keys : UniqueKeys
  pub maps : MailIsAMap
  pub offers : OffersAreSteps

is_somebodys : (d : Deed) → is_none (doer (entry_of d)) ≡ false
is_somebodys (Puts k l) = refl
is_somebodys (Takes k x l) = refl
is_somebodys (Sets i r x v) = refl
is_somebodys (Inputs i r x v) = refl
is_somebodys (Picks i r t) = refl
is_somebodys (Chooses i r c) = refl

few_more : (d : Deed) (n : ℕ) → updates_after (entry_of d) n ≤ suc n
few_more (Puts k l) n = omega arith
few_more (Takes k x l) n = omega arith
few_more (Sets i r x v) n = omega arith
few_more (Inputs i r x v) n = omega arith
few_more (Picks i r t) n = omega arith
few_more (Chooses i r chosen.Keep) n = omega arith
few_more (Chooses i r (chosen.Rule name m)) n = omega arith

done_true : {m : Attempt Deed Process} {d : Deed} {P : Process} → m ≡ Does d P → is_done m ≡ true
done_true h = ap is_done h

both : {t : Bool} → t ≡ true → t ≡ false → ⊥
both is not = cc

module _ (b : PlainBundle) (limit : ℕ) (H : List Entry) (mail : Mail) (book : KeptBook) (script : List ScriptedChange) (count : ℕ) (is : IsSharedAfter b limit H mail book script count) where
  -- whether the script's next change is due
  pub due_is : is_first_due script (length (visible H)) ≡ change_is_due b H
  due_is = ap (λ s. is_first_due s (length (visible H))) is.rest
      ∙ first_due b.rules b.script is.network.changes (length (visible H))
      ∙ ap (λ n. change_due b.script n (length (visible H))) is.changes

  -- what is pending for a key
  pub pending_is : (k : Key) → payload_at k mail ≡ pending_at k (network_at b H).pending
  pending_is k = is.pending k ∙ ap (λ (N : Network). pending_at k N.pending) (sym (network_is b H is.network is.runs))

  -- other parts that show the same are shared as well
  pub shared_same : (mail' : Mail) (H' : List Entry) → messages mail' ≡ messages mail → H' ≡ H → IsSharedAfter b limit H' mail' book script count
  shared_same mail' H' same_mail same_history = subst (λ h. IsSharedAfter b limit h mail' book script count) (sym same_history) (record {
    sound = is.sound;
    network = is.network;
    runs = is.runs;
    within = is.within;
    small = is.small;
    prompt = is.prompt;
    pending = λ k. ap (lookup (key_eq k)) same_mail ∙ is.pending k;
    opened = is.opened;
    of = is.of;
    next = is.next;
    rest = is.rest;
    changes = is.changes;
    visible = is.visible;
    updates = is.updates;
    few = is.few;
  })

  module _ (laws : Laws) (q : Role) (a : Act) (given : Given) (d : Deed) (can : CanDo b H q a given d) (fits : given ≡ given_at (setting b) is.network q a) where
    here : can.stands.network ≡ is.network
    here = some_same (sym can.stands.runs ∙ is.runs)

    process : is.network.processes q ≡ can.process
    process = ap (λ (N : Network). N.processes q) (sym here) ∙ can.stands.process

    store : is.network.stores q ≡ can.store
    store = ap (λ (N : Network). N.stores q) (sym here) ∙ can.stands.store

    does : step q (is.network.stores q) (is.network.processes q) a (given_at (setting b) is.network q a) ≡ Does d can.next
    does = (λ i. step q (store i) (process i) a (sym fits i)) ∙ can.does

    abbrev pub next_network : Network
    next_network = after_deed is.network q d can.next

    pub next_runs : network_run b (H ++ entry_of d ∷ []) ≡ Some next_network
    next_runs = laws.steps.act b H is.network q a (record { entry = entry_of d; network = after_deed is.network q d can.next })
        is.sound is.runs (ap (deed_outcome is.network q) does)

    -- what the roles share after the deed
    pub shared_did : length H < limit → change_is_due b H ≡ false → (mail' : Mail) (count' : ℕ) (H' : List Entry) → MailAfter d mail mail'
        → count' ≡ updates_after (entry_of d) count → H' ≡ H ++ entry_of d ∷ [] → IsSharedAfter b limit H' mail' book script count'
    shared_did room calm mail' count' H' changed counted pushed = subst (λ h. IsSharedAfter b limit h mail' book script count') (sym pushed) (record {
      sound = is.sound;
      network = after_deed is.network q d can.next;
      runs = runs';
      within = omega (arith, room, length-append H (entry_of d ∷ []));
      small = is.small;
      prompt = prompt_more b H (entry_of d) is.prompt (λ somebody. calm);
      pending = mail_now laws.maps d is.network.pending mail mail'
          (laws.keys b H is.network is.sound is.runs).0
          (laws.keys b (H ++ entry_of d ∷ []) (after_deed is.network q d can.next) is.sound runs').0
          is.pending changed;
      opened = is.opened;
      of = is.of;
      next = is.next;
      rest = is.rest;
      changes = is.changes ∙ sym (no_change_more H (entry_of d) (is_somebodys d));
      visible = visible_now H (entry_of d) is.network.visible is.visible;
      updates = counted ∙ ap (updates_after (entry_of d)) is.updates;
      few = omega (arith, counted, few_more d count, is.few, length-append H (entry_of d ∷ []));
    })
      where
        runs' : network_run b (H ++ entry_of d ∷ []) ≡ Some (after_deed is.network q d can.next)
        runs' = laws.steps.act b H is.network q a (record { entry = entry_of d; network = after_deed is.network q d can.next })
            is.sound is.runs (ap (deed_outcome is.network q) does)

-- where a role has ended, it can do nothing
ended_does : OffersAreSteps → (b : PlainBundle) (H : List Entry) (q : Role) (a : Act) (given : Given) (d : Deed) → HasEnded b H q → CanDo b H q a given d → ⊥
ended_does offers b H q a given d was can =
    let here : can.stands.network ≡ was.stands.network = some_same (sym can.stands.runs ∙ was.stands.runs) in
    let process : was.process ≡ can.process = sym was.stands.process ∙ ap (λ (N : Network). N.processes q) (sym here) ∙ can.stands.process in
    both (done_true can.does) (offers.ended q can.store can.process a given (ap ended (sym process) ∙ was.done))

-- a role that has ended has ended after an entry of another
pub ended_stays : (b : PlainBundle) (H : List Entry) (q : Role) (e : Entry) (N : Network) → network_run b (H ++ e ∷ []) ≡ Some N → (doer e ≡ Some q → ⊥) → HasEnded b H q → HasEnded b (H ++ e ∷ []) q
ended_stays b H q e N runs other was = record {
  process = was.process;
  store = was.store;
  stands = stands_still b H (e ∷ []) q was.process was.store N runs (other, tt) was.stands;
  done = was.done;
}

pub stopped_not : {o : Option Why} {w : Why} → o ≡ None → o ≡ Some w → ⊥
stopped_not none some = cc

-- the marks hold after an entry of a role that can do it
pub marks_did : OffersAreSteps → (b : PlainBundle) (limit : ℕ) (H : List Entry) (finished : List Bool) (stopped : Option Why) → MarksHold b limit H finished stopped → stopped ≡ None
    → (q : Role) (a : Act) (given : Given) (d : Deed) → CanDo b H q a given d → doer (entry_of d) ≡ Some q → (N : Network) → network_run b (H ++ entry_of d ∷ []) ≡ Some N
    → (H' : List Entry) → H' ≡ H ++ entry_of d ∷ [] → MarksHold b limit H' finished stopped
marks_did offers b limit H finished stopped hold goes q a given d can who N runs H' pushed = subst (λ h. MarksHold b limit h finished stopped) (sym pushed) (record {
  marks = hold.marks;
  finish = λ i r at mark. still r (hold.finish i r at mark);
  stop = λ cut. absurd (stopped_not goes cut);
})
  where
    still : (r : Role) → HasEnded b H r → HasEnded b (H ++ entry_of d ∷ []) r
    still r was = ended_stays b H r (entry_of d) N runs
        (λ own. absurd (ended_does offers b H q a given d (subst (HasEnded b H) (some_same (sym own ∙ who)) was) can)) was

-- a message that a role can put isn't pending
pub is_free : (b : PlainBundle) (limit : ℕ) (H : List Entry) (mail : Mail) (book : KeptBook) (script : List ScriptedChange) (count : ℕ) → IsSharedAfter b limit H mail book script count
    → Laws → (q : Role) (k : Key) (l : Load) → CanDo b H q (act.Put k) Alone (Puts k l) → payload_at k mail ≡ None
is_free b limit H mail book script count is laws q k l can =
    is.pending k ∙ put_was_free k l is.network.pending
    (laws.keys b (H ++ entry_of (Puts k l) ∷ []) (after_deed is.network q (Puts k l) can.next) is.sound
    (next_runs b limit H mail book script count is laws q (act.Put k) Alone (Puts k l) can refl)).0

-- what the two faults together say where there is none
pub or_none : {A : Type 0} (o p : Option A) → option_or o p ≡ None → (o ≡ None) × (p ≡ None)
or_none None p h = (refl, h)
or_none (Some x) p h = cc

pub not_full : (limit : ℕ) (H : List Entry) → nat_le limit (length H) ≡ false → length H < limit
not_full limit H h = grind (arith, nat_tests)

pub sound_home : (of : PlainBundle) (limit : ℕ) (H : List Entry) (cast : List Role) (names : List (List ℕ)) (mail : Mail) (book : KeptBook) (script : List ScriptedChange) (count : ℕ) (finished : List Bool) (stopped : Option Why)
    → IsHome of limit H cast names mail book script count finished stopped
    → IsSoundHome (record { bundle = of; limit = limit; history = H; finished = finished; stopped = stopped })
sound_home of limit H cast names mail book script count finished stopped is = record {
  sound = is.shared.sound;
  network = is.shared.network;
  runs = is.shared.runs;
  within = is.shared.within;
  small = is.shared.small;
  prompt = is.shared.prompt;
  marks = is.marks;
}

pub no_stop : (o : Option Why) → stop_fault o ≡ None → o ≡ None
no_stop None h = refl
no_stop (Some w) h = cc

pub no_fault_if : (t : Bool) (f : CommitFault) → fault_if t f ≡ None → t ≡ false
no_fault_if false f h = refl
no_fault_if true f h = cc

-- what it says that a home has no fault for roles
pub record IsFree (home : HomeState) : Type 0 where
  pub goes : home.stopped ≡ None
  pub room : length home.history < home.limit
  pub calm : change_is_due home.bundle home.history ≡ false

pub role_free : (home : HomeState) → role_fault home ≡ None → IsFree home
role_free home h =
    let stop = or_none (stop_fault home.stopped) (option_or (full_fault home) (fault_if (change_is_due home.bundle home.history) fault.NotYet)) h in
    let full = or_none (full_fault home) (fault_if (change_is_due home.bundle home.history) fault.NotYet) stop.1 in
    record {
      goes = no_stop home.stopped stop.0;
      room = not_full home.limit home.history (no_fault_if (nat_le home.limit (length home.history)) fault.Full full.0);
      calm = no_fault_if (change_is_due home.bundle home.history) fault.NotYet full.1;
    }

module _ (of : PlainBundle) (limit : ℕ) (H : List Entry) (cast : List Role) (names : List (List ℕ)) (mail : Mail) (book : KeptBook) (script : List ScriptedChange) (count : ℕ) (finished : List Bool) (stopped : Option Why)
    (is : IsHome of limit H cast names mail book script count finished stopped) where
  abbrev pub shown : HomeState
  shown = record { bundle = of; limit = limit; history = H; finished = finished; stopped = stopped }

  -- what a home keeps after the deed of a role
  pub home_did : Laws → (q : Role) (a : Act) (given : Given) (d : Deed) → CanDo of H q a given d → given ≡ given_at (setting of) is.shared.network q a
      → doer (entry_of d) ≡ Some q → role_fault shown ≡ None → (mail' : Mail) (count' : ℕ) (H' : List Entry) → MailAfter d mail mail'
      → count' ≡ updates_after (entry_of d) count → H' ≡ H ++ entry_of d ∷ [] → IsHome of limit H' cast names mail' book script count' finished stopped
  home_did laws q a given d can fits who free mail' count' H' changed counted pushed =
      let calm = role_free shown free in
      let runs = next_runs of limit H mail book script count is.shared laws q a given d can fits in
      record {
        shared = shared_did of limit H mail book script count is.shared laws q a given d can fits calm.room calm.calm mail' count' H' changed counted pushed;
        same_cast = is.same_cast;
        same_names = is.same_names;
        marks = marks_did laws.offers of limit H finished stopped is.marks calm.goes q a given d can who
            (next_network of limit H mail book script count is.shared laws q a given d can fits) runs H' pushed;
      }

  -- a home that shows the same stands as well
  pub home_same : (mail' : Mail) (H' : List Entry) → messages mail' ≡ messages mail → H' ≡ H → IsHome of limit H' cast names mail' book script count finished stopped
  home_same mail' H' same_mail same_history = record {
    shared = shared_same of limit H mail book script count is.shared mail' H' same_mail same_history;
    same_cast = is.same_cast;
    same_names = is.same_names;
    marks = subst (λ h. MarksHold of limit h finished stopped) (sym same_history) is.marks;
  }

outcome_there : (N : Network) (q : Role) (m : Attempt Deed Process) → IsSome (deed_outcome N q m) → (d : Deed) × (P : Process) × (m ≡ Does d P)
outcome_there N q Stuck h = cc
outcome_there N q (Does d P) h = (d, P, refl)

-- a take whose message is there can be done with it
pub take_can : Laws → (b : PlainBundle) (H : List Entry) (N : Network) → IsSound b → network_run b H ≡ Some N → (q : Role) (k : Key) (x : Option (List ℕ)) → CanTake b H q k x
    → (l : Load) → pending_at k N.pending ≡ Some l → CanDo b H q (act.Take k) (Got l) (Takes k x l)
take_can laws b H N sound runs q k x can l there =
    let here : can.stands.network ≡ N = some_same (sym can.stands.runs ∙ runs) in
    let process : N.processes q ≡ can.process = ap (λ (M : Network). M.processes q) (sym here) ∙ can.stands.process in
    let store : N.stores q ≡ can.store = ap (λ (M : Network). M.stores q) (sym here) ∙ can.stands.store in
    let ready = laws.steps.ready b H N q (act.Take k) sound runs (ap (λ P. is_offered (act.Take k) (offers q P)) process ∙ can.offers) (ap is_some there) in
    let did = outcome_there N q (step q (N.stores q) (N.processes q) (act.Take k) (given_at (setting b) N q (act.Take k))) ready in
    let given : given_at (setting b) N q (act.Take k) ≡ Got l = ap message_given there in
    let does : step q can.store can.process (act.Take k) (Got l) ≡ Does did.0 did.1 =
    (λ i. step q (sym store i) (sym process i) (act.Take k) (sym given i)) ∙ did.2 in
    let same = take_is q can.store (act.Take k) l can.process did.1 did.0 k x does (can.shows (Got l) did.0 did.1 does) in
    record {
      process = can.process;
      store = can.store;
      stands = can.stands;
      next = did.1;
      does = does ∙ ap (λ d. Does d did.1) same;
    }

-- of a home with no fault for roles: a take whose message is there has none either, and a refused one has the fault of what is pending
take_of : (r : Option CommitFault) (o p : Option Load) → r ≡ None → o ≡ p → (l : Load) → p ≡ Some l → option_or r (fault_if (is_none o) fault.NotYet) ≡ None
take_of r o p free same l there = rw (free, same, there) refl

refused_of : (p : Option Load) → (refusal_by p ≢ fault.Memory → fault_if (is_none p) fault.NotYet ≡ Some (refusal_by p)) × (refusal_by p ≡ fault.Memory → fault_if (is_none p) fault.NotYet ≡ None)
refused_of None = (λ _. refl, λ is. cc)
refused_of (Some l) = (λ no. absurd (no refl), λ _. refl)

refused_as : (r : Option CommitFault) (o p : Option Load) → r ≡ None → o ≡ p → (f : CommitFault) → f ≡ refusal_by p
    → (f ≢ fault.Memory → option_or r (fault_if (is_none o) fault.NotYet) ≡ Some f) × (f ≡ fault.Memory → option_or r (fault_if (is_none o) fault.NotYet) ≡ None)
refused_as r o p free same f is = rw (free, same, is) (refused_of p)

module _ (of : PlainBundle) (limit : ℕ) (H : List Entry) (cast : List Role) (names : List (List ℕ)) (mail : Mail) (book : KeptBook) (script : List ScriptedChange) (count : ℕ) (finished : List Bool) (stopped : Option Why)
    (is : IsHome of limit H cast names mail book script count finished stopped) where
  -- where the home has no fault for roles, a take whose message is there has no fault
  pub take_is_free : (k : Key) → role_fault (shown of limit H cast names mail book script count finished stopped is) ≡ None → (l : Load) → payload_at k mail ≡ Some l
      → take_fault k (shown of limit H cast names mail book script count finished stopped is) ≡ None
  take_is_free k free = take_of _ _ (payload_at k mail) free (sym (pending_is of limit H mail book script count is.shared k))

  -- and one that is refused has the fault of what is pending
  pub take_is_refused : (k : Key) → role_fault (shown of limit H cast names mail book script count finished stopped is) ≡ None → (f : CommitFault) → f ≡ refusal_by (payload_at k mail)
      → (f ≢ fault.Memory → take_fault k (shown of limit H cast names mail book script count finished stopped is) ≡ Some f) × (f ≡ fault.Memory → take_fault k (shown of limit H cast names mail book script count finished stopped is) ≡ None)
  take_is_refused k free = refused_as _ _ (payload_at k mail) free (sym (pending_is of limit H mail book script count is.shared k))

  -- what a home keeps after a take
  pub home_took : Laws → (q : Role) (k : Key) (x : Option (List ℕ)) (l : Load) → k.to ≡ q → CanTake of H q k x
      → role_fault (shown of limit H cast names mail book script count finished stopped is) ≡ None → payload_at k mail ≡ Some l
      → (mail' : Mail) (H' : List Entry) → MailAfter (Takes k x l) mail mail' → H' ≡ H ++ entry_of (Takes k x l) ∷ []
      → IsHome of limit H' cast names mail' book script count finished stopped
  home_took laws q k x l to can free there mail' H' changed pushed =
      let pending : pending_at k is.shared.network.pending ≡ Some l = sym (is.shared.pending k) ∙ there in
      home_did of limit H cast names mail book script count finished stopped is laws q (act.Take k) (Got l) (Takes k x l)
      (take_can laws of H is.shared.network is.shared.sound is.shared.runs q k x can l pending)
      (sym (ap message_given pending)) (ap (λ (r : Role). Some r) to) free mail' count H' changed refl pushed

  -- what a home keeps after a take, or its refusal
  pub home_asked : Laws → (q : Role) (k : Key) (x : Option (List ℕ)) → k.to ≡ q → CanTake of H q k x
      → role_fault (shown of limit H cast names mail book script count finished stopped is) ≡ None
      → (mail' : Mail) (H' : List Entry) (r : Result Payload CommitFault) → IfOk r (λ p. payload_at k mail ≡ Some (load p))
      → ((l : Load) → OnOk r (MailAfter (Takes k x l) mail mail')) → OnOk r (H' ≡ H ++ entry.Take k x ∷ [])
      → OnErr r (messages mail' ≡ messages mail) → OnErr r (H' ≡ H)
      → IsHome of limit H' cast names mail' book script count finished stopped
  home_asked laws q k x to can free mail' H' (Ok p) there taken pushed same_mail same_history =
      home_took laws q k x (load p) to can free there mail' H' (taken (load p)) pushed
  home_asked laws q k x to can free mail' H' (Err f) there taken pushed same_mail same_history =
      home_same of limit H cast names mail book script count finished stopped is mail' H' same_mail same_history

  -- what a home keeps after what a role did alone
  pub home_added : Laws → StepsShowTheirActs → (e : Entry) → CanAdd of H e → role_fault (shown of limit H cast names mail book script count finished stopped is) ≡ None
      → (H' : List Entry) → H' ≡ H ++ e ∷ [] → IsHome of limit H' cast names mail book script count finished stopped
  home_added laws shows e can free H' pushed =
      let own = is_own e can.deed can.is_own in
      let acts = shows can.role can.can.store can.can.process can.act Alone can.deed can.can.next can.can.does in
      home_did of limit H cast names mail book script count finished stopped is laws can.role can.act Alone can.deed can.can
      (own.alone (setting of) is.shared.network can.role can.act acts) (ap doer own.shows ∙ can.who) free
      mail count H' (own.mail mail) (own.updates count) (pushed ∙ ap (λ x. H ++ x ∷ []) (sym own.shows))
