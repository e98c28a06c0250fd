-- What a net keeps, before a step and after it.
use Rattle.std.proofs.Common.{◌≡◌, ◌≢◌, ◌↔◌, ◌<◌, ◌≤◌, ℕ, suc, List, [], ◌∷◌, ◌++◌, length, map, Bool, true, false, ◌&&◌, not, Some, None, IsSome, slice_get, refl, sym, ap, ap₂, ◌∙◌, subst, arith, append-nil, length-append}
use Rattle.std.specs.Prelude.{slice_set, is_some, nat_le, unwrap_or, if◌then◌else◌, option_and_then, option_map}
use Rattle.std.proofs.lemmas.Bool.{lt-leb}
use Rattle.std.proofs.lemmas.List.Elements.{filter-append}
use Rattle.std.proofs.lemmas.Option.{slice_get-map}
use Rattle.dioc_terms.specs.declared.names.Role.{Role}
use Rattle.dioc_terms.specs.declared.processes.Key.{Key}
use Rattle.dioc_terms.specs.declared.entries.Act.{Act}
use Rattle.dioc_terms.specs.declared.entries.Act.TheVariants as act
use Rattle.dioc_terms.specs.declared.entries.Entry.{Entry}
use Rattle.dioc_terms.specs.Attempts.{Attempt, Stuck, Does}
use Rattle.dioc_terms.specs.Equality.{key_eq, member}
use Rattle.dioc_terms.specs.Messages.{act_of, visible, is_aux}
use Rattle.dioc_terms.specs.Plain.{PlainBundle, setting}
use Rattle.dioc_terms.specs.Processes.{Process, Load}
use Rattle.dioc_terms.specs.TermLaws.{CastsAreRoles}
use Rattle.dioc_terms.specs.Terms.{distinct_roles}
use Rattle.dpoc_process.specs.LocalStates.{LocalState, offered, local_done, step_at}
use Rattle.global_steps.specs.Follow.{book_choice, updates_after}
use Rattle.marked_laws.proofs.Networks.{after_deed, deed_outcome}
use Rattle.marked_laws.specs.Laws.{UniqueKeys}
use Rattle.marked_laws.specs.MailLaws.{MailIsAMap}
use Rattle.network_steps.specs.Network.{Network, NextNetwork, act_step, decision, given_at, network_ended, no_message, network_run, network_start, visible_after}
use Rattle.network_steps.specs.declared.moves.StepFault.{StepFault}
use Rattle.network_steps.specs.declared.moves.StepFault.TheVariants as fault
use Rattle.net_laws.specs.Net.{first_fault, is_offered_by}
use Rattle.network_steps.specs.Schedule.{is_ready}
use Rattle.marked_laws.proofs.Shapes.{some_same}
use Rattle.process_steps.specs.Laws.{is_done, StepsShowTheirActs}
use Rattle.process_steps.specs.Steps.{Deed, Puts, Takes, Sets, Inputs, Picks, Chooses, Given, FromBook, entry_of, ended, offers, is_offered}
use Rattle.role_mailbox.specs.declared.mail.Mail.{Mail}
use Rattle.std.specs.Map.{lookup}
use Rattle.std.specs.List.{list_all}
use Rattle.role_mailbox.specs.Pending.{messages, payload_at}
use Rattle.rule_book.specs.declared.book.Book.{Book as KeptBook}
use Rattle.rule_book.specs.KeptBooks.{book_of}
use Rattle.net_core.proofs.DeedLemmas.{deed_there, given_plain}
use Rattle.net_core.proofs.MailLemmas.{mail_now, none_pending, put_was_free, some_pending}
use Rattle.net_core.proofs.LocalLemmas.{at_member, locals_after}
use Rattle.net_core.proofs.PlaceLemmas.{role_there}
use Rattle.net_core.specs.Acts.{CanStep}
use Rattle.net_core.specs.Deeds.{IsAt, RoleDid, RefusedFor, given_to, is_there, message_given}
use Rattle.net_core.specs.Nets.{NetState, network_at, network_of}
use Rattle.net_core.specs.Standing.{Body, ScriptedChange, Parts, HoldsRun, local_in}
use Rattle.net_core.specs.StepLaws.{StepsRun}
use Rattle.net_core.specs.Steps.{IsStepAt, IsStepOf, fault_at, fault_of}

one_visible : (e : Entry) (xs : List Entry) → visible_after e (length xs) ≡ length (xs ++ visible (e ∷ []))
one_visible e xs = by_test (is_aux e)
  where
    by_test : (t : Bool) → (if t then length xs else suc (length xs)) ≡ length (xs ++ (if not t then e ∷ [] else []))
    by_test true = sym (ap length (append-nil xs))
    by_test false = omega (arith, length-append xs (e ∷ []))

-- what is visible once an entry came
pub visible_now : (H : List Entry) (e : Entry) (count : ℕ) → count ≡ length (visible H) → visible_after e count ≡ length (visible (H ++ e ∷ []))
visible_now H e count h =
    ap (visible_after e) h ∙ one_visible e (visible H) ∙ ap length (sym (filter-append (λ x. not (is_aux x)) H (e ∷ [])))

-- the network of a bundle after a run is the one that the run reaches
pub network_is : (b : PlainBundle) (H : List Entry) (N : Network) → network_run b H ≡ Some N → network_at b H ≡ N
network_is b H N runs = ap (λ o. unwrap_or o (network_start b)) runs

one_longer : (H : List Entry) (e : Entry) (limit : ℕ) → length H < limit → length (H ++ e ∷ []) ≤ limit
one_longer H e limit room = omega (arith, length-append H (e ∷ []))

-- the laws that a step of a net rests on
pub record Laws : Type 0 where
  pub steps : StepsRun
  pub keys : UniqueKeys
  pub maps : MailIsAMap
  pub casts : CastsAreRoles

module _ (b : PlainBundle) (limit : ℕ) (parts : Parts) (is : HoldsRun b limit parts) where
  pub unique : CastsAreRoles → distinct_roles b.cast ≡ true
  unique casts = ap distinct_roles is.sound.formed.cast ∙ casts.distinct b.choreo

  -- the network that the net shows
  pub at_network : network_at b parts.history ≡ is.network
  at_network = network_is b parts.history is.network is.runs

  -- what comes from outside to an act of a role
  pub given_is : (q : Role) (a : Act) → given_to b.cast b.rules parts.mail (book_of parts.book) parts.updates (is.network.stores q) a ≡ given_at (setting b) is.network q a
  given_is q (act.Take k) = ap message_given (is.pending k)
  given_is q (act.Scope i) = ap₂ (λ count book. FromBook (λ head. decision b.cast count head (book_choice b.rules book head (is.network.stores q)))) is.updates is.book
  given_is q _ = refl

  -- whether what an act needs is there
  pub ready_is : (a : Act) → is_there a parts.mail ≡ is_ready is.network a
  ready_is (act.Take k) = ap is_some (is.pending k)
  ready_is _ = refl

  -- the role that is at a place of the cast is a role of it, and its local is its own in the network
  pub local_is : (i : ℕ) (q : Role) (s : LocalState) → slice_get parts.cast i ≡ Some q → slice_get parts.locals i ≡ Some s → s ≡ local_in is.network q
  local_is i q s at here = some_same (sym here ∙ ap (λ l. slice_get l i) is.locals ∙ slice_get-map (local_in is.network) b.cast i
      ∙ ap (option_map (local_in is.network)) (sym (ap (λ l. slice_get l i) is.cast) ∙ at))

  -- a step that can be done
  pub can_do : Laws → (i : ℕ) (q : Role) (s : LocalState) (a : Act) → slice_get parts.cast i ≡ Some q → slice_get parts.locals i ≡ Some s
      → is_offered a (offered s) ≡ true → is_there a parts.mail ≡ true
      → is_done (step_at s a (given_to b.cast b.rules parts.mail (book_of parts.book) parts.updates s.store a)) ≡ true
  can_do laws i q s a at here offers there =
      let same = local_is i q s at here in
      let own : is_done (step_at (local_in is.network q) a (given_to b.cast b.rules parts.mail (book_of parts.book) parts.updates (is.network.stores q) a)) ≡ true =
      ap (λ g. is_done (step_at (local_in is.network q) a g)) (given_is q a)
      ∙ outcome_done is.network q (step_at (local_in is.network q) a (given_at (setting b) is.network q a))
      (laws.steps.ready b parts.history is.network q a is.sound is.runs (subst (λ (t : LocalState). is_offered a (offered t) ≡ true) same offers) (sym (ready_is a) ∙ there)) in
      subst (λ (t : LocalState). is_done (step_at t a (given_to b.cast b.rules parts.mail (book_of parts.book) parts.updates t.store a)) ≡ true) (sym same) own
    where
      outcome_done : (N : Network) (q : Role) (m : Attempt Deed Process) → IsSome (deed_outcome N q m) → is_done m ≡ true
      outcome_done N q Stuck h = cc
      outcome_done N q (Does d P) h = refl

  module _ (laws : Laws) (i : ℕ) (q : Role) (d : Deed) (P : Process) where
    -- the network after a deed is one of a run
    pub runs_on : (a : Act) → step_at (local_in is.network q) a (given_at (setting b) is.network q a) ≡ Does d P
        → network_run b (parts.history ++ entry_of d ∷ []) ≡ Some (after_deed is.network q d P)
    runs_on a does = laws.steps.act b parts.history is.network q a (record { entry = entry_of d; network = after_deed is.network q d P })
        is.sound is.runs (ap (deed_outcome is.network q) does)

  -- a message that can be put isn't pending
  pub is_free : Laws → (q : Role) (k : Key) (l : Load) (P : Process)
      → step_at (local_in is.network q) (act.Put k) (given_at (setting b) is.network q (act.Put k)) ≡ Does (Puts k l) P → payload_at k parts.mail ≡ None
  is_free laws q k l P does =
      is.pending k ∙ put_was_free k l is.network.pending
      (laws.keys b (parts.history ++ entry_of (Puts k l) ∷ []) (after_deed is.network q (Puts k l) P) is.sound (runs_on laws 0 q (Puts k l) P (act.Put k) does)).0

puts_only : (d : Deed) (k : Key) → act_of (entry_of d) ≡ Some (act.Put k) → (l : Load) × (d ≡ Puts k l)
puts_only (Puts j l) k is = (l, ap (λ j. Puts j l) (same_key (some_same is)))
  where
    same_key : act.Put j ≡ act.Put k → j ≡ k
    same_key e = cc
puts_only (Takes j x l) k is = cc
puts_only (Sets i r x v) k is = cc
puts_only (Inputs i r x v) k is = cc
puts_only (Picks i r b) k is = cc
puts_only (Chooses i r c) k is = cc

module _ (b : PlainBundle) (limit : ℕ) (parts : Parts) (is : HoldsRun b limit parts) (laws : Laws) (shows : StepsShowTheirActs) where
  abbrev outside : LocalState → Act → Given
  outside s a = given_to b.cast b.rules parts.mail (book_of parts.book) parts.updates s.store a

  free_put : (q : Role) (s : LocalState) → IsAt parts.cast parts.locals q s → (k : Key) → is_offered (act.Put k) (offered s) ≡ true → payload_at k parts.mail ≡ None
  free_put q s is_at k offers =
      let same = local_is b limit parts is is_at.place q s is_at.at is_at.here in
      let there = deed_there (step_at s (act.Put k) (outside s (act.Put k))) (can_do b limit parts is laws is_at.place q s (act.Put k) is_at.at is_at.here offers refl) in
      let deed = puts_only there.0 k (shows s.role s.store s.process (act.Put k) (outside s (act.Put k)) there.0 there.1 there.2) in
      is_free b limit parts is laws q k deed.0 there.1
      (subst (λ (t : LocalState). step_at t (act.Put k) (given_at (setting b) is.network q (act.Put k)) ≡ Does (Puts k deed.0) there.1) same
      (there.2 ∙ ap (λ d. Does d there.1) deed.1))

  -- what a role offers can be done where its message is there, and what it puts isn't pending
  pub can_step : (q : Role) (s : LocalState) (a : Act) → IsAt parts.cast parts.locals q s → CanStep s a parts.mail
  can_step q s a is_at = record {
    can = λ plain offers there.
        ap (λ g. is_done (step_at s a g)) (given_plain b.cast b.rules parts.mail (book_of parts.book) parts.updates s.store a plain)
        ∙ can_do b limit parts is laws is_at.place q s a is_at.at is_at.here offers there;
    free = λ k same offers. free_put q s is_at k (subst (λ c. is_offered c (offered s) ≡ true) same offers);
  }

-- the parts after the deed of a role stand again
module _ (b : PlainBundle) (limit : ℕ) (cast : List Role) (locals : List LocalState) (mail : Mail) (book : KeptBook) (bodies : List Body) (coming : List ScriptedChange) (count : ℕ) (H : List Entry) where
  abbrev pub these : List LocalState → Mail → ℕ → List Entry → Parts
  these locals mail count H = record {
    cast = cast;
    locals = locals;
    mail = mail;
    book = book;
    bodies = bodies;
    coming = coming;
    updates = count;
    history = H;
  }

  -- parts that show the same stand as well
  pub stands_same : HoldsRun b limit (these locals mail count H) → (locals' : List LocalState) (mail' : Mail) (count' : ℕ) (H' : List Entry)
      → locals' ≡ locals → messages mail' ≡ messages mail → count' ≡ count → H' ≡ H → HoldsRun b limit (these locals' mail' count' H')
  stands_same is locals' mail' count' H' same_locals same_mail same_count same_history =
      subst (λ h. HoldsRun b limit (these locals' mail' count' h)) (sym same_history)
      (subst (λ n. HoldsRun b limit (these locals' mail' n H)) (sym same_count)
      (subst (λ l. HoldsRun b limit (these l mail' count H)) (sym same_locals) (record {
        sound = is.sound;
        network = is.network;
        runs = is.runs;
        within = is.within;
        cast = is.cast;
        locals = is.locals;
        pending = λ k. ap (lookup (key_eq k)) same_mail ∙ is.pending k;
        book = is.book;
        of = is.of;
        next = is.next;
        bodies = is.bodies;
        coming = is.coming;
        updates = is.updates;
        visible = is.visible;
      })))

  module _ (is : HoldsRun b limit (these locals mail count H)) (laws : Laws) (q : Role) (a : Act) (locals' : List LocalState) (mail' : Mail) (count' : ℕ) (H' : List Entry)
      (did : RoleDid cast q a (λ s. given_to b.cast b.rules mail (book_of book) count s a) locals mail count H locals' mail' count' H') where
    pub local_same : did.local ≡ local_in is.network q
    local_same = local_is b limit (these locals mail count H) is did.place q did.local did.at did.here

    pub does : step_at (local_in is.network q) a (given_at (setting b) is.network q a) ≡ Does did.did.done.deed did.did.done.left
    does = ap (step_at (local_in is.network q) a) (sym (given_is b limit (these locals mail count H) is q a))
        ∙ subst (λ (t : LocalState). step_at t a (given_to b.cast b.rules mail (book_of book) count t.store a) ≡ Does did.did.done.deed did.did.done.left) local_same did.did.done.does

    pub runs : network_run b (H ++ entry_of did.did.done.deed ∷ []) ≡ Some (after_deed is.network q did.did.done.deed did.did.done.left)
    runs = runs_on b limit (these locals mail count H) is laws did.place q did.did.done.deed did.did.done.left a does

    pub steps : act_step (setting b) is.network q a ≡ Some (record { entry = entry_of did.did.done.deed; network = after_deed is.network q did.did.done.deed did.did.done.left })
    steps = ap (deed_outcome is.network q) does

    pub stands_after : length H < limit → HoldsRun b limit (these locals' mail' count' H')
    stands_after room = record {
      sound = is.sound;
      network = after_deed is.network q did.did.done.deed did.did.done.left;
      runs = subst (λ h. network_run b h ≡ Some (after_deed is.network q did.did.done.deed did.did.done.left)) (sym did.did.done.entries) runs;
      within = subst (λ (h : List Entry). length h ≤ limit) (sym did.did.done.entries) (one_longer H (entry_of did.did.done.deed) limit room);
      cast = is.cast;
      locals = did.locals ∙ ap₂ (λ l s. slice_set l did.place s) is.locals (did.did.done.becomes ∙ ap (λ (t : LocalState). local_done t did.did.done.deed did.did.done.left) local_same)
          ∙ sym (locals_after is.network q did.did.done.deed did.did.done.left b.cast did.place (unique b limit (these locals mail count H) is laws.casts) (sym (ap (λ l. slice_get l did.place) is.cast) ∙ did.at));
      pending = mail_now laws.maps did.did.done.deed is.network.pending mail mail'
          (laws.keys b H is.network is.sound is.runs).0
          (laws.keys b (H ++ entry_of did.did.done.deed ∷ []) (after_deed is.network q did.did.done.deed did.did.done.left) is.sound runs).0
          is.pending did.did.done.mail;
      book = is.book;
      of = is.of;
      next = is.next;
      bodies = is.bodies;
      coming = is.coming;
      updates = did.did.done.updates ∙ ap (updates_after (entry_of did.did.done.deed)) is.updates;
      visible = visible_now H (entry_of did.did.done.deed) is.network.visible is.visible ∙ ap (λ h. length (visible h)) (sym did.did.done.entries);
    }

no_fault : {e f o r : Bool} → e ≡ false → f ≡ false → o ≡ true → r ≡ true → first_fault e f o r ≡ None
no_fault e1 f1 o1 r1 j = first_fault (e1 j) (f1 j) (o1 j) (r1 j)

no_act : {e f o : Bool} (r : Bool) → e ≡ false → f ≡ false → o ≡ false → first_fault e f o r ≡ Some fault.NoAct
no_act r e1 f1 o1 j = first_fault (e1 j) (f1 j) (o1 j) r

not_yet : {e f o r : Bool} → e ≡ false → f ≡ false → o ≡ true → r ≡ false → first_fault e f o r ≡ Some fault.NotYet
not_yet e1 f1 o1 r1 j = first_fault (e1 j) (f1 j) (o1 j) (r1 j)

module _ (of : PlainBundle) (limit : ℕ) (cast : List Role) (locals : List LocalState) (mail : Mail) (book : KeptBook) (bodies : List Body) (coming : List ScriptedChange) (count : ℕ) (H : List Entry)
    (is : HoldsRun of limit (record { cast = cast; locals = locals; mail = mail; book = book; bodies = bodies; coming = coming; updates = count; history = H }))
    (goes : network_ended of.cast (network_at of H) ≡ false) (room : length H < limit) (q : Role) (a : Act) where
  abbrev state : List Entry → NetState
  state history = record { bundle = of; history = history; limit = limit }

  not_full : nat_le limit (length H) ≡ false
  not_full = lt-leb limit (length H) room

  at : network_at of H ≡ is.network
  at = network_is of H is.network is.runs

  offered_is : (t : Bool) (place : ℕ) (s : LocalState) → slice_get cast place ≡ Some q → slice_get locals place ≡ Some s → is_offered a (offered s) ≡ t
      → is_offered_by of (network_at of H) q a ≡ t
  offered_is t place s there here offering =
      let member_is : member q of.cast ≡ true = at_member of.cast place q (sym (ap (λ l. slice_get l place) is.cast) ∙ there) in
      let offers_is : is_offered a (offers q (is.network.processes q)) ≡ t =
      subst (λ (x : LocalState). is_offered a (offered x) ≡ t) (local_is of limit (these of limit cast locals mail book bodies coming count H locals mail count H) is place q s there here) offering in
      ap (λ N. is_offered_by of N q a) at ∙ (λ j. member_is j && offers_is j)

  ready_at : (t : Bool) → is_there a mail ≡ t → is_ready (network_at of H) a ≡ t
  ready_at t there =
      ap (λ N. is_ready N a) at
      ∙ sym (ready_is of limit (these of limit cast locals mail book bodies coming count H locals mail count H) is a) ∙ there

  -- what the role did is the step of the net
  pub step_made : Laws → (locals' : List LocalState) (mail' : Mail) (count' : ℕ) (H' : List Entry)
      → RoleDid cast q a (λ s. given_to of.cast of.rules mail (book_of book) count s a) locals mail count H locals' mail' count' H'
      → IsStepOf (state H) q a (state H')
  step_made laws locals' mail' count' H' did =
      let outcome : NextNetwork = record { entry = entry_of did.did.done.deed; network = after_deed is.network q did.did.done.deed did.did.done.left } in
      record {
        outcome = outcome;
        no_fault = no_fault goes not_full (offered_is true did.place did.local did.at did.here did.did.offers) (ready_at true did.did.there);
        steps = subst (λ N. act_step (setting of) N q a ≡ Some outcome) (sym at)
            (steps of limit cast locals mail book bodies coming count H is laws q a locals' mail' count' H' did);
        goes = record {
          history = did.did.done.entries;
          network = ap (network_at of) did.did.done.entries
              ∙ network_is of (H ++ entry_of did.did.done.deed ∷ []) outcome.network (runs of limit cast locals mail book bodies coming count H is laws q a locals' mail' count' H' did);
          bundle = refl;
          limit = refl;
        };
      }

  -- what is refused of the role is the first fault of the step
  pub step_refused : (f : StepFault) → RefusedFor cast locals mail q a f → f ≢ fault.Memory → fault_of (state H) q a ≡ Some f
  step_refused fault.NoAct refused h =
      no_act (is_ready (network_at of H) a) goes not_full (offered_is false refused.is_at.place refused.local refused.is_at.at refused.is_at.here refused.lacks)
  step_refused fault.NotYet refused h =
      not_yet goes not_full (offered_is true refused.is_at.place refused.local refused.is_at.at refused.is_at.here refused.offers) (ready_at false refused.waits)
  step_refused fault.Memory refused h = absurd (h refl)
  step_refused fault.Ended refused h = absurd refused
  step_refused fault.Full refused h = absurd refused

-- the fault and the step of the role at a place of the cast
pub fault_placed : (net : NetState) (place : ℕ) (q : Role) (a : Act) → slice_get net.bundle.cast place ≡ Some q → fault_at net place a ≡ fault_of net q a
fault_placed net place q a at = ap (option_and_then (λ (r : Role). fault_of net r a)) at

pub step_placed : (old new : NetState) (place : ℕ) (q : Role) (a : Act) → slice_get old.bundle.cast place ≡ Some q → IsStepAt old place a new → IsStepOf old q a new
step_placed old new place q a at made = subst (λ r. IsStepOf old r a new) (some_same (sym made.here ∙ at)) made.is

-- a network that has ended refuses each act, and so does a history that is full
module _ (net : NetState) where
  abbrev full : Bool
  full = nat_le net.limit (length net.history)

  pub ended_refuses : network_ended net.bundle.cast (network_of net) ≡ true → (q : Role) (a : Act) → fault_of net q a ≡ Some fault.Ended
  ended_refuses ends q a = ap (λ t. first_fault t full (is_offered_by net.bundle (network_of net) q a) (is_ready (network_of net) a)) ends

  pub full_refuses : network_ended net.bundle.cast (network_of net) ≡ false → full ≡ true → (q : Role) (a : Act) → fault_of net q a ≡ Some fault.Full
  full_refuses goes is q a = ap₂ (λ t s. first_fault t s (is_offered_by net.bundle (network_of net) q a) (is_ready (network_of net) a)) goes is

-- what refuses each act refuses those of the role at a place
pub place_refuses : (net : NetState) (place : ℕ) (a : Act) (f : StepFault) → place < length net.bundle.cast → ((q : Role) (b : Act) → fault_of net q b ≡ Some f)
    → fault_at net place a ≡ Some f
place_refuses net place a f inside refuses =
    let at = role_there net.bundle.cast place inside in
    fault_placed net place at.0 a at.1 ∙ refuses at.0 a

-- a role that isn't of the cast is refused its acts
pub stranger_refused : (net : NetState) (q : Role) (a : Act) → network_ended net.bundle.cast (network_of net) ≡ false → length net.history < net.limit
    → member q net.bundle.cast ≡ false → fault_of net q a ≡ Some fault.NoAct
stranger_refused net q a goes room out =
    no_act (is_ready (network_of net) a) goes (lt-leb net.limit (length net.history) room)
    (ap (λ t. t && is_offered a (offers q ((network_of net).processes q))) out)

all_locals : {A : Type 0} (f : A → LocalState) (listed : List A) → list_all (λ x. ended (f x).process) listed ≡ list_all (λ (s : LocalState). ended s.process) (map f listed)
all_locals f [] = refl
all_locals f (x ∷ xs) = ap (λ t. ended (f x).process && t) (all_locals f xs)

all_roles : (N : Network) (roles : List Role) → list_all (λ (s : LocalState). ended s.process) (map (local_in N) roles) ≡ list_all (λ q. ended (N.processes q)) roles
all_roles N [] = refl
all_roles N (q ∷ qs) = ap (λ t. ended (N.processes q) && t) (all_roles N qs)

-- each role has ended and no message is pending, exactly where the network has ended
pub ended_is : {A : Type 0} (f : A → LocalState) (b : PlainBundle) (limit : ℕ) (parts : Parts) (is : HoldsRun b limit parts) (listed : List A) (empty : Bool) → parts.locals ≡ map f listed
    → ((empty ≡ true) ↔ ((k : Key) → payload_at k parts.mail ≡ None))
    → (empty && list_all (λ x. ended (f x).process) listed) ≡ network_ended b.cast (network_at b parts.history)
ended_is f b limit parts is listed empty same none =
    let done : list_all (λ x. ended (f x).process) listed ≡ list_all (λ q. ended (is.network.processes q)) b.cast =
    all_locals f listed ∙ ap (list_all (λ (s : LocalState). ended s.process)) (sym same ∙ is.locals) ∙ all_roles is.network b.cast in
    let vacant : empty ≡ no_message is.network.pending = same_tests empty (no_message is.network.pending)
    (λ h. some_pending is.network.pending (λ k. sym (is.pending k) ∙ none.0 h k))
    (λ h. none.1 (λ k. is.pending k ∙ none_pending is.network.pending h k)) in
    (λ j. vacant j && done j) ∙ swapped (no_message is.network.pending) (list_all (λ q. ended (is.network.processes q)) b.cast)
    ∙ ap (network_ended b.cast) (sym (network_is b parts.history is.network is.runs))
  where
    same_tests : (s t : Bool) → (s ≡ true → t ≡ true) → (t ≡ true → s ≡ true) → s ≡ t
    same_tests true t f g = sym (f refl)
    same_tests false true f g = g refl
    same_tests false false f g = refl

    swapped : (s t : Bool) → (s && t) ≡ (t && s)
    swapped true true = refl
    swapped true false = refl
    swapped false true = refl
    swapped false false = refl
