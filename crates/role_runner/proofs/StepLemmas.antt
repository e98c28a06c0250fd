-- What a role that stands in a run can do there: what it offers it can do, and each deed is its own.
use Rattle.std.proofs.Common.{◌≡◌, ℕ, List, Bool, true, false, Option, Some, refl, sym, ap, ◌∙◌, subst}
use Rattle.std.proofs.lemmas.Bool.{both_ways}
use Rattle.dioc_terms.specs.declared.entries.Act.{Act}
use Rattle.dioc_terms.specs.declared.entries.Act.TheVariants as act
use Rattle.dioc_terms.specs.declared.entries.Entry.{Entry}
use Rattle.dioc_terms.specs.declared.entries.Entry.TheVariants as entry
use Rattle.dioc_terms.specs.declared.names.Role.{Role}
use Rattle.dioc_terms.specs.declared.processes.Key.{Key}
use Rattle.dioc_terms.specs.declared.processes.Tag.{Tag}
use Rattle.dioc_terms.specs.declared.processes.Tag.TheVariants.{Op, Choice, Go, Turn, Begin, End, Out}
use Rattle.dioc_terms.specs.declared.values.Value.TheVariants as value
use Rattle.dioc_terms.specs.Attempts.{Attempt, Stuck, Does}
use Rattle.dioc_terms.specs.Messages.{act_of, doer}
use Rattle.dioc_terms.specs.Plain.{PlainBundle, setting}
use Rattle.dioc_terms.specs.Processes.{Process, Load, Val, Flag, Keep, Done, noted}
use Rattle.dioc_terms.specs.Stores.{Store}
use Rattle.dpoc_process.specs.declared.runs.Shown.{Shown}
use Rattle.dpoc_process.specs.LocalStates.{LocalState, offered, step_at}
use Rattle.dpoc_process.specs.RoleSteps.{IsShown, entry_before, sent}
use Rattle.dpoc_process.specs.Shows.{message_shown}
use Rattle.marked_laws.proofs.Networks.{after_deed, deed_outcome}
use Rattle.marked_laws.proofs.Plays.{entry_doer}
use Rattle.marked_laws.proofs.Premise.{Known}
use Rattle.marked_laws.proofs.Shapes.{some_same}
use Rattle.marked_laws.specs.Laws.{IsSound}
use Rattle.network_steps.specs.Network.{Network, NextNetwork, given_at}
use Rattle.net_laws.proofs.MoveLemmas.{reached, deed_of}
use Rattle.process_steps.specs.Laws.{given_fits, is_done, load_fits, OffersAreSteps, StepsShowTheirActs}
use Rattle.process_steps.specs.Steps.{Deed, Puts, Takes, Sets, Inputs, Picks, Chooses, Given, Alone, Got, FromBook, Keeps, entry_of, ended, is_offered, step}
use Rattle.role_runner.specs.Acts.{is_alone}
use Rattle.stage.specs.Roles.{RoleStandsAt, is_assignment, own_deed}

-- what a message with this tag may carry
abbrev fitting_load : Tag → Load
fitting_load (Op o) = Val value.Nil
fitting_load Choice = Flag true
fitting_load Go = Flag true
fitting_load Begin = Keep
fitting_load _ = Done

load_fitting : (t : Tag) → load_fits t (fitting_load t) ≡ true
load_fitting (Op o) = refl
load_fitting Choice = refl
load_fitting Go = refl
load_fitting Turn = refl
load_fitting Begin = refl
load_fitting End = refl
load_fitting Out = refl

-- something with which an act can be done
abbrev fitting : Act → Given
fitting (act.Take k) = Got (fitting_load k.tag)
fitting (act.Scope i) = FromBook (λ head. Keeps)
fitting _ = Alone

given_fitting : (a : Act) → given_fits a (fitting a) ≡ true
given_fitting (act.Take k) = load_fitting k.tag
given_fitting (act.Scope i) = refl
given_fitting (act.Put k) = refl
given_fitting (act.Set i) = refl
given_fitting (act.Input i) = refl
given_fitting (act.Pick i) = refl

-- what is done where something is done
pub deed_there : (m : Attempt Deed Process) → is_done m ≡ true → (d : Deed) × (P : Process) × (m ≡ Does d P)
deed_there Stuck h = cc
deed_there (Does d P) h = (d, P, refl)

pub deed_same : {d e : Deed} {P Q : Process} → Does d P ≡ Does e Q → d ≡ e
deed_same h = cc

pub left_same : {d e : Deed} {P Q : Process} → Does d P ≡ Does e Q → P ≡ Q
left_same h = cc

not_ended : (t : Bool) → (t ≡ true → ⊥) → t ≡ false
not_ended true h = absurd (h refl)
not_ended false h = refl

module _ (steps : OffersAreSteps) (s : LocalState) (a : Act) (offers_it : is_offered a (offered s) ≡ true) where
  -- an act that is offered can be done with what fits it
  pub can_do : (given : Given) → given_fits a given ≡ true → is_done (step_at s a given) ≡ true
  can_do given fits = steps.exactly s.role s.store s.process a given fits ∙ offers_it

  -- a process that offers an act has not ended
  pub goes_on : ended s.process ≡ false
  goes_on = not_ended (ended s.process)
      (λ over. both_ways (is_done (step_at s a (fitting a))) (steps.ended s.role s.store s.process a (fitting a) over) (can_do (fitting a) (given_fitting a)))

  pub fitting_deed : (d : Deed) × (P : Process) × (step_at s a (fitting a) ≡ Does d P)
  fitting_deed = deed_there (step_at s a (fitting a)) (can_do (fitting a) (given_fitting a))

-- a deed whose act is a put is a put
pub puts_key : (d : Deed) (k : Key) → act_of (entry_of d) ≡ Some (act.Put k) → (l : Load) × (d ≡ Puts k l)
puts_key (Puts j l) k is = (l, ap (λ (i : Key). Puts i l) (put_same is))
  where
    put_same : {j k : Key} → Some (act.Put j) ≡ Some (act.Put k) → j ≡ k
    put_same e = cc
puts_key (Takes j x l) k is = cc
puts_key (Sets i r x v) k is = cc
puts_key (Inputs i r x v) k is = cc
puts_key (Picks i r t) k is = cc
puts_key (Chooses i r c) k is = cc

-- a deed whose act is a take is a take
pub takes_key : (d : Deed) (k : Key) → act_of (entry_of d) ≡ Some (act.Take k) → (x : Option (List ℕ)) × (l : Load) × (d ≡ Takes k x l)
takes_key (Takes j x l) k is = (x, l, ap (λ (i : Key). Takes i x l) (take_same is))
  where
    take_same : {j k : Key} → Some (act.Take j) ≡ Some (act.Take k) → j ≡ k
    take_same e = cc
takes_key (Puts j l) k is = cc
takes_key (Sets i r x v) k is = cc
takes_key (Inputs i r x v) k is = cc
takes_key (Picks i r t) k is = cc
takes_key (Chooses i r c) k is = cc

-- what a role does alone is known before it is done
pub own_known : (d : Deed) (a : Act) → act_of (entry_of d) ≡ Some a → is_alone a ≡ true → (entry_before d ≡ Some (entry_of d)) × (own_deed (entry_of d) ≡ Some d)
own_known (Sets i r x v) a is alone = (refl, refl)
own_known (Inputs i r x v) a is alone = (refl, refl)
own_known (Picks i r t) a is alone = (refl, refl)
own_known (Puts k l) a is alone = absurd (not_put a is alone)
  where
    not_put : (a : Act) → Some (act.Put k) ≡ Some a → is_alone a ≡ true → ⊥
    not_put a is alone = cc (ap is_alone (some_same is))
own_known (Takes k x l) a is alone = absurd (not_take a is alone)
  where
    not_take : (a : Act) → Some (act.Take k) ≡ Some a → is_alone a ≡ true → ⊥
    not_take a is alone = cc (ap is_alone (some_same is))
own_known (Chooses i r c) a is alone = absurd (not_scope a is alone)
  where
    not_scope : (a : Act) → Some (act.Scope i) ≡ Some a → is_alone a ≡ true → ⊥
    not_scope a is alone = cc (ap is_alone (some_same is))

pub alone_given : (b : PlainBundle) (N : Network) (q : Role) (a : Act) → is_alone a ≡ true → Alone ≡ given_at (setting b) N q a
alone_given b N q (act.Set i) h = refl
alone_given b N q (act.Input i) h = refl
alone_given b N q (act.Pick i) h = refl
alone_given b N q (act.Put k) h = refl
alone_given b N q (act.Take k) h = cc
alone_given b N q (act.Scope i) h = cc

pub alone_fits : (a : Act) → is_alone a ≡ true → given_fits a Alone ≡ true
alone_fits (act.Set i) h = refl
alone_fits (act.Input i) h = refl
alone_fits (act.Pick i) h = refl
alone_fits (act.Put k) h = refl
alone_fits (act.Take k) h = cc
alone_fits (act.Scope i) h = cc

-- the entry of what is set, read or picked
pub set_entry : (e : Entry) (a : Act) → act_of e ≡ Some a → (i : _) → a ≡ act.Set i → is_assignment e ≡ true
set_entry (entry.Set j r x v) a is i same = refl
set_entry (entry.Put k n) a is i same = absurd (let h : act.Put k ≡ act.Set i = some_same is ∙ same in cc)
set_entry (entry.Take k x) a is i same = absurd (let h : act.Take k ≡ act.Set i = some_same is ∙ same in cc)
set_entry (entry.Input j r x v) a is i same = absurd (let h : act.Input j ≡ act.Set i = some_same is ∙ same in cc)
set_entry (entry.Pick j r t) a is i same = absurd (let h : act.Pick j ≡ act.Set i = some_same is ∙ same in cc)
set_entry (entry.Scope j r c) a is i same = absurd (let h : act.Scope j ≡ act.Set i = some_same is ∙ same in cc)
set_entry (entry.Add name) a is i same = cc
set_entry (entry.Drop name) a is i same = cc
set_entry (entry.Env x v) a is i same = cc

module _ (known : Known) (b : PlainBundle) (sound : IsSound b) (H : List Entry) (q : Role) (P : Process) (s : Store) (at : RoleStandsAt b H q P s) where
  -- each deed of a role in a run is its own
  pub own_deeds : (a : Act) (given : Given) (d : Deed) (Q : Process) → given ≡ given_at (setting b) at.network q a → step q s P a given ≡ Does d Q
      → doer (entry_of d) ≡ Some q
  own_deeds a given d Q fits does =
      let N = at.network in
      let here = reached known b sound H N at.runs in
      let steps : step q (N.stores q) (N.processes q) a (given_at (setting b) N q a) ≡ Does d Q =
      (λ i. step q (at.store i) (at.process i) a (sym fits i)) ∙ does in
      let outcome : NextNetwork = record { entry = entry_of d; network = after_deed N q d Q } in
      let did = deed_of known b sound N here.0 here.1 q a outcome (ap (deed_outcome N q) steps) in
      ap doer did.entry ∙ entry_doer did.deed ∙ ap (λ (r : Role). Some r) did.who

-- what is shown of a put before it is done: its message
pub put_shown : OffersAreSteps → StepsShowTheirActs → (s : LocalState) (k : Key) (p : Shown) → IsShown s (act.Put k) p
    → (l : Load) × (P : Process) × (step_at s (act.Put k) Alone ≡ Does (Puts k l) P) × (message_shown p ≡ Some l) × (p.entry ≡ Some (entry.Put k (noted l)))
put_shown steps shows s k p prepared =
    let did = deed_there (step_at s (act.Put k) Alone) (can_do steps s (act.Put k) prepared.can_act Alone refl) in
    let put = puts_key did.0 k (shows s.role s.store s.process (act.Put k) Alone did.0 did.1 did.2) in (
      put.0,
      did.1,
      did.2 ∙ ap (λ d. Does d did.1) put.1,
      prepared.message Alone did.0 did.1 did.2 ∙ ap sent put.1,
      prepared.entry Alone did.0 did.1 did.2 ∙ ap entry_before put.1,
    )

-- what is shown of a take before it is done: its entry
pub take_shown : OffersAreSteps → StepsShowTheirActs → (s : LocalState) (k : Key) (p : Shown) → IsShown s (act.Take k) p
    → (x : Option (List ℕ)) × (p.entry ≡ Some (entry.Take k x))
take_shown steps shows s k p prepared =
    let did = fitting_deed steps s (act.Take k) prepared.can_act in
    let take = takes_key did.0 k (shows s.role s.store s.process (act.Take k) (fitting (act.Take k)) did.0 did.1 did.2) in
    (take.0, prepared.entry (fitting (act.Take k)) did.0 did.1 did.2 ∙ ap entry_before take.2)

-- whatever comes, the entry of the take is that
pub take_entry : StepsShowTheirActs → (s : LocalState) (k : Key) (p : Shown) → IsShown s (act.Take k) p → (x : Option (List ℕ)) → p.entry ≡ Some (entry.Take k x)
    → (given : Given) (d : Deed) (P : Process) → step_at s (act.Take k) given ≡ Does d P → entry_of d ≡ entry.Take k x
take_entry shows s k p prepared x is given d P does =
    let take = takes_key d k (shows s.role s.store s.process (act.Take k) given d P does) in
    ap entry_of take.2 ∙ some_same (ap entry_before (sym take.2) ∙ sym (prepared.entry given d P does) ∙ is)

-- what is shown of what a role does alone
pub record ShownAlone (s : LocalState) (a : Act) (p : Shown) : Type 0 where
  pub deed : Deed
  pub left : Process
  pub does : step_at s a Alone ≡ Does deed left
  pub shown : p.entry ≡ Some (entry_of deed)
  pub is_own : own_deed (entry_of deed) ≡ Some deed
  pub acts : act_of (entry_of deed) ≡ Some a

pub alone_shown : OffersAreSteps → StepsShowTheirActs → (s : LocalState) (a : Act) (p : Shown) → IsShown s a p → is_alone a ≡ true → ShownAlone s a p
alone_shown steps shows s a p prepared alone =
    let did = deed_there (step_at s a Alone) (can_do steps s a prepared.can_act Alone (alone_fits a alone)) in
    let acts = shows s.role s.store s.process a Alone did.0 did.1 did.2 in
    let own = own_known did.0 a acts alone in
    record {
      deed = did.0;
      left = did.1;
      does = did.2;
      shown = prepared.entry Alone did.0 did.1 did.2 ∙ own.0;
      is_own = own.1;
      acts = acts;
    }

-- the key of the entry of a take is that of its act
pub take_key : OffersAreSteps → StepsShowTheirActs → (s : LocalState) (a : Act) (p : Shown) → IsShown s a p → (k : Key) → a ≡ act.Take k
    → (j : Key) (x : Option (List ℕ)) → p.entry ≡ Some (entry.Take j x) → a ≡ act.Take j
take_key steps shows s a p prepared k is j x shown =
    let take = take_shown steps shows s k p (subst (λ c. IsShown s c p) is prepared) in
    is ∙ ap (λ i. act.Take i) (key_same (some_same (sym take.1 ∙ shown)))
  where
    key_same : {y x : Option (List ℕ)} → entry.Take k y ≡ entry.Take j x → k ≡ j
    key_same e = cc
