-- What a step of the network and a played entry say, part by part.
use Rattle.std.proofs.Common.{◌≡◌, ◌⊎◌, suc, true, if◌then◌else◌, nat_le, Option, Some, None, slice_get, refl, sym, ap, ◌∙◌, inl, inr}
use Rattle.dioc_terms.specs.declared.names.Role.{Role}
use Rattle.dioc_terms.specs.declared.entries.Act.{Act}
use Rattle.dioc_terms.specs.declared.entries.Act.TheVariants as act
use Rattle.dioc_terms.specs.declared.entries.Entry.{Entry}
use Rattle.dioc_terms.specs.declared.entries.Entry.TheVariants as entry
use Rattle.dioc_terms.specs.declared.bundles.Timed.{Timed}
use Rattle.dioc_terms.specs.Plain.{Setting}
use Rattle.dioc_terms.specs.Equality.{entry_eq}
use Rattle.dioc_terms.specs.Messages.{doer, act_of}
use Rattle.dioc_terms.specs.Attempts.{Attempt, Stuck, Does}
use Rattle.dioc_terms.specs.Processes.{Process}
use Rattle.dioc_terms.specs.Rules.{apply}
use Rattle.process_steps.specs.Steps.{Deed, entry_of, store_after, step}
use Rattle.global_steps.specs.Follow.{book_choice, change_entry, updates_after, updated}
use Rattle.network_steps.specs.Network.{Network, NextNetwork, decision, given_at, pending_at, pending_after, visible_after, act_step, change_step, network_after, network_step}
use Rattle.marked_laws.proofs.Shapes.{none_some, some_same, if_some}
use Rattle.marked_laws.proofs.Equality.{entry_same}
use Rattle.marked_laws.proofs.MarkSteps.{given_by}

-- the network after a role's deed
abbrev pub after_deed : Network → Role → Deed → Process → Network
after_deed N r d P = record {
  processes = updated r P N.processes;
  stores = updated r (store_after d (N.stores r)) N.stores;
  pending = pending_after d N.pending;
  book = N.book;
  updates = updates_after (entry_of d) N.updates;
  changes = N.changes;
  visible = visible_after (entry_of d) N.visible;
}

abbrev pub deed_outcome : Network → Role → Attempt Deed Process → Option NextNetwork
deed_outcome N r Stuck = None
deed_outcome N r (Does d P) = Some (record { entry = entry_of d; network = after_deed N r d P })

pub act_outcome : (b : Setting) (N : Network) (r : Role) (a : Act) → act_step b N r a ≡ deed_outcome N r (step r (N.stores r) (N.processes r) a (given_at b N r a))
act_outcome b N r a = refl

pub given_same : (b : Setting) (N : Network) (r : Role) (a : Act) → given_at b N r a
    ≡ given_by (λ k. pending_at k N.pending) (λ head. decision b.cast N.updates head (book_choice b.rules N.book head (N.stores r))) a
given_same b N r (act.Take k) = refl
given_same b N r (act.Scope i) = refl
given_same b N r _ = refl

-- the network after a change of the script
abbrev pub after_change : Setting → Network → Timed → Network
after_change b N timed = record {
  processes = N.processes;
  stores = N.stores;
  pending = N.pending;
  book = apply b.rules N.book timed.change;
  updates = N.updates;
  changes = suc N.changes;
  visible = suc N.visible;
}

abbrev pub entry_outcome : Setting → Network → Timed → Option Entry → Option NextNetwork
entry_outcome b N timed None = None
entry_outcome b N timed (Some e) = if nat_le timed.after N.visible then Some (record { entry = e; network = after_change b N timed }) else None

abbrev pub script_outcome : Setting → Network → Option Timed → Option NextNetwork
script_outcome b N None = None
script_outcome b N (Some timed) = entry_outcome b N timed (change_entry b.rules timed.change)

pub change_outcome : (b : Setting) (N : Network) → change_step b N ≡ script_outcome b N (slice_get b.script N.changes)
change_outcome b N = refl

-- a step of a role
pub record RoleStep (b : Setting) (N : Network) (e : Entry) (N' : Network) : Type 0 where
  pub role : Role
  pub act : Act
  pub deed : Deed
  pub next : Process
  pub does : doer e ≡ Some role
  pub acts : act_of e ≡ Some act
  pub steps : step role (N.stores role) (N.processes role) act (given_at b N role act) ≡ Does deed next
  pub shows : e ≡ entry_of deed
  pub gives : N' ≡ after_deed N role deed next

-- a change of the script
pub record ChangeStep (b : Setting) (N : Network) (e : Entry) (N' : Network) : Type 0 where
  pub timed : Timed
  pub nobody : doer e ≡ None
  pub stands : slice_get b.script N.changes ≡ Some timed
  pub shows : change_entry b.rules timed.change ≡ Some e
  pub due : nat_le timed.after N.visible ≡ true
  pub gives : N' ≡ after_change b N timed

after_some : (e : Entry) (o : Option NextNetwork) (N' : Network) → network_after e o ≡ Some N' → (out : NextNetwork) × (o ≡ Some out) × (e ≡ out.entry) × (N' ≡ out.network)
after_some e None N' h = absurd (none_some h)
after_some e (Some out) N' h =
    let parts = if_some (entry_eq e out.entry) out.network h in
    (out, refl, entry_same e out.entry parts.0, parts.1)

outcome_deed : (N : Network) (r : Role) (m : Attempt Deed Process) (out : NextNetwork) → deed_outcome N r m ≡ Some out
    → (d : Deed) × (P : Process) × (m ≡ Does d P) × (out.entry ≡ entry_of d) × (out.network ≡ after_deed N r d P)
outcome_deed N r Stuck out h = absurd (none_some h)
outcome_deed N r (Does d P) out h = (d, P, refl, ap (λ (o : NextNetwork). o.entry) (sym (some_same h)), ap (λ (o : NextNetwork). o.network) (sym (some_same h)))

role_case : (b : Setting) (N : Network) (e : Entry) (N' : Network) (r : Role) (a : Act) → doer e ≡ Some r → act_of e ≡ Some a
    → network_after e (act_step b N r a) ≡ Some N' → RoleStep b N e N'
role_case b N e N' r a does acts h =
    let after = after_some e (act_step b N r a) N' h in
    let outcome = outcome_deed N r (step r (N.stores r) (N.processes r) a (given_at b N r a)) after.0 after.1 in
    record {
      role = r;
      act = a;
      deed = outcome.0;
      next = outcome.1;
      does = does;
      acts = acts;
      steps = outcome.2;
      shows = after.2 ∙ outcome.3;
      gives = after.3 ∙ outcome.4;
    }

outcome_entry : (b : Setting) (N : Network) (timed : Timed) (o : Option Entry) (out : NextNetwork) → entry_outcome b N timed o ≡ Some out
    → (o ≡ Some out.entry) × (nat_le timed.after N.visible ≡ true) × (out.network ≡ after_change b N timed)
outcome_entry b N timed None out h = absurd (none_some h)
outcome_entry b N timed (Some e) out h =
    let parts = if_some (nat_le timed.after N.visible) (record { entry = e; network = after_change b N timed }) h in
    (ap (λ (o : NextNetwork). Some o.entry) (sym parts.1), parts.0, ap (λ (o : NextNetwork). o.network) parts.1)

outcome_script : (b : Setting) (N : Network) (o : Option Timed) (out : NextNetwork) → script_outcome b N o ≡ Some out
    → (timed : Timed) × (o ≡ Some timed) × (entry_outcome b N timed (change_entry b.rules timed.change) ≡ Some out)
outcome_script b N None out h = absurd (none_some h)
outcome_script b N (Some timed) out h = (timed, refl, h)

change_case : (b : Setting) (N : Network) (e : Entry) (N' : Network) → doer e ≡ None → network_after e (change_step b N) ≡ Some N' → ChangeStep b N e N'
change_case b N e N' nobody h =
    let after = after_some e (change_step b N) N' h in
    let script = outcome_script b N (slice_get b.script N.changes) after.0 after.1 in
    let outcome = outcome_entry b N script.0 (change_entry b.rules (script.0).change) after.0 script.2 in
    record { timed = script.0; nobody = nobody; stands = script.1; shows = outcome.0 ∙ ap Some (sym after.2); due = outcome.1; gives = after.3 ∙ outcome.2 }

-- each step of the network is a role's or a change
pub network_cases : (b : Setting) (N : Network) (e : Entry) (N' : Network) → network_step b N e ≡ Some N' → RoleStep b N e N' ⊎ ChangeStep b N e N'
network_cases b N (entry.Put k n) N' h = inl (role_case b N (entry.Put k n) N' k.from (act.Put k) refl refl h)
network_cases b N (entry.Take k x) N' h = inl (role_case b N (entry.Take k x) N' k.to (act.Take k) refl refl h)
network_cases b N (entry.Set i r x v) N' h = inl (role_case b N (entry.Set i r x v) N' r (act.Set i) refl refl h)
network_cases b N (entry.Input i r x v) N' h = inl (role_case b N (entry.Input i r x v) N' r (act.Input i) refl refl h)
network_cases b N (entry.Pick i r t) N' h = inl (role_case b N (entry.Pick i r t) N' r (act.Pick i) refl refl h)
network_cases b N (entry.Scope i r c) N' h = inl (role_case b N (entry.Scope i r c) N' r (act.Scope i) refl refl h)
network_cases b N (entry.Add name) N' h = inr (change_case b N (entry.Add name) N' refl h)
network_cases b N (entry.Drop name) N' h = inr (change_case b N (entry.Drop name) N' refl h)
network_cases b N (entry.Env key v) N' h = inr (change_case b N (entry.Env key v) N' refl h)
