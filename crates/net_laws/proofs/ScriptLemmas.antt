-- A change that is due can be done: each rule that the script adds is there.
use Rattle.std.proofs.Common.{◌≡◌, ℕ, zero, suc, ◌+◌, ◌-◌, ◌<◌, ◌≤◌, List, [], ◌∷◌, length, true, false, Option, Some, None, IsSome, slice_get, refl, sym, ap, ◌∙◌, subst, arith}
use Rattle.std.specs.Prelude.{nat_le, option_map}
use Rattle.std.specs.Option.{option_map_or}
use Rattle.std.proofs.lemmas.Bool.{cond-true}
use Rattle.dioc_terms.specs.declared.entries.Entry.{Entry}
use Rattle.dioc_terms.specs.declared.entries.Entry.TheVariants as entry
use Rattle.dioc_terms.specs.declared.bundles.Change.{Change}
use Rattle.dioc_terms.specs.declared.bundles.Change.TheVariants as change
use Rattle.dioc_terms.specs.declared.bundles.Timed.{Timed}
use Rattle.dioc_terms.specs.Bundles.{IsFormed, adds, numbers_from}
use Rattle.dioc_terms.specs.Messages.{doer}
use Rattle.dioc_terms.specs.Plain.{PlainRule, PlainBundle, Setting, setting}
use Rattle.global_steps.specs.Follow.{change_entry}
use Rattle.network_steps.specs.Network.{Network, NextNetwork, change_step}
use Rattle.marked_laws.proofs.Networks.{after_change, entry_outcome, script_outcome}
use Rattle.marked_laws.proofs.Shapes.{none_some, some_same, if_some}
use Rattle.network_steps.specs.Schedule.{change_due}

-- the element at a place within the list
pub within_got : {A : Type 0} (xs : List A) (i : ℕ) → i < length xs → (x : A) × (slice_get xs i ≡ Some x)
within_got [] i h = absurd (omega (arith, h))
within_got (x ∷ xs) zero h = (x, refl)
within_got (x ∷ xs) (suc i) h = within_got xs i (omega (arith, h))

abbrev AllBelow : ℕ → List ℕ → Type 0
AllBelow most [] = Unit {0}
AllBelow most (n ∷ ns) = (n < most) × AllBelow most ns

numbers_below : (n count most : ℕ) → n + count ≤ most → AllBelow most (numbers_from n count)
numbers_below n zero most h = tt
numbers_below n (suc count) most h = (omega (arith, h), numbers_below (suc n) count most (omega (arith, h)))

-- the rule that a change adds is one of so many
abbrev IsWithin : ℕ → Change → Type 0
IsWithin most (change.Add m) = m < most
IsWithin most _ = Unit {0}

abbrev added : Change → List ℕ → List ℕ
added (change.Add m) ms = m ∷ ms
added _ ms = ms

below_more : (most : ℕ) (c : Change) (ms : List ℕ) → AllBelow most (added c ms) → IsWithin most c × AllBelow most ms
below_more most (change.Add m) ms h = (h.0, h.1)
below_more most (change.Drop name) ms h = (tt, h)
below_more most (change.Env key v) ms h = (tt, h)

script_within : (most : ℕ) (script : List Timed) (i : ℕ) (timed : Timed) → AllBelow most (adds script) → slice_get script i ≡ Some timed → IsWithin most timed.change
script_within most [] i timed h is = absurd (none_some is)
script_within most (t ∷ rest) zero timed h is = subst (λ (x : Timed). IsWithin most x.change) (some_same is) (below_more most t.change (adds rest) h).0
script_within most (t ∷ rest) (suc i) timed h is = script_within most rest i timed (below_more most t.change (adds rest) h).1 is

change_shown : (rules : List PlainRule) (c : Change) → IsWithin (length rules) c → (e : Entry) × (change_entry rules c ≡ Some e)
change_shown rules (change.Add m) h =
    let got = within_got rules m h in (entry.Add (got.0).name, ap (option_map (λ (rule : PlainRule). entry.Add rule.name)) got.1)
change_shown rules (change.Drop name) h = (entry.Drop name, refl)
change_shown rules (change.Env key v) h = (entry.Env key v, refl)

due_some : (o : Option Timed) (visible : ℕ) → option_map_or (λ (timed : Timed). nat_le timed.after visible) o false ≡ true
    → (timed : Timed) × (o ≡ Some timed) × (nat_le timed.after visible ≡ true)
due_some None visible h = cc
due_some (Some timed) visible h = (timed, refl, h)

-- a change that is due is a step
pub change_steps : (b : PlainBundle) (N : Network) → IsFormed b → change_due b.script N.changes N.visible ≡ true → IsSome (change_step (setting b) N)
change_steps b N formed due =
    let next = due_some (slice_get b.script N.changes) N.visible due in
    let below : AllBelow (length b.rules) (adds b.script) =
    subst (AllBelow (length b.rules)) (sym formed.added) (numbers_below b.opening (length b.rules - b.opening) (length b.rules) (omega (arith, formed.opening))) in
    let shown = change_shown b.rules (next.0).change (script_within (length b.rules) b.script N.changes next.0 below next.1) in
    let is : script_outcome (setting b) N (slice_get b.script N.changes) ≡ Some (record { entry = shown.0; network = after_change (setting b) N next.0 }) =
    ap (script_outcome (setting b) N) next.1 ∙ ap (entry_outcome (setting b) N next.0) shown.1
    ∙ cond-true (nat_le (next.0).after N.visible) (Some (record { entry = shown.0; network = after_change (setting b) N next.0 })) None next.2 in
    subst (λ (o : Option NextNetwork). IsSome o) (sym is) refl

change_nobody : (rules : List PlainRule) (c : Change) (e : Entry) → change_entry rules c ≡ Some e → doer e ≡ None
change_nobody rules (change.Add m) e h = of_rule (slice_get rules m) h
  where
    of_rule : (o : Option PlainRule) → option_map (λ (rule : PlainRule). entry.Add rule.name) o ≡ Some e → doer e ≡ None
    of_rule None k = absurd (none_some k)
    of_rule (Some rule) k = ap doer (sym (some_same k))
change_nobody rules (change.Drop name) e h = ap doer (sym (some_same h))
change_nobody rules (change.Env key v) e h = ap doer (sym (some_same h))

entry_nobody : (b : Setting) (N : Network) (timed : Timed) (outcome : NextNetwork) (o : Option Entry) → change_entry b.rules timed.change ≡ o
    → entry_outcome b N timed o ≡ Some outcome → doer outcome.entry ≡ None
entry_nobody b N timed outcome None is h = absurd (none_some h)
entry_nobody b N timed outcome (Some e) is h =
    let parts = if_some (nat_le timed.after N.visible) (record { entry = e; network = after_change b N timed }) h in
    ap (λ (x : NextNetwork). doer x.entry) parts.1 ∙ change_nobody b.rules timed.change e is

script_nobody : (b : Setting) (N : Network) (outcome : NextNetwork) (o : Option Timed) → script_outcome b N o ≡ Some outcome → doer outcome.entry ≡ None
script_nobody b N outcome None h = absurd (none_some h)
script_nobody b N outcome (Some timed) h = entry_nobody b N timed outcome (change_entry b.rules timed.change) refl h

-- the entry of a change is nobody's
pub change_is_nobodys : (b : Setting) (N : Network) (outcome : NextNetwork) → change_step b N ≡ Some outcome → doer outcome.entry ≡ None
change_is_nobodys b N outcome h = script_nobody b N outcome (slice_get b.script N.changes) h
