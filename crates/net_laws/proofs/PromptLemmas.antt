-- A schedule without a seed takes a change as soon as it is due, so no due change waits in what it makes.
use Rattle.std.proofs.Common.{◌≡◌, ℕ, zero, suc, ◌+◌, ◌-◌, List, [], ◌∷◌, ◌++◌, length, Bool, true, false, not, ◌&&◌, is_some, is_none, Option, Some, None, slice_get, refl, sym, ap, ap₂, ◌∙◌, subst, arith, add-zero}
use Rattle.std.specs.Prelude.{filter, flat_map, option_and_then, option_map, nat_le}
use Rattle.std.specs.Option.{option_map_or}
use Rattle.std.proofs.lemmas.Bool.{cond-true, cond-false}
use Rattle.dioc_terms.specs.declared.names.Role.{Role}
use Rattle.dioc_terms.specs.declared.entries.Act.{Act}
use Rattle.dioc_terms.specs.declared.entries.Entry.{Entry}
use Rattle.dioc_terms.specs.declared.bundles.Change.{Change}
use Rattle.dioc_terms.specs.declared.bundles.Change.TheVariants as change
use Rattle.dioc_terms.specs.declared.entries.Entry.TheVariants as entry
use Rattle.dioc_terms.specs.declared.bundles.Timed.{Timed}
use Rattle.dioc_terms.specs.Messages.{is_aux, doer, visible}
use Rattle.dioc_terms.specs.Attempts.{Attempt, Stuck, Does}
use Rattle.dioc_terms.specs.Plain.{PlainRule, PlainBundle, Setting, setting}
use Rattle.dioc_terms.specs.Processes.{Process}
use Rattle.process_steps.specs.Steps.{Deed, Puts, Takes, Sets, Inputs, Picks, Chooses, entry_of, step}
use Rattle.global_steps.specs.Follow.{change_entry}
use Rattle.network_steps.specs.Network.{Network, NextNetwork, act_step, change_step, given_at, network_start, network_ended, visible_after}
use Rattle.marked_laws.proofs.Networks.{after_deed, deed_outcome, after_change, entry_outcome, script_outcome}
use Rattle.marked_laws.proofs.Shapes.{none_some, some_same, if_some}
use Rattle.network_steps.specs.declared.moves.Move.{Move}
use Rattle.network_steps.specs.declared.moves.Move.TheVariants as move
use Rattle.net_laws.specs.Laws.{SchedulesArePrompt}
use Rattle.network_steps.specs.Schedule.{change_due, role_moves, moves, move_step, scheduled, continued, sched, changes_in, IsPrompt}

-- in entries that come after so many changes and visible entries, none of a role stands where the next change is due
abbrev PromptFrom : List Timed → ℕ → ℕ → List Entry → Type 0
PromptFrom script changes seen [] = Unit {0}
PromptFrom script changes seen (e ∷ es) =
    (is_some (doer e) ≡ true → change_due script changes seen ≡ false) × PromptFrom script (changes + changes_in (e ∷ [])) (seen + length (visible (e ∷ []))) es

-- a filter counts entry by entry
kept_one : {A : Type 0} (p : A → Bool) (x : A) (xs : List A) → length (filter p (x ∷ xs)) ≡ length (filter p (x ∷ [])) + length (filter p xs)
kept_one p x xs = by_test (p x) refl
  where
    by_test : (t : Bool) → p x ≡ t → length (filter p (x ∷ xs)) ≡ length (filter p (x ∷ [])) + length (filter p xs)
    by_test true h = ap length (cond-true (p x) (x ∷ filter p xs) (filter p xs) h) ∙ omega (arith, ap length (cond-true (p x) (x ∷ []) [] h))
    by_test false h = ap length (cond-false (p x) (x ∷ filter p xs) (filter p xs) h) ∙ omega (arith, ap length (cond-false (p x) (x ∷ []) [] h))

-- what is prompt by recursion has no entry of a role where the next change is due
prompt_at : (script : List Timed) (changes seen : ℕ) (before : List Entry) (e : Entry) (rest : List Entry) → PromptFrom script changes seen (before ++ e ∷ rest)
    → is_some (doer e) ≡ true → change_due script (changes + changes_in before) (seen + length (visible before)) ≡ false
prompt_at script changes seen [] e rest h does = ap₂ (change_due script) (add-zero changes) (add-zero seen) ∙ h.0 does
prompt_at script changes seen (d ∷ ds) e rest h does =
    ap₂ (change_due script) (omega (arith, kept_one (λ x. is_none (doer x)) d ds)) (omega (arith, kept_one (λ x. not (is_aux x)) d ds))
    ∙ prompt_at script (changes + changes_in (d ∷ [])) (seen + length (visible (d ∷ []))) ds e rest h.1 does

pub prompt_all : (b : PlainBundle) (H : List Entry) → PromptFrom b.script 0 0 H → IsPrompt b H
prompt_all b H h before e rest is does =
    ap₂ (change_due b.script) (omega arith) (omega arith) ∙ prompt_at b.script 0 0 before e rest (subst (PromptFrom b.script 0 0) is h) does

-- the counts of the network after a move are those of one entry more
record Counts (N : Network) (outcome : NextNetwork) : Type 0 where
  changes : outcome.network.changes ≡ N.changes + changes_in (outcome.entry ∷ [])
  visible : outcome.network.visible ≡ N.visible + length (visible (outcome.entry ∷ []))

is_somebodys : (d : Deed) → is_none (doer (entry_of d)) ≡ false
is_somebodys (Puts k l) = refl
is_somebodys (Takes k x l) = refl
is_somebodys (Sets i r x v) = refl
is_somebodys (Inputs i r x v) = refl
is_somebodys (Picks i r t) = refl
is_somebodys (Chooses i r c) = refl

seen_one : (e : Entry) (seen : ℕ) → visible_after e seen ≡ seen + length (visible (e ∷ []))
seen_one e seen = by_test (is_aux e) refl
  where
    by_test : (t : Bool) → is_aux e ≡ t → visible_after e seen ≡ seen + length (visible (e ∷ []))
    by_test true h = cond-true (is_aux e) seen (suc seen) h ∙ omega (arith, ap length (cond-false (not (is_aux e)) (e ∷ []) [] (ap not h)))
    by_test false h = cond-false (is_aux e) seen (suc seen) h ∙ omega (arith, ap length (cond-true (not (is_aux e)) (e ∷ []) [] (ap not h)))

no_change : (e : Entry) → is_none (doer e) ≡ false → changes_in (e ∷ []) ≡ 0
no_change e h = ap length (cond-false (is_none (doer e)) (e ∷ []) [] h)

one_change : (e : Entry) → is_none (doer e) ≡ true → changes_in (e ∷ []) ≡ 1
one_change e h = ap length (cond-true (is_none (doer e)) (e ∷ []) [] h)

-- an outcome of a role is that of its deed
outcome_deed : (N : Network) (r : Role) (m : Attempt Deed Process) (outcome : NextNetwork) → deed_outcome N r m ≡ Some outcome
    → (d : Deed) × (P : Process) × (outcome.entry ≡ entry_of d) × (outcome.network ≡ after_deed N r d P)
outcome_deed N r Stuck outcome h = absurd (none_some h)
outcome_deed N r (Does d P) outcome h = (d, P, ap (λ (o : NextNetwork). o.entry) (sym (some_same h)), ap (λ (o : NextNetwork). o.network) (sym (some_same h)))

act_counts : (b : Setting) (N : Network) (q : Role) (a : Act) (outcome : NextNetwork) → act_step b N q a ≡ Some outcome → Counts N outcome
act_counts b N q a outcome h =
    let did = outcome_deed N q (step q (N.stores q) (N.processes q) a (given_at b N q a)) outcome h in
    let nobodys : is_none (doer outcome.entry) ≡ false = ap (λ e. is_none (doer e)) did.2 ∙ is_somebodys did.0 in
    record {
      changes = ap (λ (M : Network). M.changes) did.3 ∙ omega (arith, no_change outcome.entry nobodys);
      visible = ap (λ (M : Network). M.visible) did.3 ∙ ap (λ e. visible_after e N.visible) (sym did.2) ∙ seen_one outcome.entry N.visible;
    }

-- the entry of a change is visible, and it is a change
record OfChange (e : Entry) : Type 0 where
  changes : is_none (doer e) ≡ true
  visible : is_aux e ≡ false

change_shows : (rules : List PlainRule) (c : Change) (e : Entry) → change_entry rules c ≡ Some e → OfChange e
change_shows rules (change.Add m) e h = of_rule (slice_get rules m) h
  where
    of_rule : (o : Option PlainRule) → option_map (λ (rule : PlainRule). entry.Add rule.name) o ≡ Some e → OfChange e
    of_rule None k = absurd (none_some k)
    of_rule (Some rule) k = subst OfChange (some_same k) (record { changes = refl; visible = refl })
change_shows rules (change.Drop name) e h = subst OfChange (some_same h) (record { changes = refl; visible = refl })
change_shows rules (change.Env key v) e h = subst OfChange (some_same h) (record { changes = refl; visible = refl })

outcome_entry : (b : Setting) (N : Network) (timed : Timed) (o : Option Entry) (outcome : NextNetwork) → entry_outcome b N timed o ≡ Some outcome
    → (o ≡ Some outcome.entry) × (outcome.network ≡ after_change b N timed)
outcome_entry b N timed None outcome h = absurd (none_some h)
outcome_entry b N timed (Some e) outcome h =
    let parts = if_some (nat_le timed.after N.visible) (record { entry = e; network = after_change b N timed }) h in
    (ap (λ (o : NextNetwork). Some o.entry) (sym parts.1), ap (λ (o : NextNetwork). o.network) parts.1)

outcome_script : (b : Setting) (N : Network) (o : Option Timed) (outcome : NextNetwork) → script_outcome b N o ≡ Some outcome
    → (timed : Timed) × (entry_outcome b N timed (change_entry b.rules timed.change) ≡ Some outcome)
outcome_script b N None outcome h = absurd (none_some h)
outcome_script b N (Some timed) outcome h = (timed, h)

change_is_nobodys : (b : Setting) (N : Network) (outcome : NextNetwork) → change_step b N ≡ Some outcome → OfChange outcome.entry × (outcome.network.changes ≡ suc N.changes) × (outcome.network.visible ≡ suc N.visible)
change_is_nobodys b N outcome h =
    let script = outcome_script b N (slice_get b.script N.changes) outcome h in
    let shown = outcome_entry b N script.0 (change_entry b.rules (script.0).change) outcome script.1 in
    (change_shows b.rules (script.0).change outcome.entry shown.0, ap (λ (M : Network). M.changes) shown.1, ap (λ (M : Network). M.visible) shown.1)

change_counts : (b : Setting) (N : Network) (outcome : NextNetwork) → change_step b N ≡ Some outcome → Counts N outcome
change_counts b N outcome h =
    let did = change_is_nobodys b N outcome h in
    record {
      changes = omega (arith, did.1, one_change outcome.entry did.0.changes);
      visible = did.2 ∙ sym (cond-false (is_aux outcome.entry) N.visible (suc N.visible) did.0.visible) ∙ seen_one outcome.entry N.visible;
    }

move_counts : (b : Setting) (N : Network) (m : Move) (outcome : NextNetwork) → move_step b N m ≡ Some outcome → Counts N outcome
move_counts b N move.Change outcome h = change_counts b N outcome h
move_counts b N (move.Act q a) outcome h = act_counts b N q a outcome h

-- what the schedule takes is a move
taken : (b : Setting) (N : Network) (m : Option Move) (outcome : NextNetwork) → option_and_then (move_step b N) m ≡ Some outcome → Counts N outcome
taken b N None outcome h = absurd (none_some h)
taken b N (Some m) outcome h = move_counts b N m outcome h

-- where the next change is due, it is what the schedule takes
due_taken : (b : Setting) (N : Network) (outcome : NextNetwork) → network_ended b.cast N ≡ false → change_due b.script N.changes N.visible ≡ true → scheduled b N None ≡ Some outcome
    → change_step b N ≡ Some outcome
due_taken b N outcome goes due h = sym (ap (λ ms. option_and_then (move_step b N) (slice_get ms 0)) first) ∙ h
  where
    first : moves b N ≡ move.Change ∷ flat_map (role_moves N) b.cast
    first = ap (λ ms. ms ++ flat_map (role_moves N) b.cast)
        (cond-true (change_due b.script N.changes N.visible && not (network_ended b.cast N)) (move.Change ∷ []) [] (λ j. due j && not (goes j)))

not_due : (b : Setting) (N : Network) (outcome : NextNetwork) → network_ended b.cast N ≡ false → scheduled b N None ≡ Some outcome → is_some (doer outcome.entry) ≡ true
    → change_due b.script N.changes N.visible ≡ false
not_due b N outcome goes h does = by_test (change_due b.script N.changes N.visible) refl
  where
    both : (o : Option Role) → is_none o ≡ true → is_some o ≡ true → ⊥
    both None none some = cc
    both (Some q) none some = cc

    by_test : (t : Bool) → change_due b.script N.changes N.visible ≡ t → change_due b.script N.changes N.visible ≡ false
    by_test false e = e
    by_test true due = absurd (both (doer outcome.entry) (change_is_nobodys b N outcome (due_taken b N outcome goes due h)).0.changes does)

continued_prompt : (b : Setting) (count : ℕ) (N : Network) → PromptFrom b.script N.changes N.visible (continued b None count N)
continued_prompt b zero N = tt
continued_prompt b (suc count) N = by_test (network_ended b.cast N) refl (λ M. continued_prompt b count M)
  where
    entries_of : Option NextNetwork → List Entry
    entries_of o = option_map_or (λ (outcome : NextNetwork). outcome.entry ∷ continued b None count outcome.network) o []

    by_outcome : (o : Option NextNetwork) → scheduled b N None ≡ o → network_ended b.cast N ≡ false
        → ((M : Network) → PromptFrom b.script M.changes M.visible (continued b None count M)) → PromptFrom b.script N.changes N.visible (entries_of o)
    by_outcome None is goes more = tt
    by_outcome (Some outcome) is goes more =
        let counts = taken b N (slice_get (moves b N) 0) outcome is in (
          not_due b N outcome goes is,
          subst (λ n. PromptFrom b.script n (N.visible + length (visible (outcome.entry ∷ []))) (continued b None count outcome.network)) counts.changes
              (subst (λ n. PromptFrom b.script outcome.network.changes n (continued b None count outcome.network)) counts.visible (more outcome.network)),
        )

    by_test : (t : Bool) → network_ended b.cast N ≡ t → ((M : Network) → PromptFrom b.script M.changes M.visible (continued b None count M))
        → PromptFrom b.script N.changes N.visible (continued b None (suc count) N)
    by_test true ends more = subst (PromptFrom b.script N.changes N.visible) (sym (cond-true (network_ended b.cast N) [] (entries_of (scheduled b N None)) ends)) tt
    by_test false goes more =
        subst (PromptFrom b.script N.changes N.visible) (sym (cond-false (network_ended b.cast N) [] (entries_of (scheduled b N None)) goes)) (by_outcome (scheduled b N None) refl goes more)

pub schedules_are_prompt : SchedulesArePrompt
schedules_are_prompt b limit = prompt_all b (sched b None limit) (continued_prompt (setting b) (limit - 0) (network_start b))
