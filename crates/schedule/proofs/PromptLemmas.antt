-- A schedule without a seed takes a change as soon as it is due: no entry of a role that it takes stands where one is due.
use Rattle.std.proofs.Common.{◌≡◌, ◌+◌, ◌⊎◌, ℕ, suc, List, [], ◌∷◌, ◌++◌, length, Bool, true, false, ◌&&◌, not, is_some, is_none, Option, Some, None, slice_get, refl, sym, ap, ap₂, ◌∙◌, inl, inr, ⊎_elim, arith, length-append}
use Rattle.std.specs.Prelude.{filter, flat_map, if◌then◌else◌, option_and_then}
use Rattle.std.proofs.lemmas.Bool.{cond-false, cond-true}
use Rattle.std.proofs.lemmas.List.Elements.{filter-append}
use Rattle.dioc_terms.specs.declared.entries.Entry.{Entry}
use Rattle.dioc_terms.specs.declared.entries.Entry.TheVariants as entry
use Rattle.dioc_terms.specs.declared.names.Role.{Role}
use Rattle.dioc_terms.specs.Messages.{doer, is_aux, visible}
use Rattle.dioc_terms.specs.Plain.{PlainBundle, Setting, setting}
use Rattle.network_steps.specs.Network.{Network, NextNetwork, change_step, network_ended, network_run, network_start, network_step, run_from, visible_after}
use Rattle.marked_laws.proofs.Networks.{ChangeStep, RoleStep, network_cases}
use Rattle.marked_laws.proofs.Shapes.{none_some, same_head, some_nil, some_same}
use Rattle.network_steps.specs.declared.moves.Move.TheVariants as move
use Rattle.network_steps.specs.Schedule.{IsPrompt, change_due, changes_in, change_is_due, move_step, moves, role_moves, scheduled}
use Rattle.net_laws.proofs.ScriptLemmas.{change_is_nobodys}

seen_one : (e : Entry) (seen : ℕ) → visible_after e seen ≡ seen + length (visible (e ∷ []))
seen_one e seen = by_test (is_aux e)
  where
    by_test : (t : Bool) → (if t then seen else suc seen) ≡ seen + length (if not t then e ∷ [] else [])
    by_test true = omega arith
    by_test false = omega arith

nobody_shows : (e : Entry) → doer e ≡ None → is_aux e ≡ false
nobody_shows (entry.Put k n) h = cc
nobody_shows (entry.Take k x) h = cc
nobody_shows (entry.Set i r x v) h = cc
nobody_shows (entry.Input i r x v) h = cc
nobody_shows (entry.Pick i r t) h = cc
nobody_shows (entry.Scope i r c) h = cc
nobody_shows (entry.Add name) h = refl
nobody_shows (entry.Drop name) h = refl
nobody_shows (entry.Env key v) h = refl

-- the counts of a network are those of the entries that lead to it
record Counts (N : Network) (H : List Entry) (M : Network) : Type 0 where
  changes : M.changes ≡ N.changes + changes_in H
  seen : M.visible ≡ N.visible + length (visible H)

step_counts : (b : Setting) (N : Network) (e : Entry) (M : Network) → network_step b N e ≡ Some M → Counts N (e ∷ []) M
step_counts b N e M h = ⊎_elim by_role by_change (network_cases b N e M h)
  where
    by_role : RoleStep b N e M → Counts N (e ∷ []) M
    by_role step =
        let none : changes_in (e ∷ []) ≡ 0 = ap length (cond-false (is_none (doer e)) (e ∷ []) [] (ap is_none step.does)) in
        let same : M.changes ≡ N.changes = ap (λ (L : Network). L.changes) step.gives in
        record {
          changes = omega (arith, same, none);
          seen = ap (λ (L : Network). L.visible) step.gives ∙ ap (λ x. visible_after x N.visible) (sym step.shows) ∙ seen_one e N.visible;
        }

    by_change : ChangeStep b N e M → Counts N (e ∷ []) M
    by_change step =
        let one : changes_in (e ∷ []) ≡ 1 = ap length (cond-true (is_none (doer e)) (e ∷ []) [] (ap is_none step.nobody)) in
        let more : M.changes ≡ suc N.changes = ap (λ (L : Network). L.changes) step.gives in
        let shown : length (visible (e ∷ [])) ≡ 1 = ap length (cond-true (not (is_aux e)) (e ∷ []) [] (ap not (nobody_shows e step.nobody))) in
        let seen_more : M.visible ≡ suc N.visible = ap (λ (L : Network). L.visible) step.gives in
        record { changes = omega (arith, more, one); seen = omega (arith, seen_more, shown) }

count_more : (p : Entry → Bool) (e : Entry) (H : List Entry) → length (filter p (e ∷ H)) ≡ length (filter p (e ∷ [])) + length (filter p H)
count_more p e H = ap length (filter-append p (e ∷ []) H) ∙ length-append (filter p (e ∷ [])) (filter p H)

run_counts : (b : Setting) (N : Network) (H : List Entry) (M : Network) → run_from b N H ≡ Some M → Counts N H M
run_counts b N [] M h =
    let changes : M.changes ≡ N.changes = ap (λ (L : Network). L.changes) (sym (some_same h)) in
    let seen : M.visible ≡ N.visible = ap (λ (L : Network). L.visible) (sym (some_same h)) in
    record { changes = omega (arith, changes); seen = omega (arith, seen) }
run_counts b N (e ∷ H) M h = by_step (network_step b N e) refl h (λ L k. run_counts b L H M k)
  where
    by_step : (o : Option Network) → network_step b N e ≡ o → option_and_then (λ L. run_from b L H) o ≡ Some M
        → ((L : Network) → run_from b L H ≡ Some M → Counts L H M) → Counts N (e ∷ H) M
    by_step None is k rest = absurd (none_some k)
    by_step (Some L) is k rest =
        let one = step_counts b N e L is in
        let more = rest L k in
        record {
          changes = omega (arith, one.changes, more.changes, count_more (λ x. is_none (doer x)) e H);
          seen = omega (arith, one.seen, more.seen, count_more (λ x. not (is_aux x)) e H);
        }

-- whether a change is due in the network after a history
due_there : (b : PlainBundle) (H : List Entry) (N : Network) → network_run b H ≡ Some N → change_is_due b H ≡ change_due b.script N.changes N.visible
due_there b H N h =
    let counts = run_counts (setting b) (network_start b) H N h in
    let changes : changes_in H ≡ N.changes = omega (arith, counts.changes) in
    let seen : length (visible H) ≡ N.visible = omega (arith, counts.seen) in
    ap₂ (change_due b.script) changes seen

-- where the next change is due, it is what the schedule takes
due_taken : (b : Setting) (N : Network) (outcome : NextNetwork) → network_ended b.cast N ≡ false → change_due b.script N.changes N.visible ≡ true
    → scheduled b N None ≡ Some outcome → change_step b N ≡ Some outcome
due_taken b N outcome goes due h = sym (ap (λ ms. option_and_then (move_step b N) (slice_get ms 0)) first) ∙ h
  where
    first : moves b N ≡ move.Change ∷ flat_map (role_moves N) b.cast
    first = ap (λ ms. ms ++ flat_map (role_moves N) b.cast)
        (cond-true (change_due b.script N.changes N.visible && not (network_ended b.cast N)) (move.Change ∷ []) [] (λ j. due j && not (goes j)))

not_due : (b : Setting) (N : Network) (outcome : NextNetwork) → network_ended b.cast N ≡ false → scheduled b N None ≡ Some outcome
    → is_some (doer outcome.entry) ≡ true → change_due b.script N.changes N.visible ≡ false
not_due b N outcome goes h does = by_test (change_due b.script N.changes N.visible) refl
  where
    both : (o : Option Role) → o ≡ None → is_some o ≡ true → ⊥
    both None none some = cc
    both (Some q) none some = cc

    by_test : (t : Bool) → change_due b.script N.changes N.visible ≡ t → change_due b.script N.changes N.visible ≡ false
    by_test false e = e
    by_test true due = absurd (both (doer outcome.entry) (change_is_nobodys b N outcome (due_taken b N outcome goes due h)) does)

nil_longer : (ys : List Entry) (x : Entry) (rest : List Entry) → [] ≡ ys ++ x ∷ rest → ⊥
nil_longer [] x rest h = some_nil (sym h)
nil_longer (y ∷ ys) x rest h = some_nil (sym h)

-- an entry of a list with one more at its end is that one, or one of the list
last_or_before : (H before : List Entry) (e x : Entry) (rest : List Entry) → H ++ e ∷ [] ≡ before ++ x ∷ rest
    → ((before ≡ H) × (x ≡ e)) ⊎ ((more : List Entry) × (H ≡ before ++ x ∷ more))
last_or_before [] [] e x rest h = inl (refl, sym (same_head h).0)
last_or_before [] (y ∷ ys) e x rest h = absurd (nil_longer ys x rest (same_head h).1)
last_or_before (z ∷ zs) [] e x rest h = inr (zs, ap (λ y. y ∷ zs) (same_head h).0)
last_or_before (z ∷ zs) (y ∷ ys) e x rest h =
    let parts = same_head h in
    ⊎_elim (λ same. inl (ap₂ (λ x xs. x ∷ xs) (sym parts.0) same.0, same.1))
    (λ earlier. inr (earlier.0, ap₂ (λ x xs. x ∷ xs) parts.0 earlier.1))
    (last_or_before zs ys e x rest parts.1)

prompt_more : (b : PlainBundle) (H : List Entry) (e : Entry) → IsPrompt b H → (is_some (doer e) ≡ true → change_is_due b H ≡ false) → IsPrompt b (H ++ e ∷ [])
prompt_more b H e prompt last before x rest is does =
    ⊎_elim (λ same. ap (change_is_due b) same.0 ∙ last (ap (λ y. is_some (doer y)) (sym same.1) ∙ does))
    (λ earlier. prompt before x earlier.0 earlier.1 does)
    (last_or_before H before e x rest is)

-- a prompt history with one entry more that a schedule without a seed takes
pub prompt_turn : (b : PlainBundle) (H : List Entry) (N : Network) (outcome : NextNetwork) → network_run b H ≡ Some N → network_ended b.cast N ≡ false
    → scheduled (setting b) N None ≡ Some outcome → IsPrompt b H → IsPrompt b (H ++ outcome.entry ∷ [])
prompt_turn b H N outcome run goes takes prompt =
    prompt_more b H outcome.entry prompt (λ does. due_there b H N run ∙ not_due (setting b) N outcome goes takes does)
