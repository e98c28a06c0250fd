-- What is noted after the step that an entry shows, and how far a net has done the entries again.
use Rattle.std.proofs.Common.{◌≡◌, ◌≤◌, ℕ, suc, List, [], ◌∷◌, ◌++◌, length, take, Bool, true, false, Some, None, slice_get, refl, sym, ap, ◌∙◌, subst}
use Rattle.std.specs.Option.{option_map_or}
use Rattle.std.proofs.lemmas.Bool.{cond-false}
use Rattle.dioc_terms.specs.declared.entries.Entry.{Entry}
use Rattle.dioc_terms.specs.declared.entries.Entry.TheVariants as entry
use Rattle.dioc_terms.specs.Equality.{entry_eq}
use Rattle.dioc_terms.specs.Plain.{PlainBundle, Setting, setting}
use Rattle.network_steps.specs.Network.{Network, NextNetwork, network_after, network_step}
use Rattle.marked_laws.proofs.Equality.{entry_same}
use Rattle.network_steps.specs.Schedule.{move_step}
use Rattle.net_core.specs.Nets.{IsSoundRun, NetState, network_of}
use Rattle.net_core.specs.Steps.{GoesOn}
use Rattle.net_drive.specs.declared.resuming.Redone.TheVariants as redone
use Rattle.net_drive.specs.Making.{Makes, shown_move}
use Rattle.net_drive.specs.Redoing.{IsRedone, Redoes}
use Rattle.net_drive.specs.Resumed.{IsFirstStray, run_stray}
use Rattle.net_drive.proofs.RunStrays.{first_counted, first_stray, first_within}

-- an entry can be done where the step that it shows notes it
pub step_shown : (b : Setting) (N : Network) (e : Entry) → network_step b N e ≡ network_after e (move_step b N (shown_move e))
step_shown b N (entry.Put k n) = refl
step_shown b N (entry.Take k x) = refl
step_shown b N (entry.Set i r x v) = refl
step_shown b N (entry.Input i r x v) = refl
step_shown b N (entry.Pick i r t) = refl
step_shown b N (entry.Scope i r c) = refl
step_shown b N (entry.Add name) = refl
step_shown b N (entry.Drop name) = refl
step_shown b N (entry.Env key v) = refl

at_end : (xs : List Entry) (x : Entry) → slice_get (xs ++ x ∷ []) (length xs) ≡ Some x
at_end [] x = refl
at_end (y ∷ ys) x = at_end ys x

pub taken_front : (xs ys : List Entry) → take (length xs) (xs ++ ys) ≡ xs
taken_front [] ys = refl
taken_front (x ∷ xs) ys = ap (λ l. x ∷ l) (taken_front xs ys)

-- what stands behind the old history is the entry that was made
pub noted_is : (old new : NetState) (e : Entry) (noted : Bool) (outcome : NextNetwork) → GoesOn old outcome new
    → noted ≡ option_map_or (entry_eq e) (slice_get new.history (length old.history)) false → noted ≡ entry_eq e outcome.entry
noted_is old new e noted outcome goes is =
    is ∙ ap (λ o. option_map_or (entry_eq e) o false) (ap (λ h. slice_get h (length old.history)) goes.history ∙ at_end old.history outcome.entry)

-- the entry was done again exactly where it stands there
pub redoes_noted : (old new : NetState) (e : Entry) (noted : Bool) → Makes (move_step (setting old.bundle) (network_of old) (shown_move e)) old new true
    → noted ≡ option_map_or (entry_eq e) (slice_get new.history (length old.history)) false → Redoes old e new noted
redoes_noted old new e noted made is = by_test noted refl
  where
    same : noted ≡ entry_eq e (made.0).entry
    same = noted_is old new e noted made.0 made.2 is

    by_test : (t : Bool) → noted ≡ t → Redoes old e new t
    by_test true h = (made.2).history ∙ ap (λ x. old.history ++ x ∷ []) (sym (entry_same e (made.0).entry (sym same ∙ h)))
    by_test false h =
        step_shown (setting old.bundle) (network_of old) e ∙ ap (network_after e) made.1
        ∙ cond-false (entry_eq e (made.0).entry) (Some (made.0).network) None (sym same ∙ h)

-- nothing was made, so the entry can't be done
pub redoes_none : (old new : NetState) (e : Entry) → move_step (setting old.bundle) (network_of old) (shown_move e) ≡ None → Redoes old e new false
redoes_none old new e h = step_shown (setting old.bundle) (network_of old) e ∙ ap (network_after e) h

-- an entry that wasn't done again is the first stray of all of them, and of those within the limit
pub redone_stray : (start old new : NetState) (e : Entry) (later entries : List Entry) (n : ℕ) → IsSoundRun old → old.bundle ≡ start.bundle
    → old.history ++ e ∷ later ≡ entries → n ≡ suc (length old.history) → n ≤ start.limit → Redoes old e new false → IsRedone start entries new (redone.Stray n)
redone_stray start old new e later entries n run bundle splits number within strays =
    let here : IsFirstStray old.bundle entries (suc (length old.history)) =
    first_stray old.bundle old.history (network_of old) e later entries run.runs strays splits in
    let first : IsFirstStray start.bundle entries n =
    subst (λ b. IsFirstStray b entries n) bundle (subst (IsFirstStray old.bundle entries) (sym number) here) in
    (within, first, first_counted start.bundle (take start.limit entries) n (first_within start.bundle entries n start.limit within first))

-- the count is that of the bundle and of the limit that the net was made of
pub counted_for : (start : NetState) (b : PlainBundle) (entries : List Entry) (limit : ℕ) (new : NetState) (n : ℕ) → start.bundle ≡ b → start.limit ≡ limit
    → IsRedone start entries new (redone.Stray n) → run_stray b (take limit entries) ≡ Some n
counted_for start b entries limit new n bundle most far =
    let same : run_stray b (take limit entries) ≡ run_stray start.bundle (take start.limit entries) =
    λ j. run_stray (sym bundle j) (take (sym most j) entries) in
    same ∙ far.2
