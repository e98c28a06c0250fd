-- Lists of updates: what one more leaves as it was.
use Rattle.std.proofs.Common.{◌≡◌, ℕ, zero, suc, List, [], ◌∷◌, ◌++◌, true, false, ◌==◌, Option, Some, None, refl, sym, ap, ◌∙◌, ⊎_elim}
use Rattle.std.specs.Prelude.{option_map, option_and_then}
use Rattle.std.proofs.lemmas.Bool.{cases_Bool, cond-true, cond-false}
use Rattle.dioc_terms.specs.declared.names.Role.{Role}
use Rattle.dioc_terms.specs.Plain.{Setting}
use Rattle.dioc_terms.specs.Processes.{Process}
use Rattle.marked_laws.proofs.Shapes.{none_some}
use Rattle.role_monitor.specs.Monitoring.{update_numbered, epoch_level, rule_part, update_part, with_update}
use Rattle.role_monitor.specs.declared.updates.Update.{Update}

pub map_some : {A B : Type 0} (f : A → B) (o : Option A) (y : B) → option_map f o ≡ Some y → (x : A) × (o ≡ Some x) × (Some (f x) ≡ Some y)
map_some f None y h = absurd (none_some h)
map_some f (Some x) y h = (x, refl, h)

pub then_some : {A B : Type 0} (f : A → Option B) (o : Option A) (y : B) → option_and_then f o ≡ Some y → (x : A) × (o ≡ Some x) × (f x ≡ Some y)
then_some f None y h = absurd (none_some h)
then_some f (Some x) y h = (x, refl, h)

-- an update with this number, rule and level
abbrev pub stated : ℕ → ℕ → ℕ → Update
stated n m level = record { epoch = n; rule = m; level = level }

-- what is found by its number in the first is found in the second
abbrev pub Extends : List Update → List Update → Type 0
Extends us vs = (n : ℕ) (u : Update) → update_numbered n us ≡ Some u → update_numbered n vs ≡ Some u

pub extends_more : (us : List Update) (u : Update) → Extends us (us ++ u ∷ [])
extends_more [] u n v h = absurd (none_some h)
extends_more (w ∷ us) u n v h = ⊎_elim
    (λ yes. cond-true (w.epoch == n) (Some w) (update_numbered n (us ++ u ∷ [])) yes ∙ (sym (cond-true (w.epoch == n) (Some w) (update_numbered n us) yes) ∙ h))
    (λ no. cond-false (w.epoch == n) (Some w) (update_numbered n (us ++ u ∷ [])) no ∙ extends_more us u n v (sym (cond-false (w.epoch == n) (Some w) (update_numbered n us) no) ∙ h))
    (cases_Bool (w.epoch == n))

pub extends_with : (us : List Update) (o : Option Update) → Extends us (with_update us o)
extends_with us None = λ n u h. h
extends_with us (Some u) = extends_more us u

pub level_still : (us vs : List Update) → Extends us vs → (n l : ℕ) → epoch_level us n ≡ Some l → epoch_level vs n ≡ Some l
level_still us vs extends zero l h = h
level_still us vs extends (suc n) l h =
    let found = map_some (λ (u : Update). u.level) (update_numbered (suc n) us) l h in
    ap (option_map (λ (u : Update). u.level)) (extends (suc n) found.0 found.1) ∙ found.2

pub part_still : (b : Setting) (q : Role) (us vs : List Update) → Extends us vs → (n : ℕ) (P : Process) → update_part b q us n ≡ Some P → update_part b q vs n ≡ Some P
part_still b q us vs extends zero P h = h
part_still b q us vs extends (suc n) P h =
    let found = then_some (λ u. rule_part b q u (suc n)) (update_numbered (suc n) us) P h in
    ap (option_and_then (λ u. rule_part b q u (suc n))) (extends (suc n) found.0 found.1) ∙ found.2

-- the last one is found where its number was none before
pub last_found : (us : List Update) (u : Update) (n : ℕ) → update_numbered n us ≡ None → (u.epoch == n) ≡ true → update_numbered n (us ++ u ∷ []) ≡ Some u
last_found [] u n none is = cond-true (u.epoch == n) (Some u) None is
last_found (w ∷ us) u n none is = ⊎_elim
    (λ yes. absurd (none_some (sym none ∙ cond-true (w.epoch == n) (Some w) (update_numbered n us) yes)))
    (λ no. cond-false (w.epoch == n) (Some w) (update_numbered n (us ++ u ∷ [])) no
    ∙ last_found us u n (sym (cond-false (w.epoch == n) (Some w) (update_numbered n us) no) ∙ none) is)
    (cases_Bool (w.epoch == n))

-- another number isn't found by it
pub still_none : (us : List Update) (u : Update) (n : ℕ) → update_numbered n us ≡ None → (u.epoch == n) ≡ false → update_numbered n (us ++ u ∷ []) ≡ None
still_none [] u n none other = cond-false (u.epoch == n) (Some u) None other
still_none (w ∷ us) u n none other = ⊎_elim
    (λ yes. absurd (none_some (sym none ∙ cond-true (w.epoch == n) (Some w) (update_numbered n us) yes)))
    (λ no. cond-false (w.epoch == n) (Some w) (update_numbered n (us ++ u ∷ [])) no
    ∙ still_none us u n (sym (cond-false (w.epoch == n) (Some w) (update_numbered n us) no) ∙ none) other)
    (cases_Bool (w.epoch == n))
