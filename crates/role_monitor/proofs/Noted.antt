-- What another role's entry tells of a part.
use Rattle.std.proofs.Common.{◌≡◌, ℕ, zero, suc, List, [], ◌∷◌, Option, Some, None, refl, sym, ap, ◌∙◌, subst, ⊎_elim}
use Rattle.std.specs.Prelude.{◌==◌, option_map, option_and_then}
use Rattle.std.proofs.lemmas.Bool.{cases_Bool, cond-true, cond-false}
use Rattle.std.proofs.lemmas.Bool.Decides.{Decides-eqb}
use Rattle.dioc_terms.specs.declared.names.Role.{Role}
use Rattle.dioc_terms.specs.declared.processes.Payload.{Payload}
use Rattle.dioc_terms.specs.Plain.{Setting}
use Rattle.dioc_terms.specs.Processes.{Part, load}
use Rattle.marked_laws.proofs.Shapes.{none_some, some_same}
use Rattle.role_monitor.specs.Monitoring.{rule_part, update_part, update_numbered}
use Rattle.role_monitor.specs.declared.updates.Update.{Update}

numbered_epoch : (n : ℕ) (us : List Update) (u : Update) → update_numbered n us ≡ Some u → u.epoch ≡ n
numbered_epoch n [] u h = absurd (none_some h)
numbered_epoch n (v ∷ vs) u h = ⊎_elim
    (λ yes. subst (λ (w : Update). w.epoch ≡ n) (some_same (sym (cond-true (v.epoch == n) (Some v) (update_numbered n vs) yes) ∙ h)) ((Decides-eqb v.epoch n).0 yes))
    (λ no. numbered_epoch n vs u (sym (cond-false (v.epoch == n) (Some v) (update_numbered n vs) no) ∙ h))
    (cases_Bool (v.epoch == n))

module _ (b : Setting) (q : Role) (us : List Update) where
  -- the part of an update that was heard of
  pub noted_part : (n : ℕ) (u : Update) (o : Option Payload) → (n ≡ 0 → ⊥) → update_numbered n us ≡ Some u → option_map load o ≡ option_map (Part u.epoch) (rule_part b q u u.epoch)
      → option_map load o ≡ option_map (Part n) (update_part b q us n)
  noted_part zero u o other at h = absurd (other refl)
  noted_part (suc n) u o other at h =
      h ∙ ap (λ m. option_map (Part m) (rule_part b q u m)) (numbered_epoch (suc n) us u at)
      ∙ sym (ap (λ x. option_map (Part (suc n)) (option_and_then (λ v. rule_part b q v (suc n)) x)) at)

  -- there is none where it wasn't
  pub noted_none : (n : ℕ) → (n ≡ 0 → ⊥) → update_numbered n us ≡ None → None ≡ option_map (Part n) (update_part b q us n)
  noted_none zero other at = absurd (other refl)
  noted_none (suc n) other at = sym (ap (λ x. option_map (Part (suc n)) (option_and_then (λ v. rule_part b q v (suc n)) x)) at)
