-- The level of an epoch that isn't the program's own.
use Rattle.std.proofs.Common.{◌≡◌, ℕ, zero, suc, List, Some, None, refl, sym, ap, ◌∙◌}
use Rattle.std.specs.Prelude.{option_map}
use Rattle.role_monitor.specs.Monitoring.{update_numbered, epoch_level}
use Rattle.role_monitor.specs.declared.updates.Update.{Update}

pub level_of : (us : List Update) (n : ℕ) → (n ≡ 0 → ⊥) → epoch_level us n ≡ option_map (λ (u : Update). u.level) (update_numbered n us)
level_of us zero other = absurd (other refl)
level_of us (suc n) other = refl

pub level_found : (us : List Update) (n : ℕ) (u : Update) → (n ≡ 0 → ⊥) → Some u ≡ update_numbered n us → Some u.level ≡ epoch_level us n
level_found us n u other found = ap (option_map (λ (u : Update). u.level)) found ∙ sym (level_of us n other)

pub level_none : (us : List Update) (n : ℕ) → (n ≡ 0 → ⊥) → None ≡ update_numbered n us → None ≡ epoch_level us n
level_none us n other found = ap (option_map (λ (u : Update). u.level)) found ∙ sym (level_of us n other)
