-- The role states as a list of locals, and why a role's act is refused.
use Rattle.std.proofs.Common.{◌≡◌, ◌<◌, ℕ, List, map, Some, slice_get, length, get_or, refl, sym, ap, ◌∙◌}
use Rattle.std.specs.Prelude.{option_map, slice_set}
use Rattle.std.proofs.Math.Seq.{map-set_same}
use Rattle.std.proofs.lemmas.Option.{slice_get-map, slice_get_read}
use Rattle.dioc_terms.specs.declared.entries.Act.{Act}
use Rattle.dioc_terms.specs.declared.names.Role.{Role}
use Rattle.dpoc_process.specs.LocalStates.{LocalState}
use Rattle.network_steps.specs.declared.moves.StepFault.{StepFault}
use Rattle.network_steps.specs.declared.moves.StepFault.TheVariants as fault
use Rattle.role_mailbox.specs.declared.mail.Mail.{Mail}
use Rattle.role_mailbox.specs.Pending.{messages}
use Rattle.net_core.proofs.SameMail.{there_same}
use Rattle.net_core.specs.Deeds.{IsAt, RefusedFor}
use Rattle.net_core.specs.Faults.{ReadyFault}

module _ {A : Type 0} (f : A → LocalState) (listed : List A) (i : ℕ) (x : A) (is : x ≡ get_or listed i x) where
  -- the local of the role state at a place
  pub here_is : i < length listed → slice_get (map f listed) i ≡ Some (f x)
  here_is within = slice_get-map f listed i ∙ ap (option_map f) (slice_get_read listed (length listed) i x refl within is)

  -- a role state that shows the same local changes no local
  pub locals_same : (y : A) → f y ≡ f x → map f (slice_set listed i y) ≡ map f listed
  locals_same y same = map-set_same f listed i y x (same ∙ ap f is)

-- what isn't made ready is refused
pub refused_role : (cast : List Role) (locals : List LocalState) (q : Role) (s : LocalState) (is_at : IsAt cast locals q s) (old new : Mail) → messages new ≡ messages old
    → (a : Act) (why : StepFault) → ReadyFault s new a why → RefusedFor cast locals old q a why
refused_role cast locals q s is_at old new same a fault.NoAct refused = record { local = s; is_at = is_at; lacks = refused }
refused_role cast locals q s is_at old new same a fault.NotYet refused =
    record { local = s; is_at = is_at; offers = refused.0; waits = sym (there_same old new same a) ∙ refused.1 }
refused_role cast locals q s is_at old new same a fault.Memory refused = tt
refused_role cast locals q s is_at old new same a fault.Ended refused = absurd refused
refused_role cast locals q s is_at old new same a fault.Full refused = absurd refused
