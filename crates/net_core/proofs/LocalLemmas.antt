-- The locals of a network's roles in the order of the cast, and what a step changes of them.
use Rattle.std.proofs.Common.{◌≡◌, ℕ, zero, suc, List, [], ◌∷◌, map, true, false, not, Some, slice_get, refl, sym, ap, ap₂, ◌∙◌, subst}
use Rattle.std.specs.Prelude.{slice_set, option_map}
use Rattle.std.proofs.lemmas.Bool.{and_parts, or_left, or_right, or_parts, both_ways, not-true, false_from_ne_true}
use Rattle.std.proofs.lemmas.List.{map-set}
use Rattle.std.proofs.lemmas.Option.{slice_get-map}
use Rattle.dioc_terms.specs.declared.names.Role.{Role}
use Rattle.dioc_terms.specs.Equality.{role_eq, member}
use Rattle.dioc_terms.specs.Processes.{Process}
use Rattle.dioc_terms.specs.Stores.{Store}
use Rattle.dioc_terms.specs.Terms.{distinct_roles}
use Rattle.dpoc_process.specs.LocalStates.{LocalState, local_done}
use Rattle.process_steps.specs.Steps.{Deed, store_after}
use Rattle.network_steps.specs.Network.{Network}
use Rattle.marked_laws.proofs.Equality.{role_same, role_itself}
use Rattle.marked_laws.proofs.Networks.{after_deed}
use Rattle.marked_laws.proofs.Roles.{updated_here, updated_there}
use Rattle.marked_laws.proofs.Shapes.{none_some, some_same}
use Rattle.net_core.specs.Standing.{local_in}

local_same : (r : Role) {P Q : Process} {s t : Store} → P ≡ Q → s ≡ t
    → ◌≡◌ {A = LocalState} (record { role = r; process = P; store = s }) (record { role = r; process = Q; store = t })
local_same r e f i = record { role = r; process = e i; store = f i }

-- a role at a place of a list is of the list
pub at_member : (roles : List Role) (i : ℕ) (q : Role) → slice_get roles i ≡ Some q → member q roles ≡ true
at_member [] i q h = absurd (none_some h)
at_member (r ∷ rs) zero q h = or_left (role_eq q r) (member q rs) (subst (λ x. role_eq q x ≡ true) (sym (some_same h)) (role_itself q))
at_member (r ∷ rs) (suc i) q h = or_right (role_eq q r) (member q rs) (at_member rs i q h)

module _ (N : Network) (q : Role) (d : Deed) (P : Process) where
  -- another role's local stays
  pub other_keeps : (r : Role) → role_eq r q ≡ false → local_in (after_deed N q d P) r ≡ local_in N r
  other_keeps r differs =
      local_same r (updated_there q P N.processes r differs) (updated_there q (store_after d (N.stores q)) N.stores r differs)

  own_done : local_in (after_deed N q d P) q ≡ local_done (local_in N q) d P
  own_done = local_same q (updated_here q P N.processes) (updated_here q (store_after d (N.stores q)) N.stores)

  others_keep : (roles : List Role) → member q roles ≡ false → map (local_in (after_deed N q d P)) roles ≡ map (local_in N) roles
  others_keep [] out = refl
  others_keep (r ∷ rs) out =
      let parts = or_parts (role_eq q r) (member q rs) out in
      let apart : role_eq r q ≡ false = false_from_ne_true (role_eq r q)
      (λ same. both_ways (role_eq q r) parts.0 (subst (λ x. role_eq q x ≡ true) (sym (role_same r q same)) (role_itself q))) in
      ap₂ (λ (s : LocalState) ss. s ∷ ss) (other_keeps r apart) (others_keep rs parts.1)

  -- the locals after a step are the locals before it with that of the role changed
  pub locals_after : (roles : List Role) (i : ℕ) → distinct_roles roles ≡ true → slice_get roles i ≡ Some q
      → map (local_in (after_deed N q d P)) roles ≡ slice_set (map (local_in N) roles) i (local_done (local_in N q) d P)
  locals_after [] i distinct h = absurd (none_some h)
  locals_after (r ∷ rs) zero distinct h =
      let parts = and_parts (not (member r rs)) (distinct_roles rs) distinct in
      let is = some_same h in
      ap₂ (λ (s : LocalState) ss. s ∷ ss) (ap (local_in (after_deed N q d P)) is ∙ own_done)
      (others_keep rs (subst (λ x. member x rs ≡ false) is (not-true (member r rs) parts.0)))
  locals_after (r ∷ rs) (suc i) distinct h =
      let parts = and_parts (not (member r rs)) (distinct_roles rs) distinct in
      let apart : role_eq r q ≡ false = false_from_ne_true (role_eq r q)
      (λ same. both_ways (member r rs) (not-true (member r rs) parts.0) (subst (λ x. member x rs ≡ true) (sym (role_same r q same)) (at_member rs i q h))) in
      ap₂ (λ (s : LocalState) ss. s ∷ ss) (other_keeps r apart) (locals_after rs i parts.1 h)

module _ {A : Type 0} (f : A → LocalState) where
  -- the role state at a role's place shows the role's local
  pub local_here : (listed : List A) (N : Network) (roles : List Role) (i : ℕ) (q : Role) (x : A) → map f listed ≡ map (local_in N) roles
      → slice_get roles i ≡ Some q → slice_get listed i ≡ Some x → f x ≡ local_in N q
  local_here listed N roles i q x locals at here =
      some_same (sym (slice_get-map f listed i ∙ ap (option_map f) here) ∙ ap (λ l. slice_get l i) locals ∙ slice_get-map (local_in N) roles i ∙ ap (option_map (local_in N)) at)

  -- once the role state at that place shows what the role did, they all show the locals after it
  pub locals_now : (listed : List A) (N : Network) (roles : List Role) (i : ℕ) (q : Role) (d : Deed) (P : Process) (y : A)
      → distinct_roles roles ≡ true → map f listed ≡ map (local_in N) roles → slice_get roles i ≡ Some q
      → f y ≡ local_done (local_in N q) d P → map f (slice_set listed i y) ≡ map (local_in (after_deed N q d P)) roles
  locals_now listed N roles i q d P y distinct locals at done =
      map-set f listed i y ∙ ap₂ (λ l s. slice_set l i s) locals done ∙ sym (locals_after N q d P roles i distinct at)
