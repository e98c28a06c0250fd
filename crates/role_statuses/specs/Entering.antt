-- The places that can act where a step has ended.
use Rattle.std.specs.Prelude.{ℕ, zero, suc, List, [], Bool, true, false, not, Option, None, Some, if◌then◌else◌, nat_eq}
use Rattle.dioc_terms.specs.declared.names.Role.{Role}
use Rattle.role_statuses.specs.Flat.{Marks}
use Rattle.role_statuses.specs.Kept.{kept}
use Rattle.role_statuses.specs.Local.{Layout, over_after, written}
use Rattle.role_statuses.specs.Marks.{Mark}
use Rattle.role_statuses.specs.Marks as mark
use Rattle.role_statuses.specs.Spots.{Spot, spots}

abbrev pub stop_up : Role → Layout → (Bool → Marks → ℕ → Option ℕ) → Marks → ℕ → Option ℕ
    → Option ℕ
stop_up me code next marks at None = None
stop_up me code next marks at (Some up) =
    next (over_after me (code.statics up) (not (nat_eq (suc at) up)) true (marks up))
    (written me code marks at true up) up

-- the first place, from a part on that acted, at which something is left to do; none where the
-- whole has ended
abbrev pub stop : Role → Layout → Bool → ℕ → Marks → ℕ → Option ℕ
stop me code false n marks at = Some at
stop me code true zero marks at = None
stop me code true (suc n) marks at =
    stop_up me code (λ over ms up. stop me code over n ms up) marks at (code.parents at)

abbrev pub is_both : Mark → Bool
is_both (mark.Both l r) = true
is_both m = false

-- the places that can act where this goes on, in the place of the one that acted: where a part has
-- ended beside another one, none
abbrev pub entered : Role → Layout → Marks → Option ℕ → List Spot
entered me code marks None = []
entered me code marks (Some place) = if is_both (marks place) then []
    else spots me (code.lows place) (kept marks (code.lows place) (code.statics place))
    (code.statics place)
