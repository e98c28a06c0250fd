-- What a step up from a part writes, and where it leads.
use Rattle.std.specs.Prelude.{◌≡◌, ◌⊎◌, ℕ, suc, Bool, true, false, not, ◌||◌, Option, None, Some, nat_eq}
use Rattle.dioc_terms.specs.declared.names.Role.{Role}
use Rattle.dioc_terms.specs.Processes.{Process}
use Rattle.flat_role.specs.declared.marks.Mark.{Mark as KeptMark}
use Rattle.flat_role.specs.declared.marks.Mark.TheVariants as kept
use Rattle.flat_role.specs.KeptMarks.{meant}
use Rattle.role_statuses.specs.Flat.{Marks}
use Rattle.role_statuses.specs.Local.{Layout, is_untouched, over_after, written}
use Rattle.role_statuses.specs.Marks.{Mark}

-- the mark of a construct that gets this one, where there is one
abbrev pub mark_then : Role → Process → Option KeptMark → KeptMark → Mark
mark_then me P None old = meant me P old
mark_then me P (Some new) old = meant me P new

-- only the mark of a construct in which something was done is left as it is
abbrev pub IsLeft : Role → Process → Option KeptMark → KeptMark → Type 0
IsLeft me P None old = is_untouched (meant me P old) ≡ false
IsLeft me P (Some new) old = Unit {0}

-- nothing is written around the part: it is the whole, or it goes on in a construct in which
-- something had been done
abbrev pub IsTop : Layout → Marks → ℕ → Bool → Type 0
IsTop code marks at over = (code.parents at ≡ None)
    ⊎ ((up : ℕ) × (code.parents at ≡ Some up)
    × ((over || is_untouched (marks up)) ≡ false))

-- a step up from the part at this place: the construct around it, and whether that has ended
abbrev pub Rises : Role → Layout → Marks → Marks → ℕ → Bool → Option (ℕ × Bool)
    → Type 0
Rises me code old new at over None = (new ≡ old) × IsTop code old at over
Rises me code old new at over (Some above) = (code.parents at ≡ Some above.0)
    × ((over || is_untouched (old above.0)) ≡ true)
    × (new ≡ written me code old at over above.0)
    × (above.1 ≡ over_after me (code.statics above.0) (not (nat_eq (suc at) above.0)) over
    (old above.0))

-- the place found before, or this one, where something is left to do there
abbrev pub found : Option ℕ → ℕ → Bool → Option ℕ
found (Some place) at over = Some place
found None at true = None
found None at false = Some at

-- the mark of a construct of two parts side by side, as this part comes to this
abbrev pub both_kept : Bool → Bool → Bool → Bool → KeptMark
both_kept true over l r = kept.Both over r
both_kept false over l r = kept.Both l over
