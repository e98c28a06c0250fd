-- A role over code with a mark for each place: what the loops over places speak of.
use Rattle.std.specs.Prelude.{ℕ, List, get_or, map, length}
use Rattle.dioc_terms.specs.declared.names.Role.{Role}
use Rattle.dioc_terms.specs.Processes.{Process}
use Rattle.flat_code.specs.declared.plan.Plan.{Plan}
use Rattle.flat_code.specs.Levels.{layout_of, level_at}
use Rattle.flat_code.specs.Places.{at, processes}
use Rattle.flat_role.specs.declared.marks.Mark.{Mark as KeptMark}
use Rattle.flat_role.specs.declared.marks.Mark.TheVariants as kept_marks
use Rattle.flat_role.specs.KeptMarks.{marks_of}
use Rattle.role_statuses.specs.Flat.{Marks}
use Rattle.role_statuses.specs.Kept.{kept}
use Rattle.role_statuses.specs.Local.{Layout}
use Rattle.role_statuses.specs.Spots.{spots}

-- the mark at a place
abbrev pub mark_in : List KeptMark → ℕ → KeptMark
mark_in marks place = get_or marks place kept_marks.Untouched

-- how many places there are
abbrev pub plan_len : Plan → ℕ
plan_len plan = length plan.levels.items

-- the code as laws on marks see it
abbrev pub plan_layout : Plan → Layout
plan_layout plan = layout_of plan.code.ops.items plan.levels.items

-- the static process at a place
abbrev pub static_at : Plan → ℕ → Process
static_at plan place = at (processes plan.code.ops.items) place

-- the first of the places of the process there
abbrev pub low_at : Plan → ℕ → ℕ
low_at plan place = (level_at plan.levels.items place).low

abbrev pub plan_marks : Role → Plan → List KeptMark → Marks
plan_marks me plan marks = marks_of me plan.code.ops.items marks

-- the places that can act of the process at a place, from left to right
abbrev pub places_at : Role → Plan → List KeptMark → ℕ → List ℕ
places_at me plan marks place =
    map (λ spot. spot.place)
    (spots me (low_at plan place)
    (kept (plan_marks me plan marks) (low_at plan place) (static_at plan place))
    (static_at plan place))
