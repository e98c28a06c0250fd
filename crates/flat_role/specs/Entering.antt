-- Which parts of an op run, and how many messages a mark counts.
use Rattle.std.specs.Prelude.{◌≡◌, ℕ, suc, List, [], ◌∷◌, ◌++◌, ◌+◌, Bool, true, false, if◌then◌else◌, get_or}
use Rattle.dioc_terms.specs.Processes.{Process, Seq, Par, Letters, Nothing, More}
use Rattle.flat_code.specs.declared.ops.Op.{Op}
use Rattle.flat_code.specs.declared.ops.Op.TheVariants as op
use Rattle.flat_code.specs.declared.plan.Plan.{Plan}
use Rattle.flat_role.specs.declared.marks.Mark.{Mark as KeptMark}
use Rattle.flat_role.specs.declared.marks.Mark.TheVariants as kept
use Rattle.process_steps.specs.Steps.{ended}
use Rattle.role_statuses.specs.Flat.{inner, size}

-- the places of the parts that run at a place with this mark, where something was done
abbrev pub running_parts : KeptMark → Op → List ℕ
running_parts kept.First (op.Seq p q) = p ∷ []
running_parts kept.Second (op.Seq p q) = q ∷ []
running_parts (kept.Both l r) (op.Par p q) = p ∷ q ∷ []
running_parts (kept.Branch b) (op.IfLead i g others p q) = (if b then p else q) ∷ []
running_parts (kept.Branch b) (op.IfFollow i leader p q) = (if b then p else q) ∷ []
running_parts kept.Body (op.WhileLead i g others p) = p ∷ []
running_parts kept.Body (op.WhileFollow i leader p) = p ∷ []
running_parts kept.Body (op.ScopeLead head others p) = p ∷ []
running_parts kept.Body (op.ScopeFollow i leader p) = p ∷ []
running_parts m o = []

-- the places that can act of a static process whose places begin at this one
abbrev pub still_places : ℕ → Process → List ℕ
still_places b (Seq P Q) =
    if ended P then still_places (b + size P) Q else still_places b P
still_places b (Par P Q) = still_places b P ++ still_places (b + size P) Q
still_places b P = if ended P then [] else (b + inner P) ∷ []

-- how many messages
abbrev pub how_many : Letters → ℕ
how_many Nothing = 0
how_many (More k l ms) = suc (how_many ms)

abbrev pub is_nothing : Letters → Bool
is_nothing Nothing = true
is_nothing (More k l ms) = false

-- no part runs at the place
abbrev pub RunsAlone : Plan → List KeptMark → ℕ → Type 0
RunsAlone plan marks place =
    running_parts (get_or marks place kept.Untouched) (get_or plan.code.ops.items place op.Skip)
    ≡ []

-- a mark that counts nothing
abbrev pub is_other : KeptMark → Bool
is_other kept.Untouched = false
is_other (kept.Telling b n) = false
is_other (kept.Gathering n) = false
is_other kept.Ending = false
is_other (kept.Left n) = false
is_other (kept.Waiting n) = false
is_other (kept.Became update) = false
is_other m = true

abbrev pub is_new : KeptMark → Bool
is_new kept.Untouched = true
is_new m = false
