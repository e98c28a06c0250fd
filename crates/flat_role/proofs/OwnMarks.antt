-- What a place comes to holds no update, unless another process comes.
use Rattle.std.proofs.Common.{◌≡◌, ℕ, Bool, true, false, Option, None, Some, refl, ap, ◌∙◌}
use Rattle.std.specs.Prelude.{if◌then◌else◌}
use Rattle.flat_role.specs.declared.marks.Mark.{Mark}
use Rattle.flat_role.specs.declared.marks.Mark.TheVariants as kept
use Rattle.flat_role.specs.MovedMarks.{awaited_or, body_or, count_from, gathered_or, left_or, runs_update, scope_or, told_or, turn_or}

abbrev IsOwn : Mark × Bool → Type 0
IsOwn r = runs_update r.0 ≡ false

pub told_own : (o : Option ℕ) (b : Bool) (next : Mark × Bool) → IsOwn next
    → IsOwn (told_or o b next)
told_own None b next own = own
told_own (Some n) b next own = refl

pub gathered_own : (o : Option ℕ) (next : Mark × Bool) → IsOwn next → IsOwn (gathered_or o next)
gathered_own None next own = own
gathered_own (Some n) next own = refl

pub left_own : (o : Option ℕ) → IsOwn (left_or o)
left_own None = refl
left_own (Some n) = refl

pub awaited_own : (o : Option ℕ) → IsOwn (awaited_or o)
awaited_own None = refl
awaited_own (Some n) = refl

pub body_own : (b : Bool) (next : Mark × Bool) → IsOwn next → IsOwn (body_or b next)
body_own true next own = own
body_own false next own = refl

pub turn_own : (b : Bool) (n : ℕ) → IsOwn (turn_or b n)
turn_own b n = body_own b (gathered_or (count_from 0 n) (kept.Untouched, false))
    (gathered_own (count_from 0 n) (kept.Untouched, false) refl)

pub scope_own : (b : Bool) (n : ℕ) → IsOwn (scope_or b n)
scope_own b n = body_own b (gathered_or (count_from 0 n) (left_or (count_from 0 n)))
    (gathered_own (count_from 0 n) (left_or (count_from 0 n)) (left_own (count_from 0 n)))

pub either_own : (b : Bool) (p q : Mark × Bool) → IsOwn p → IsOwn q
    → IsOwn (if b then p else q)
either_own true p q own other = own
either_own false p q own other = other

-- by another name
pub own_by : {r q : Mark × Bool} → r ≡ q → runs_update q.0 ≡ false → runs_update r.0 ≡ false
own_by is own = ap (λ x. runs_update x.0) is ∙ own
