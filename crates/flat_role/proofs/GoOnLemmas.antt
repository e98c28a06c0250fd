-- The places that can act where a step goes on, by the mark that is read there.
use Rattle.std.proofs.Common.{◌≡◌, ℕ, List, [], ◌∷◌, Bool, false, if◌then◌else◌, Some, refl, ap, drop}
use Rattle.dioc_terms.specs.declared.names.Role.{Role}
use Rattle.dioc_terms.specs.declared.processes.Key.{Key}
use Rattle.dioc_terms.specs.Processes.{Process, Letters, Nothing, More}
use Rattle.flat_code.specs.declared.plan.Plan.{Plan}
use Rattle.flat_role.specs.declared.marks.Mark.{Mark as KeptMark}
use Rattle.flat_role.specs.declared.marks.Mark.TheVariants as kept_mark
use Rattle.flat_role.specs.Advancing.{entered_places}
use Rattle.flat_role.specs.KeptMarks.{awaited, end_keys, first_letters, gathered, last_keys, last_letters, left, letters_from, meant, told}
use Rattle.flat_role.specs.PlanMarks.{mark_in, low_at, places_at, plan_marks, static_at}
use Rattle.role_statuses.specs.Entering.{is_both}
use Rattle.role_statuses.specs.Kept.{kept}
use Rattle.role_statuses.specs.ListLaws.{places_of}
use Rattle.role_statuses.specs.Spots.{spots}

told_apart : (b : Bool) (ms : Letters) → is_both (told b ms) ≡ false
told_apart b Nothing = refl
told_apart b (More k l ms) = refl

gathered_apart : (ks : List Key) → is_both (gathered ks) ≡ false
gathered_apart [] = refl
gathered_apart (k ∷ ks) = refl

left_apart : (ms : Letters) → is_both (left ms) ≡ false
left_apart Nothing = refl
left_apart (More k l ms) = refl

awaited_apart : (ks : List Key) → is_both (awaited ks) ≡ false
awaited_apart [] = refl
awaited_apart (k ∷ ks) = refl

pub not_both : (me : Role) (P : Process) (m : KeptMark)
    → ((l r : Bool) → m ≡ kept_mark.Both l r → ⊥) → is_both (meant me P m) ≡ false
not_both me P (kept_mark.Both l r) other = absurd (other l r refl)
not_both me P (kept_mark.Telling b n) other = told_apart b (letters_from n (first_letters me P b))
not_both me P (kept_mark.Gathering n) other = gathered_apart (drop n (end_keys me P))
not_both me P (kept_mark.Left n) other = left_apart (letters_from n (last_letters me P))
not_both me P (kept_mark.Waiting n) other = awaited_apart (drop n (last_keys me P))
not_both me P m other = refl

-- beside another part there is none
pub none_beside : (me : Role) (plan : Plan) (marks : List KeptMark) (place : ℕ) (l r : Bool)
    → mark_in marks place ≡ kept_mark.Both l r → entered_places me plan marks (Some place) ≡ []
none_beside me plan marks place l r is =
    ap (λ m. places_of (if is_both (meant me (static_at plan place) m) then []
    else spots me (low_at plan place)
    (kept (plan_marks me plan marks) (low_at plan place) (static_at plan place))
    (static_at plan place))) is

-- elsewhere they are those of the process there
pub some_entered : (me : Role) (plan : Plan) (marks : List KeptMark) (place : ℕ)
    → is_both (plan_marks me plan marks place) ≡ false
    → entered_places me plan marks (Some place) ≡ places_at me plan marks place
some_entered me plan marks place apart =
    ap (λ b. places_of (if b then []
    else spots me (low_at plan place)
    (kept (plan_marks me plan marks) (low_at plan place) (static_at plan place))
    (static_at plan place))) apart
