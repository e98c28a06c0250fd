-- By how far the scope has come.
use Rattle.std.proofs.Common.{◌≡◌, ◌+◌, ℕ, false, nat_lt, refl, sym, ap, arith, if◌then◌else◌}
use Rattle.std.proofs.lemmas.Bool.Decides.{nat_tests}
use Rattle.std.specs.Prelude.{None, Some}
use Rattle.dioc_terms.specs.Processes.{ScopeFollow}
use Rattle.flat_role.specs.MovedMarks.{awaited_or}
use Rattle.flat_role.proofs.MovedLemmas.{moves_as}
use Rattle.flat_role.proofs.OpMoveLemmas.{part_ended, part_awaited, part_followed}
use Rattle.flat_role.specs.declared.marks.Mark.TheVariants as kept
use Rattle.flat_role.proofs.OwnMarks.{body_own, own_by}
use Rattle.flat_role.proofs.moved.followed_scope.Goals as goal

-- there is one message
none_left : (n : ℕ) → nat_lt (n + 1) 1 ≡ false
none_left n = grind (arith, nat_tests)

pub returns-in-Ending : goal.returns-in-Ending
returns-in-Ending c = (
  refl,
  λ i leader P h over_is pick.
      moves_as (ScopeFollow i leader P) pick h c.in-Ending.is refl
      (part_ended i leader P c.args.body_ended over_is pick h),
)

pub returns-in-Waiting : goal.returns-in-Waiting
returns-in-Waiting c = (
  refl,
  λ i leader P h over_is pick.
      let n = c.in-Waiting.field-0 in
      moves_as (ScopeFollow i leader P) pick h c.in-Waiting.is
      (sym (ap (λ t. awaited_or (if t then Some (n + 1) else None)) (none_left n)))
      (part_awaited i leader P c.args.body_ended over_is n pick h),
)

pub returns-in_default : goal.returns-in_default
returns-in_default c =
    let first = c.inside.ensures in (
      own_by first (body_own c.args.body_ended (kept.Ending, false) refl),
      λ i leader P h over_is pick.
          moves_as (ScopeFollow i leader P) pick h refl c.inside.ensures
          (part_followed i leader P c.args.body_ended over_is c.args.mark.now pick h
          c.in_default.not-Ending c.in_default.not-Waiting),
    )
