-- By how far the scope has come.
use Rattle.std.proofs.Common.{◌≡◌, ◌+◌, true, refl}
use Rattle.dioc_terms.specs.Processes.{ScopeLead}
use Rattle.flat_role.specs.MovedMarks.{count_from, gathered_or, left_or, scope_or, told_or}
use Rattle.flat_role.proofs.MovedLemmas.{moves_as}
use Rattle.flat_role.proofs.OpMoveLemmas.{scope_told, scope_gathered, scope_left, scope_else}
use Rattle.flat_role.proofs.OwnMarks.{gathered_own, left_own, own_by, scope_own, told_own}
use Rattle.flat_role.proofs.moved.led_scope.Goals as goal

pub returns-in-Telling : goal.returns-in-Telling
returns-in-Telling c =
    let first : c.telling.result ≡ told_or (count_from (c.in-Telling.done + 1) c.args.others) true
    (scope_or c.args.body_ended c.args.others) = cc in (
      own_by first (told_own (count_from (c.in-Telling.done + 1) c.args.others) true (scope_or c.args.body_ended c.args.others)
          (scope_own c.args.body_ended c.args.others)),
      λ head others P h len over_is pick.
          let is : c.telling.result ≡ told_or (count_from (c.in-Telling.done + 1) c.args.others) true
          (scope_or c.args.body_ended c.args.others) = cc in
          moves_as (ScopeLead head others P) pick h c.in-Telling.is is
          (scope_told head others P c.args.others c.args.body_ended len over_is c.in-Telling.field-0 pick
          c.in-Telling.done h),
    )

pub returns-in-Gathering : goal.returns-in-Gathering
returns-in-Gathering c =
    let first : c.gathering.result ≡ gathered_or (count_from (c.in-Gathering.done + 1) c.args.others)
    (left_or (count_from 0 c.args.others)) = cc in (
      own_by first (gathered_own (count_from (c.in-Gathering.done + 1) c.args.others) (left_or (count_from 0 c.args.others)) (left_own (count_from 0 c.args.others))),
      λ head others P h len over_is pick.
          let is : c.gathering.result ≡ gathered_or (count_from (c.in-Gathering.done + 1) c.args.others)
          (left_or (count_from 0 c.args.others)) = cc in
          moves_as (ScopeLead head others P) pick h c.in-Gathering.is is
          (scope_gathered head others P c.args.others c.args.body_ended len over_is c.in-Gathering.done
          pick h),
    )

pub returns-in-Left : goal.returns-in-Left
returns-in-Left c =
    let first : c.leaving-in-Left.result ≡ left_or (count_from (c.in-Left.done + 1) c.args.others) = cc in (
      own_by first (left_own (count_from (c.in-Left.done + 1) c.args.others)),
      λ head others P h len over_is pick.
          let is : c.leaving-in-Left.result ≡ left_or (count_from (c.in-Left.done + 1) c.args.others) = cc in
          moves_as (ScopeLead head others P) pick h c.in-Left.is is
          (scope_left head others P c.args.others c.args.body_ended len over_is c.in-Left.done pick h),
    )

pub returns-in_default : goal.returns-in_default
returns-in_default c =
    let first : c.telling-in_default.result ≡ told_or (count_from 0 c.args.others) true
    (scope_or c.args.body_ended c.args.others) = cc in (
      own_by first (told_own (count_from 0 c.args.others) true (scope_or c.args.body_ended c.args.others)
          (scope_own c.args.body_ended c.args.others)),
      λ head others P h len over_is pick.
          let is : c.telling-in_default.result ≡ told_or (count_from 0 c.args.others) true
          (scope_or c.args.body_ended c.args.others) = cc in
          moves_as (ScopeLead head others P) pick h refl is
          (scope_else head others P c.args.others c.args.body_ended len over_is c.args.mark.now pick h
          c.in_default.not-Telling c.in_default.not-Gathering c.in_default.not-Left),
    )
