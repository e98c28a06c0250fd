-- By how far the turn has come.
use Rattle.std.proofs.Common.{◌≡◌, ◌+◌, false, refl}
use Rattle.dioc_terms.specs.Processes.{WhileLead}
use Rattle.flat_role.specs.declared.marks.Mark.TheVariants as kept
use Rattle.flat_role.specs.MovedMarks.{count_from, gathered_or, left_or, told_or, turn_or}
use Rattle.flat_role.proofs.MovedLemmas.{moves_as}
use Rattle.flat_role.proofs.OpMoveLemmas.{loop_told, loop_gathered, loop_left, loop_else}
use Rattle.flat_role.proofs.OwnMarks.{either_own, gathered_own, left_own, own_by, told_own, turn_own}
use Rattle.flat_role.proofs.moved.led_loop.Goals as goal

pub returns-in-Telling : goal.returns-in-Telling
returns-in-Telling c =
    let first : c.telling.result ≡ told_or (count_from (c.in-Telling.done + 1) c.args.others)
    c.in-Telling.flag (turn_or c.args.body_ended c.args.others) = cc in (
      own_by first (told_own (count_from (c.in-Telling.done + 1) c.args.others) c.in-Telling.flag
          (turn_or c.args.body_ended c.args.others) (turn_own c.args.body_ended c.args.others)),
      λ i g others P h len over_is.
          let is : c.telling.result ≡ told_or (count_from (c.in-Telling.done + 1) c.args.others)
          c.in-Telling.flag (turn_or c.args.body_ended c.args.others) = cc in
          moves_as (WhileLead i g others P) c.args.pick h c.in-Telling.is is
          (loop_told i g others P c.args.others c.args.body_ended len over_is c.in-Telling.flag c.args.pick
          c.in-Telling.done h),
    )

pub returns-in-Gathering : goal.returns-in-Gathering
returns-in-Gathering c =
    let first : c.gathering.result ≡ gathered_or (count_from (c.in-Gathering.done + 1) c.args.others)
    (kept.Untouched, false) = cc in (
      own_by first (gathered_own (count_from (c.in-Gathering.done + 1) c.args.others) (kept.Untouched, false) refl),
      λ i g others P h len over_is.
          let is : c.gathering.result ≡ gathered_or (count_from (c.in-Gathering.done + 1) c.args.others)
          (kept.Untouched, false) = cc in
          moves_as (WhileLead i g others P) c.args.pick h c.in-Gathering.is is
          (loop_gathered i g others P c.args.others c.args.body_ended len over_is c.in-Gathering.done
          c.args.pick h),
    )

pub returns-in-Left : goal.returns-in-Left
returns-in-Left c =
    let first : c.leaving.result ≡ left_or (count_from (c.in-Left.done + 1) c.args.others) = cc in (
      own_by first (left_own (count_from (c.in-Left.done + 1) c.args.others)),
      λ i g others P h len over_is.
          let is : c.leaving.result ≡ left_or (count_from (c.in-Left.done + 1) c.args.others) = cc in
          moves_as (WhileLead i g others P) c.args.pick h c.in-Left.is is
          (loop_left i g others P c.args.others c.args.body_ended len over_is c.in-Left.done c.args.pick h),
    )

pub returns-in_default : goal.returns-in_default
returns-in_default c =
    let first = c.picked_turn.ensures in (
      own_by first (either_own c.args.pick (told_or (count_from 0 c.args.others) c.args.pick (turn_or c.args.body_ended c.args.others))
          (left_or (count_from 0 c.args.others)) (told_own (count_from 0 c.args.others) c.args.pick (turn_or c.args.body_ended c.args.others)
          (turn_own c.args.body_ended c.args.others)) (left_own (count_from 0 c.args.others))),
      λ i g others P h len over_is.
          moves_as (WhileLead i g others P) c.args.pick h refl c.picked_turn.ensures
          (loop_else i g others P c.args.others c.args.body_ended len over_is c.args.mark.now c.args.pick h
          c.in_default.not-Telling c.in_default.not-Gathering c.in_default.not-Left),
    )
