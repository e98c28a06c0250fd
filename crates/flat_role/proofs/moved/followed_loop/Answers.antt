-- By whether the turn has ended.
use Rattle.std.proofs.Common.{◌≡◌, false, true, if◌then◌else◌, refl, sym, ap, ◌∙◌}
use Rattle.dioc_terms.specs.Processes.{WhileFollow}
use Rattle.flat_role.specs.declared.marks.Mark.TheVariants as kept
use Rattle.flat_role.specs.MovedMarks.{body_or, came}
use Rattle.flat_role.proofs.MovedLemmas.{moves_as}
use Rattle.flat_role.proofs.OpMoveLemmas.{loop_ended, loop_followed}
use Rattle.flat_role.proofs.OwnMarks.{body_own, either_own, own_by}
use Rattle.flat_role.proofs.moved.followed_loop.Goals as goal

pub returns-in-Ending : goal.returns-in-Ending
returns-in-Ending c = (
  refl,
  λ i leader P h flag_is over_is pick.
      moves_as (WhileFollow i leader P) pick h c.in-Ending.is refl
      (loop_ended i leader P c.args.body_ended over_is pick h),
)

pub returns-in_default : goal.returns-in_default
returns-in_default c =
    let first = c.followed_turn.ensures in (
      own_by first (either_own c.args.flag (body_or c.args.body_ended (kept.Ending, false)) (kept.Finished, true)
          (body_own c.args.body_ended (kept.Ending, false) refl) refl),
      λ i leader P h flag_is over_is pick.
          let is : c.followed_turn.result
          ≡ (if came h then body_or c.args.body_ended (kept.Ending, false) else (kept.Finished, true)) =
          c.followed_turn.ensures
          ∙ ap (λ b. if b then body_or c.args.body_ended (kept.Ending, false) else (kept.Finished, true))
          (sym flag_is) in
          moves_as (WhileFollow i leader P) pick h refl is
          (loop_followed i leader P c.args.body_ended over_is c.args.mark.now pick h
          c.in_default.not-Ending),
    )
