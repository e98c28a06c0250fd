-- By whether the leader has begun to tell.
use Rattle.std.proofs.Common.{◌≡◌, ◌+◌, if◌then◌else◌, refl}
use Rattle.dioc_terms.specs.Processes.{IfLead}
use Rattle.flat_role.specs.declared.marks.Mark.TheVariants as kept
use Rattle.flat_role.specs.MovedMarks.{count_from, told_or}
use Rattle.flat_role.proofs.MovedLemmas.{moves_as}
use Rattle.flat_role.proofs.OpMoveLemmas.{choice_told, choice_else}
use Rattle.flat_role.proofs.OwnMarks.{own_by, told_own}
use Rattle.flat_role.proofs.moved.led_choice.Goals as goal

pub returns-in-Telling : goal.returns-in-Telling
returns-in-Telling c =
    let first : c.telling.result ≡ told_or (count_from (c.in-Telling.done + 1) c.args.others) c.in-Telling.flag
    (kept.Branch c.in-Telling.flag, (if c.in-Telling.flag then c.args.yes_ended else c.args.no_ended)) = cc in (
      own_by first (told_own (count_from (c.in-Telling.done + 1) c.args.others) c.in-Telling.flag
          (kept.Branch c.in-Telling.flag, (if c.in-Telling.flag then c.args.yes_ended else c.args.no_ended)) refl),
      λ i g others P Q h len yes_is no_is.
          let b = c.in-Telling.flag in
          let is : c.telling.result ≡ told_or (count_from (c.in-Telling.done + 1) c.args.others) b
          (kept.Branch b, (if b then c.args.yes_ended else c.args.no_ended)) = cc in
          moves_as (IfLead i g others P Q) c.args.pick h c.in-Telling.is is
          (choice_told i g others P Q c.args.others c.args.yes_ended c.args.no_ended len yes_is no_is b
          c.args.pick c.in-Telling.done h),
    )

pub returns-in_default : goal.returns-in_default
returns-in_default c =
    let first : c.telling-in_default.result ≡ told_or (count_from 0 c.args.others) c.args.pick
    (kept.Branch c.args.pick, (if c.args.pick then c.args.yes_ended else c.args.no_ended)) = cc in (
      own_by first (told_own (count_from 0 c.args.others) c.args.pick
          (kept.Branch c.args.pick, (if c.args.pick then c.args.yes_ended else c.args.no_ended)) refl),
      λ i g others P Q h len yes_is no_is.
          let b = c.args.pick in
          let is : c.telling-in_default.result ≡ told_or (count_from 0 c.args.others) b
          (kept.Branch b, (if b then c.args.yes_ended else c.args.no_ended)) = cc in
          moves_as (IfLead i g others P Q) b h refl is
          (choice_else i g others P Q c.args.others c.args.yes_ended c.args.no_ended len yes_is no_is
          c.args.mark.now b h c.in_default.not-Telling),
    )
