-- The mark is that of what came.
use Rattle.std.proofs.Common.{◌≡◌, ap, sym, subst, ◌∙◌, true}
use Rattle.dpoc_process.specs.Handed.{handed}
use Rattle.flat_role.specs.PlanMarks.{low_at, plan_marks, static_at}
use Rattle.flat_role.specs.Replacing.{IsRoom, replaces, replacing}
use Rattle.flat_role.proofs.advancing.put_other.Goals as goal
use Rattle.role_statuses.specs.Local.{write}
use Rattle.role_statuses.specs.Marks as marks
use Rattle.role_statuses.specs.Statuses.{Became, is_over}

pub returns-clause-put : goal.returns-clause-put
returns-clause-put c = λ me room comes.
    let plan = c.args.plan.now in
    let place = c.args.place in
    let P = static_at plan place in
    let is = subst (IsRoom me P) (sym c.into_inner.ensures) room in
    let came : handed c.replace.result ≡ handed c.args.got.now = ap handed c.replace.ensures.value in
    let fits = ap (replaces P) came ∙ comes in
    record {
      written = c.write.ensures.written me
          ∙ ap
          (write (plan_marks me plan c.args.marks.now.items) (low_at plan place) place P)
          (c.filled-mark.ensures.mark me P P is fits ∙ ap (λ h. marks.Became (replacing me P h)) came);
      over_is = c.filled-mark.ensures.over me P is fits ∙ ap (λ h. is_over me (Became (replacing me P h)) P) came;
    }

pub returns-clause-mine : goal.returns-clause-mine
returns-clause-mine c = λ me mine role. c.write.ensures.mine me mine
    (c.filled-mark.ensures.mine me (ap (λ r. r.me.value) c.into_inner.ensures ∙ role))
