-- The mark is that of the status to which the place comes.
use Rattle.std.proofs.Common.{◌≡◌, ap, refl, sym, subst, ◌∙◌, arith}
use Rattle.std.proofs.lemmas.List.{get_or_read}
use Rattle.dpoc_process.specs.Handed.{given_like, handed}
use Rattle.flat_role.specs.declared.marks.Mark.TheVariants as kept
use Rattle.flat_role.specs.MovedMarks.{IsMovedTo, IsMoving}
use Rattle.flat_role.specs.PlanMarks.{low_at, mark_in, plan_marks, static_at}
use Rattle.flat_role.proofs.MineLemmas.{own_mine}
use Rattle.flat_role.proofs.advancing.go_on_itself.Goals as goal
use Rattle.role_statuses.specs.Local.{write}

pub returns-clause-moved : goal.returns-clause-moved
returns-clause-moved c = λ me s a d y goes.
    let plan = c.args.plan.now in
    let old = c.args.marks.now.items in
    let place = c.args.place in
    let P = static_at plan place in
    let h = handed c.args.got.now in
    let here : c.index.result.now ≡ mark_in old place =
    get_or_read old place c.index.result.now
    (omega (arith, c.requires.inside, c.requires.as_long)) c.index.ensures kept.Untouched in
    let moving : IsMoving me s a (given_like h) P (mark_in old place) c.args.own.now.pick h d y = record {
      acts = goes.leaf;
      stays = goes.own_mark;
      keeps = goes.stays;
      brings = refl;
      picks = goes.picks;
      moves = goes.moves;
    } in
    let to : IsMovedTo me P y c.moved-mark.result =
    c.moved-mark.ensures.moved me s a (given_like h) d y
    (subst (λ m. IsMoving me s a (given_like h) P m c.args.own.now.pick h d y) (sym here) moving) in
    record {
      written = c.write.ensures.written me
          ∙ ap (write (plan_marks me plan old) (low_at plan place) place P) (sym to.mark_is);
      over_is = sym to.over_is;
    }

pub returns-clause-mine : goal.returns-clause-mine
returns-clause-mine c = λ me mine. c.write.ensures.mine me mine
    (own_mine me c.moved-mark.result.0 c.moved-mark.ensures.own)
