-- A process of which nothing was done goes on in its parts.
use Rattle.std.proofs.Common.{◌≡◌, ◌+◌, ◌++◌, ◌≤◌, true, false, length, sym, ap, ◌∙◌, subst, arith}
use Rattle.std.specs.Vec.{vec_capacity}
use Rattle.flat_code.specs.declared.ops.Op.TheVariants as op
use Rattle.flat_role.proofs.EnterLemmas.{IsOpAt, both_added, room_first, room_second, still_at, still_both, still_first, still_second}
use Rattle.flat_role.specs.PlanMarks.{static_at}
use Rattle.process_steps.specs.Steps.{ended}
use Rattle.flat_role.proofs.entering.+enter_still.Goals as goal

pub enter_still-requires : goal.enter_still-requires
enter_still-requires t c =
    let plan = c.args.plan.now in
    let here : IsOpAt plan c.args.place (op.Seq c.in-Seq.first c.in-Seq.second) =
    subst (IsOpAt plan c.args.place) c.in-Seq.is (record { inside = c.requires.inside; op = c.op_at.ensures.is; stands = c.op_at.ensures.stands; earlier = c.op_at.ensures.earlier }) in
    let over : ended (static_at plan c.in-Seq.first) ≡ true =
    sym c.level.ensures.hangs.ended_is ∙ ap (λ l. l.ended) (sym c.level.ensures.is) ∙ c.if-level.true in (
      omega (arith, c.decreases, here.earlier.1.0),
      (
        omega (arith, c.requires.inside, here.earlier.1.0),
        subst (λ xs. length c.args.places.now.items + length xs ≤ vec_capacity c.args.places.now)
            (still_second plan c.args.place c.in-Seq.first c.in-Seq.second here over) c.requires.room,
      ),
    )

pub returns-then-level-clause-entered : goal.returns-then-level-clause-entered
returns-then-level-clause-entered t c =
    let plan = c.args.plan.now in
    let here : IsOpAt plan c.args.place (op.Seq c.in-Seq.first c.in-Seq.second) =
    subst (IsOpAt plan c.args.place) c.in-Seq.is (record { inside = c.requires.inside; op = c.op_at.ensures.is; stands = c.op_at.ensures.stands; earlier = c.op_at.ensures.earlier }) in
    let over : ended (static_at plan c.in-Seq.first) ≡ true =
    sym c.level.ensures.hangs.ended_is ∙ ap (λ l. l.ended) (sym c.level.ensures.is) ∙ c.if-level.true in
    c.enter_still.ensures.entered
    ∙ ap (λ xs. c.args.places.now.items ++ xs) (sym (still_second plan c.args.place c.in-Seq.first c.in-Seq.second here over))

pub enter_still-requires-in-Seq : goal.enter_still-requires-in-Seq
enter_still-requires-in-Seq t c =
    let plan = c.args.plan.now in
    let here : IsOpAt plan c.args.place (op.Seq c.in-Seq.first c.in-Seq.second) =
    subst (IsOpAt plan c.args.place) c.in-Seq.is (record { inside = c.requires.inside; op = c.op_at.ensures.is; stands = c.op_at.ensures.stands; earlier = c.op_at.ensures.earlier }) in
    let goes : ended (static_at plan c.in-Seq.first) ≡ false =
    sym c.level.ensures.hangs.ended_is ∙ ap (λ l. l.ended) (sym c.level.ensures.is) ∙ c.if-level.false in (
      omega (arith, c.decreases, here.earlier.0),
      (
        omega (arith, c.requires.inside, here.earlier.0),
        subst (λ xs. length c.args.places.now.items + length xs ≤ vec_capacity c.args.places.now)
            (still_first plan c.args.place c.in-Seq.first c.in-Seq.second here goes) c.requires.room,
      ),
    )

pub returns-else-level-clause-entered : goal.returns-else-level-clause-entered
returns-else-level-clause-entered t c =
    let plan = c.args.plan.now in
    let here : IsOpAt plan c.args.place (op.Seq c.in-Seq.first c.in-Seq.second) =
    subst (IsOpAt plan c.args.place) c.in-Seq.is (record { inside = c.requires.inside; op = c.op_at.ensures.is; stands = c.op_at.ensures.stands; earlier = c.op_at.ensures.earlier }) in
    let goes : ended (static_at plan c.in-Seq.first) ≡ false =
    sym c.level.ensures.hangs.ended_is ∙ ap (λ l. l.ended) (sym c.level.ensures.is) ∙ c.if-level.false in
    c.enter_still-in-Seq.ensures.entered
    ∙ ap (λ xs. c.args.places.now.items ++ xs) (sym (still_first plan c.args.place c.in-Seq.first c.in-Seq.second here goes))

pub enter_still-requires-in-Par : goal.enter_still-requires-in-Par
enter_still-requires-in-Par t c =
    let plan = c.args.plan.now in
    let here : IsOpAt plan c.args.place (op.Par c.in-Par.left c.in-Par.right) =
    subst (IsOpAt plan c.args.place) c.in-Par.is (record { inside = c.requires.inside; op = c.op_at.ensures.is; stands = c.op_at.ensures.stands; earlier = c.op_at.ensures.earlier }) in (
      omega (arith, c.decreases, here.earlier.0),
      (
        omega (arith, c.requires.inside, here.earlier.0),
        room_first c.args.places.now.items (still_at plan c.in-Par.left) (still_at plan c.in-Par.right) (still_at plan c.args.place) (vec_capacity c.args.places.now)
            c.requires.room (still_both plan c.args.place c.in-Par.left c.in-Par.right here),
      ),
    )

pub enter_still-requires-in-Par-2 : goal.enter_still-requires-in-Par-2
enter_still-requires-in-Par-2 t c =
    let plan = c.args.plan.now in
    let here : IsOpAt plan c.args.place (op.Par c.in-Par.left c.in-Par.right) =
    subst (IsOpAt plan c.args.place) c.in-Par.is (record { inside = c.requires.inside; op = c.op_at.ensures.is; stands = c.op_at.ensures.stands; earlier = c.op_at.ensures.earlier }) in (
      omega (arith, c.decreases, here.earlier.1.0),
      (
        omega (arith, c.requires.inside, here.earlier.1.0),
        room_second c.args.places.now.items c.enter_still-in-Par.new.places.items (still_at plan c.in-Par.left) (still_at plan c.in-Par.right) (still_at plan c.args.place)
            (vec_capacity c.args.places.now) (vec_capacity c.enter_still-in-Par.new.places) c.requires.room
            (still_both plan c.args.place c.in-Par.left c.in-Par.right here) c.enter_still-in-Par.ensures.entered c.enter_still-in-Par.ensures.capacity,
      ),
    )

pub returns-in-Par-clause-entered : goal.returns-in-Par-clause-entered
returns-in-Par-clause-entered t c =
    let plan = c.args.plan.now in
    let here : IsOpAt plan c.args.place (op.Par c.in-Par.left c.in-Par.right) =
    subst (IsOpAt plan c.args.place) c.in-Par.is (record { inside = c.requires.inside; op = c.op_at.ensures.is; stands = c.op_at.ensures.stands; earlier = c.op_at.ensures.earlier }) in
    both_added c.args.places.now.items c.enter_still-in-Par.new.places.items c.enter_still-in-Par-2.new.places.items (still_at plan c.in-Par.left) (still_at plan c.in-Par.right)
    (still_at plan c.args.place) (still_both plan c.args.place c.in-Par.left c.in-Par.right here) c.enter_still-in-Par.ensures.entered c.enter_still-in-Par-2.ensures.entered
