-- A mark says where a process goes on.
use Rattle.std.proofs.Common.{◌+◌, ◌++◌, ◌∷◌, ◌≤◌, [], length, sym, ap, ◌∙◌, subst, arith}
use Rattle.std.proofs.lemmas.Grind.{common_steps}
use Rattle.std.proofs.lemmas.List.{append-nil}
use Rattle.std.specs.Vec.{vec_capacity}
use Rattle.flat_role.proofs.EnterLemmas.{IsHere, both_added, enters_itself, enters_nothing, enters_one, enters_still, enters_two, is_here, not_new, room_first, room_second, runs_alone}
use Rattle.flat_role.specs.PlanMarks.{places_at}
use Rattle.flat_role.proofs.entering.+enter.Goals as goal

pub enter_still-requires-clause-room : goal.enter_still-requires-clause-room
enter_still-requires-clause-room t c =
    let plan = c.args.plan.now in
    let marks = c.args.marks.now in
    let items = c.args.places.now.items in
    let k = c.index-marks-place.result in
    let o = c.op_at-op.result.now in
    let here : IsHere plan marks c.args.place k o =
    is_here plan marks c.args.place k o c.requires.inside c.requires.as_long c.index-marks-place.is c.op_at-op.ensures.is c.op_at-op.ensures.stands in
    subst (λ xs. length items + length xs ≤ vec_capacity c.args.places.now)
    (enters_still c.args.me.now plan marks c.args.place k o here c.in-Untouched.is) c.requires.room

pub returns-in-Untouched-clause-entered : goal.returns-in-Untouched-clause-entered
returns-in-Untouched-clause-entered t c =
    let plan = c.args.plan.now in
    let marks = c.args.marks.now in
    let items = c.args.places.now.items in
    let k = c.index-marks-place.result in
    let o = c.op_at-op.result.now in
    let here : IsHere plan marks c.args.place k o =
    is_here plan marks c.args.place k o c.requires.inside c.requires.as_long c.index-marks-place.is c.op_at-op.ensures.is c.op_at-op.ensures.stands in
    c.enter_still.ensures.entered
    ∙ ap (λ xs. items ++ xs) (sym (enters_still c.args.me.now plan marks c.args.place k o here c.in-Untouched.is))

pub push_reserved-requires : goal.push_reserved-requires
push_reserved-requires t c =
    let plan = c.args.plan.now in
    let marks = c.args.marks.now in
    let items = c.args.places.now.items in
    let k = c.index-marks-place.result in
    let o = c.op_at-op.result.now in
    let here : IsHere plan marks c.args.place k o =
    is_here plan marks c.args.place k o c.requires.inside c.requires.as_long c.index-marks-place.is c.op_at-op.ensures.is c.op_at-op.ensures.stands in
    let run = c.in-Zero.ensures.run in
    let is = c.is_over_at.ensures.alone (runs_alone plan marks c.args.place k o here run) in
    let itself = enters_itself c.args.me.now plan marks c.args.place k o here run (not_new k c.in_default.not-Untouched) c.is_over_at.result c.if-not-is_over_at.true is in
    let room : length items + length (c.args.place ∷ []) ≤ vec_capacity c.args.places.now =
    subst (λ xs. length items + length xs ≤ vec_capacity c.args.places.now) itself c.requires.room in
    grind (arith, common_steps, room)

pub returns-then-not-is_over_at-clause-entered : goal.returns-then-not-is_over_at-clause-entered
returns-then-not-is_over_at-clause-entered t c =
    let plan = c.args.plan.now in
    let marks = c.args.marks.now in
    let items = c.args.places.now.items in
    let k = c.index-marks-place.result in
    let o = c.op_at-op.result.now in
    let here : IsHere plan marks c.args.place k o =
    is_here plan marks c.args.place k o c.requires.inside c.requires.as_long c.index-marks-place.is c.op_at-op.ensures.is c.op_at-op.ensures.stands in
    let run = c.in-Zero.ensures.run in
    let is = c.is_over_at.ensures.alone (runs_alone plan marks c.args.place k o here run) in
    let itself = enters_itself c.args.me.now plan marks c.args.place k o here run (not_new k c.in_default.not-Untouched) c.is_over_at.result c.if-not-is_over_at.true is in
    c.push_reserved.ensures.items ∙ ap (λ xs. items ++ xs) (sym itself)

pub returns-else-not-is_over_at-clause-entered : goal.returns-else-not-is_over_at-clause-entered
returns-else-not-is_over_at-clause-entered t c =
    let plan = c.args.plan.now in
    let marks = c.args.marks.now in
    let items = c.args.places.now.items in
    let k = c.index-marks-place.result in
    let o = c.op_at-op.result.now in
    let here : IsHere plan marks c.args.place k o =
    is_here plan marks c.args.place k o c.requires.inside c.requires.as_long c.index-marks-place.is c.op_at-op.ensures.is c.op_at-op.ensures.stands in
    let run = c.in-Zero.ensures.run in
    let is = c.is_over_at.ensures.alone (runs_alone plan marks c.args.place k o here run) in
    let none = enters_nothing c.args.me.now plan marks c.args.place k o here run (not_new k c.in_default.not-Untouched) c.is_over_at.result c.if-not-is_over_at.false is in
    sym (append-nil items) ∙ ap (λ xs. items ++ xs) (sym none)

pub enter-requires : goal.enter-requires
enter-requires t c =
    let plan = c.args.plan.now in
    let marks = c.args.marks.now in
    let items = c.args.places.now.items in
    let k = c.index-marks-place.result in
    let o = c.op_at-op.result.now in
    let here : IsHere plan marks c.args.place k o =
    is_here plan marks c.args.place k o c.requires.inside c.requires.as_long c.index-marks-place.is c.op_at-op.ensures.is c.op_at-op.ensures.stands in
    let one = enters_one c.args.me.now plan marks c.args.place k o here c.in-One.part c.in-One.ensures.run in
    let below = c.in-One.ensures.below c.args.place c.op_at-op.ensures.earlier in (
      omega (arith, c.decreases, below.0),
      (
        omega (arith, c.requires.inside, below.0),
        (
          c.requires.as_long,
          subst (λ xs. length items + length xs ≤ vec_capacity c.args.places.now) one c.requires.room,
        ),
      ),
    )

pub returns-in-One-clause-entered : goal.returns-in-One-clause-entered
returns-in-One-clause-entered t c =
    let plan = c.args.plan.now in
    let marks = c.args.marks.now in
    let items = c.args.places.now.items in
    let k = c.index-marks-place.result in
    let o = c.op_at-op.result.now in
    let here : IsHere plan marks c.args.place k o =
    is_here plan marks c.args.place k o c.requires.inside c.requires.as_long c.index-marks-place.is c.op_at-op.ensures.is c.op_at-op.ensures.stands in
    let one = enters_one c.args.me.now plan marks c.args.place k o here c.in-One.part c.in-One.ensures.run in
    c.enter.ensures.entered ∙ ap (λ xs. items ++ xs) (sym one)

pub enter-requires-in-Two : goal.enter-requires-in-Two
enter-requires-in-Two t c =
    let plan = c.args.plan.now in
    let marks = c.args.marks.now in
    let items = c.args.places.now.items in
    let k = c.index-marks-place.result in
    let o = c.op_at-op.result.now in
    let here : IsHere plan marks c.args.place k o =
    is_here plan marks c.args.place k o c.requires.inside c.requires.as_long c.index-marks-place.is c.op_at-op.ensures.is c.op_at-op.ensures.stands in
    let both = enters_two c.args.me.now plan marks c.args.place k o here c.in-Two.left c.in-Two.right c.in-Two.ensures.run in
    let below = c.in-Two.ensures.below c.args.place c.op_at-op.ensures.earlier in
    let left = places_at c.args.me.now plan marks c.in-Two.left in
    let right = places_at c.args.me.now plan marks c.in-Two.right in
    let whole = places_at c.args.me.now plan marks c.args.place in (
      omega (arith, c.decreases, below.0),
      (
        omega (arith, c.requires.inside, below.0),
        (c.requires.as_long, room_first items left right whole (vec_capacity c.args.places.now) c.requires.room both),
      ),
    )

pub enter-requires-in-Two-2 : goal.enter-requires-in-Two-2
enter-requires-in-Two-2 t c =
    let plan = c.args.plan.now in
    let marks = c.args.marks.now in
    let items = c.args.places.now.items in
    let k = c.index-marks-place.result in
    let o = c.op_at-op.result.now in
    let here : IsHere plan marks c.args.place k o =
    is_here plan marks c.args.place k o c.requires.inside c.requires.as_long c.index-marks-place.is c.op_at-op.ensures.is c.op_at-op.ensures.stands in
    let both = enters_two c.args.me.now plan marks c.args.place k o here c.in-Two.left c.in-Two.right c.in-Two.ensures.run in
    let below = c.in-Two.ensures.below c.args.place c.op_at-op.ensures.earlier in
    let left = places_at c.args.me.now plan marks c.in-Two.left in
    let right = places_at c.args.me.now plan marks c.in-Two.right in
    let whole = places_at c.args.me.now plan marks c.args.place in (
      omega (arith, c.decreases, below.1.0),
      (
        omega (arith, c.requires.inside, below.1.0),
        (
          c.requires.as_long,
          room_second items c.enter-in-Two.new.places.items left right whole (vec_capacity c.args.places.now) (vec_capacity c.enter-in-Two.new.places)
              c.requires.room both c.enter-in-Two.ensures.entered c.enter-in-Two.ensures.capacity,
        ),
      ),
    )

pub returns-in-Two-clause-entered : goal.returns-in-Two-clause-entered
returns-in-Two-clause-entered t c =
    let plan = c.args.plan.now in
    let marks = c.args.marks.now in
    let items = c.args.places.now.items in
    let k = c.index-marks-place.result in
    let o = c.op_at-op.result.now in
    let here : IsHere plan marks c.args.place k o =
    is_here plan marks c.args.place k o c.requires.inside c.requires.as_long c.index-marks-place.is c.op_at-op.ensures.is c.op_at-op.ensures.stands in
    let both = enters_two c.args.me.now plan marks c.args.place k o here c.in-Two.left c.in-Two.right c.in-Two.ensures.run in
    let below = c.in-Two.ensures.below c.args.place c.op_at-op.ensures.earlier in
    let left = places_at c.args.me.now plan marks c.in-Two.left in
    let right = places_at c.args.me.now plan marks c.in-Two.right in
    let whole = places_at c.args.me.now plan marks c.args.place in
    both_added items c.enter-in-Two.new.places.items c.enter-in-Two-2.new.places.items left right whole both c.enter-in-Two.ensures.entered c.enter-in-Two-2.ensures.entered
