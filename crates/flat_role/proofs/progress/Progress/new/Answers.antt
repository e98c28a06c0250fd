-- Nothing was done yet, and the places that can act are those of the whole.
use Rattle.std.proofs.Common.{◌≡◌, None, ◌+◌, ◌≤◌, ◌++◌, length, replicate, arith, ap, ap₂, ◌∙◌}
use Rattle.std.specs.Prelude.{vec_capacity}
use Rattle.std.proofs.lemmas.List.{length-replicate}
use Rattle.flat_role.specs.declared.marks.Mark.TheVariants as kept
use Rattle.flat_role.specs.PlanMarks.{places_at, plan_len}
use Rattle.flat_role.proofs.MineLemmas.{fresh_shallow, mine_fresh}
use Rattle.flat_role.proofs.ProgressLemmas.{begins, begins-with, few-places}
use Rattle.flat_role.proofs.progress.Progress.new.Goals as goal

pub enter-requires-clause-inside : goal.enter-requires-clause-inside
enter-requires-clause-inside c =
    let longer : plan_len c.args.plan.now ≡ c.args.plan.now.code.start + 1 = c.args.plan.now.longer in
    omega (arith, longer)

pub enter-requires-clause-as_long : goal.enter-requires-clause-as_long
enter-requires-clause-as_long c =
    ap length (c.as_slice.ensures.value ∙ c.in_ok-marks.ensures) ∙ length-replicate c.places-places.result kept.Untouched ∙ c.places-places.ensures

pub enter-requires-clause-room : goal.enter-requires-clause-room
enter-requires-clause-room c =
    let few : length (places_at c.args.me.now c.args.plan.now c.as_slice.result.now c.args.plan.now.code.start) ≤ plan_len c.args.plan.now =
    few-places c.args.me.now c.args.plan.now c.as_slice.result.now in
    let none : length c.in_ok-active.active.items ≡ 0 = ap length c.in_ok-active.ensures.items in
    let capacity : c.places-places.result ≤ vec_capacity c.in_ok-active.active = c.in_ok-active.ensures.capacity in
    let places : c.places-places.result ≡ plan_len c.args.plan.now = c.places-places.ensures in
    omega (arith, few, none, capacity, places)

pub returns-in-Ok-clause-is : goal.returns-in-Ok-clause-is
returns-in-Ok-clause-is c =
    let me = c.args.me.now in
    let plan = c.args.plan.now in
    let many : c.places-places.result ≡ plan_len plan = c.places-places.ensures in
    let capacity : c.places-places.result ≤ vec_capacity c.in_ok-active.active = c.in_ok-active.ensures.capacity in
    let same : vec_capacity c.enter.new.places ≡ vec_capacity c.in_ok-active.active = c.enter.ensures.capacity in
    let spare : c.places-places.result ≤ vec_capacity c.in-Ok.fresh = c.in-Ok.ensures.capacity in
    begins me plan _ (c.in_ok-marks.ensures ∙ ap (λ n. replicate n kept.Untouched) many)
    (c.enter.ensures.entered ∙ ap₂ (λ xs ms. xs ++ places_at me plan ms plan.code.start) c.in_ok-active.ensures.items c.as_slice.ensures.value)
    (omega (arith, many, capacity, same)) (omega (arith, many, spare))
    (mine_fresh me _ _ c.in_ok-marks.ensures)

pub returns-in-Ok-clause-shallow : goal.returns-in-Ok-clause-shallow
returns-in-Ok-clause-shallow c = fresh_shallow _ _ c.in_ok-marks.ensures

pub returns-in-Ok-clause-runs : goal.returns-in-Ok-clause-runs
returns-in-Ok-clause-runs c =
    begins-with c.args.me.now c.args.plan.now (record { marks = c.in_ok-marks.marks; active = c.enter.new.places; fresh = c.in-Ok.fresh; chosen = None })
    (c.in_ok-marks.ensures ∙ ap (λ n. replicate n kept.Untouched) c.places-places.ensures)
