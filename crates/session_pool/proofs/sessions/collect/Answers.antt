-- The claims that were joined are all, so no place is empty.
use Rattle.std.proofs.Common.{rules, ◌≡◌, ◌+◌, ◌∷◌, ◌++◌, [], length, sym, subst, arith, length-append}
use Rattle.std.specs.List.{AllByRecursion}
use Rattle.std.proofs.lemmas.Iterator.Adapters.{YieldsList-from_vec}
use Rattle.std.proofs.lemmas.Iterator.Consumers.{YieldsList-end}
use Rattle.session_pool.specs.Jobs.{IsWorkDone, expected}
use Rattle.session_pool.proofs.Lists.{ok_then}
use Rattle.session_pool.proofs.Placing.{no_places, places_right}
use Rattle.session_pool.proofs.Gathering.{Gathered, expected_length, none_gathered, one_gathered, all_answered, right_within}
use Rattle.session_pool.proofs.sessions.collect.Goals as goal

pub loop-job-init : goal.loop-job-init
loop-job-init g c =
    let order = c.args.order.now in
    let wanted = expected g.T.Made.made_of order in
    let places = c.in_ok-places.places.items in
    let many = expected_length g.T.Made.made_of order in
    let as_many : length places ≡ length wanted = (let count = c.in_ok-places.ensures.count in omega arith) in (
      none_gathered g.T.Made.seen c.args.tickets wanted c.args.first places c.requires.of c.requires.view (no_places g.T.Made.seen wanted places as_many c.in_ok-places.ensures.empty),
      subst (AllByRecursion (IsWorkDone g.T.Made.seen c.args.tickets wanted)) (sym c.into_iter-job-iterator.ensures.into_iter_gives.0) c.requires.done,
    )

pub place_all-requires : goal.place_all-requires
place_all-requires g c =
    let all = subst (AllByRecursion (IsWorkDone g.T.Made.seen c.args.tickets (expected g.T.Made.made_of c.args.order.now))) c.in-Some.ensures.steps.0 c.loop-job.invariant.1 in
    right_within g.T.Made.seen (expected g.T.Made.made_of c.args.order.now) (length c.loop-job.places.items) c.in-Some.job.made.items (sym c.loop-job.invariant.0.fits.as_many) all.0.worked.right

pub loop-job-preserved : goal.loop-job-preserved
loop-job-preserved g c =
    let all = subst (AllByRecursion (IsWorkDone g.T.Made.seen c.args.tickets (expected g.T.Made.made_of c.args.order.now))) c.in-Some.ensures.steps.0 c.loop-job.invariant.1 in
    let more : length c.loop-job.yielded + 1 ≡ length (c.loop-job.yielded ++ c.in-Some.job ∷ []) = omega (arith, length-append c.loop-job.yielded (c.in-Some.job ∷ [])) in (
      subst (λ n. Gathered g.T.Made.seen c.args.tickets (expected g.T.Made.made_of c.args.order.now) n c.join.new.drawer c.place_all.new.places.items) more
          (subst (Gathered g.T.Made.seen c.args.tickets (expected g.T.Made.made_of c.args.order.now) (length c.loop-job.yielded + 1) c.join.new.drawer) (sym c.place_all.ensures)
          (one_gathered g.T.Made.seen c.args.tickets (expected g.T.Made.made_of c.args.order.now) (length c.loop-job.yielded) c.loop-job.first c.join.new.drawer c.in-Some.job c.loop-job.places.items c.loop-job.invariant.0 all.0 c.join.ensures.of c.join.ensures.view)),
      all.1,
    )

pub take_all-requires : goal.take_all-requires
take_all-requires g c =
    let end = YieldsList-end (YieldsList-from_vec {s = c.into_iter-job-iterator.result} c.args.jobs.items (search rules) (search rules))
    c.loop-job.yielded c.loop-job.job-iterator c.loop-job.yielded_by c.next.result c.next.new.self c.in-None.is c.next.ensures.steps in
    let some = c.requires.some in
    all_answered g.T.Made.seen c.args.tickets (expected g.T.Made.made_of c.args.order.now) (length c.loop-job.yielded) c.close.result c.loop-job.first c.loop-job.places.items (omega (arith, end.1)) c.loop-job.invariant.0 c.close.ensures.once c.close.ensures.none

pub returns : goal.returns
returns g c = ok_then c.take_all.result (λ made are. places_right g.T.Made.seen (expected g.T.Made.made_of c.args.order.now) _ c.loop-job.places.items made.items c.loop-job.invariant.0.fits are) c.take_all.ensures
