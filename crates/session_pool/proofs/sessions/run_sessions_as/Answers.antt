use Rattle.std.proofs.Common.{rules, ◌≡◌, true, subst}
use Rattle.std.specs.List.{AllByRecursion}
use Rattle.session_pool.proofs.Gathering.{all_are_done}
use Rattle.session_pool.proofs.sessions.run_sessions_as.Goals as goal

pub collect-requires-clause-done : goal.collect-requires-clause-done
collect-requires-clause-done g c κs within =
    all_are_done g.T.Made.seen c.in-Ok.tickets _ c.work_all-jobs.result.items c.work_all-jobs.ensures.done
    (subst (AllByRecursion (λ job. job.done ≡ true)) c.as_slice.ensures.value (let test = c.if-not-all_done.false in let all = c.if-not-all_done.ensures in search rules))
