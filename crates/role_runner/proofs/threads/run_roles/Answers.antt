-- The seats went to threads and came back, and what those left tells how the roles came to their end.
use Rattle.std.proofs.Common.{◌≡◌, ◌≢◌, ◌↔◌, Some, None, map, take, arith, length, refl, ap₂, ◌∙◌}
use Rattle.std.specs.Prelude.{if◌then◌else◌}
use Rattle.dioc_terms.specs.Plain.{plain}
use Rattle.role_runner.proofs.EndLemmas.{ended_exactly, limit_exactly, told_if}
use Rattle.role_runner.proofs.JobLemmas.{back_of, back_went, fresh_went, jobs_open, seats_many, were_left}
use Rattle.role_runner.specs.declared.threads.Ending.{Ending}
use Rattle.role_runner.specs.declared.threads.Ending.TheVariants as ending
use Rattle.role_runner.specs.Endings.{AllEnded, SomeCut}
use Rattle.role_runner.specs.Jobs.{ending_in}
use Rattle.turn_lock.specs.Words.{view}
use Rattle.role_runner.proofs.threads.run_roles.Goals as goal

pub returns-in_default-clause-went : goal.returns-in_default-clause-went
returns-in_default-clause-went g c = fresh_went (plain c.args.bundle.now, c.args.limit) (length c.args.bundle.now.cast) c.args.seats.items c.requires.fresh

pub run_jobs-jobs-requires-clause-opens : goal.run_jobs-jobs-requires-clause-opens
run_jobs-jobs-requires-clause-opens g c κs within = record {
  sound = c.requires.sound;
  few = c.requires.few;
  each = jobs_open c.args.stage.now (plain c.args.bundle.now) c.args.limit c.args.seats.items c.requires.of c.requires.fresh;
}

pub ending_if-ending-requires : goal.ending_if-ending-requires
ending_if-ending-requires g c =
    let many = seats_many c.args.stage.now (plain c.args.bundle.now) c.args.limit c.args.seats.items c.requires.of c.requires.fresh in
    let all = c.run_jobs-jobs.ensures.all in
    let same = c.as_slice.ensures.len in
    omega (arith, many, all, same)

pub returns-clause-of : goal.returns-clause-of
returns-clause-of g c =
    back_of c.args.stage.now (plain c.args.bundle.now) c.args.limit c.args.seats.items c.requires.of c.requires.fresh c.run_jobs-jobs.result.0.items c.run_jobs-jobs.ensures.all c.run_jobs-jobs.ensures.ends
    c.close_jobs.result.items c.close_jobs.ensures.seats

pub returns-clause-went : goal.returns-clause-went
returns-clause-went g c =
    back_went c.args.stage.now (plain c.args.bundle.now) c.args.limit c.args.seats.items c.requires.of c.requires.fresh c.run_jobs-jobs.result.0.items c.run_jobs-jobs.ensures.all c.run_jobs-jobs.ensures.ends
    c.close_jobs.result.items c.close_jobs.ensures.seats

pub returns-clause-ended : goal.returns-clause-ended
returns-clause-ended g c =
    let told = ending_in c.args.limit (take (length c.args.bundle.now.cast) c.run_jobs-jobs.result.0.items) in
    let is : c.ending_if-ending.result ≡ (if c.run_jobs-jobs.result.1 then Some told else None) =
    c.ending_if-ending.ensures
    ∙ ap₂ (λ n jobs. if c.run_jobs-jobs.result.1 then Some (ending_in c.args.limit (take n jobs)) else None)
    c.len-2.ensures c.as_slice.ensures.value in
    told_if (λ (e : Ending). e ≢ ending.Memory → ((e ≡ ending.Ended) ↔ AllEnded (plain c.args.bundle.now) (map view c.close_jobs.result.items))) c.run_jobs-jobs.result.1 c.ending_if-ending.result told is (λ (enough : told ≢ ending.Memory).
    ended_exactly c.args.stage.now (plain c.args.bundle.now) c.args.limit c.run_jobs-jobs.result.0.items (map view c.close_jobs.result.items)
    (were_left c.args.stage.now (plain c.args.bundle.now) c.args.limit c.args.seats.items c.requires.of c.requires.fresh c.run_jobs-jobs.result.0.items c.run_jobs-jobs.ensures.all c.run_jobs-jobs.ensures.ends
    c.close_jobs.result.items c.close_jobs.ensures.seats)
    told refl enough)

pub returns-clause-limit : goal.returns-clause-limit
returns-clause-limit g c =
    let told = ending_in c.args.limit (take (length c.args.bundle.now.cast) c.run_jobs-jobs.result.0.items) in
    let is : c.ending_if-ending.result ≡ (if c.run_jobs-jobs.result.1 then Some told else None) =
    c.ending_if-ending.ensures
    ∙ ap₂ (λ n jobs. if c.run_jobs-jobs.result.1 then Some (ending_in c.args.limit (take n jobs)) else None)
    c.len-2.ensures c.as_slice.ensures.value in
    told_if (λ (e : Ending). e ≢ ending.Memory → ((e ≡ ending.Limit) ↔ SomeCut (plain c.args.bundle.now) c.args.limit (map view c.close_jobs.result.items))) c.run_jobs-jobs.result.1 c.ending_if-ending.result told is (λ (enough : told ≢ ending.Memory).
    limit_exactly c.args.stage.now (plain c.args.bundle.now) c.args.limit c.run_jobs-jobs.result.0.items (map view c.close_jobs.result.items)
    (were_left c.args.stage.now (plain c.args.bundle.now) c.args.limit c.args.seats.items c.requires.of c.requires.fresh c.run_jobs-jobs.result.0.items c.run_jobs-jobs.ensures.all c.run_jobs-jobs.ensures.ends
    c.close_jobs.result.items c.close_jobs.ensures.seats)
    told refl enough)
