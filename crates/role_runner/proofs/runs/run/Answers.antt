-- The seats came back, so the stage closes, and its history is what the seats say of it.
use Rattle.std.proofs.Common.{◌≡◌, ◌≢◌, ◌∙◌, All, length, map, subst, sym}
use Rattle.dioc_terms.specs.Plain.{plain}
use Rattle.role_runner.proofs.CloseLemmas.{closed_is, closed_prompt, closed_run, distinct_cast, none_missing}
use Rattle.role_runner.proofs.RunLemmas.{run_ended, run_full, run_goes}
use Rattle.role_runner.proofs.TieLemmas.{if_err_at}
use Rattle.role_runner.proofs.EndLemmas.{if_some_at}
use Rattle.role_runner.specs.declared.threads.Ending.{Ending}
use Rattle.role_runner.specs.declared.threads.Ending.TheVariants as ending
use Rattle.role_runner.specs.Endings.{AllWent}
use Rattle.turn_lock.specs.Words.{view}
use Rattle.role_runner.proofs.runs.run.Goals as goal

apart_ended : ending.Ended ≡ ending.Memory → ⊥
apart_ended is = cc

apart_limit : ending.Limit ≡ ending.Memory → ⊥
apart_limit is = cc

not_memory_ended : {e : Ending} → e ≡ ending.Ended → e ≡ ending.Memory → ⊥
not_memory_ended is memory = apart_ended (sym is ∙ memory)

not_memory_limit : {e : Ending} → e ≡ ending.Limit → e ≡ ending.Memory → ⊥
not_memory_limit is memory = apart_limit (sym is ∙ memory)

pub unreachable-requires : goal.unreachable-requires
unreachable-requires g c =
    let went = subst (λ vs. AllWent vs (map view c.run_roles-seats.result.0.items)) c.in_ok-stage.ensures.views c.run_roles-seats.ensures.went in
    none_missing (plain c.args.bundle.now) c.args.limit c.run_roles-seats.result.0.items went (if_err_at (λ _. All (λ s. (view s).made ≢ length c.run_roles-seats.result.0.items) c.run_roles-seats.result.0.items) c.close.result c.in_default.field-0 c.close.ensures.missing c.in_default.is)

pub returns-in-Ended-clause-run : goal.returns-in-Ended-clause-run
returns-in-Ended-clause-run g c =
    let went = subst (λ vs. AllWent vs (map view c.run_roles-seats.result.0.items)) c.in_ok-stage.ensures.views c.run_roles-seats.ensures.went in
    closed_run (plain c.args.bundle.now) c.args.limit c.run_roles-seats.result.0.items went c.requires.sound c.in-Ok.history.entries c.in-Ok.ensures.closed c.in-Ok.ensures.begins

pub returns-in-Ended-clause-prompt : goal.returns-in-Ended-clause-prompt
returns-in-Ended-clause-prompt g c =
    let went = subst (λ vs. AllWent vs (map view c.run_roles-seats.result.0.items)) c.in_ok-stage.ensures.views c.run_roles-seats.ensures.went in
    closed_prompt (plain c.args.bundle.now) c.args.limit c.run_roles-seats.result.0.items went c.requires.sound c.in-Ok.history.entries c.in-Ok.ensures.closed c.in-Ok.ensures.begins

pub returns-in-Ended-clause-within : goal.returns-in-Ended-clause-within
returns-in-Ended-clause-within g c =
    let went = subst (λ vs. AllWent vs (map view c.run_roles-seats.result.0.items)) c.in_ok-stage.ensures.views c.run_roles-seats.ensures.went in
    (closed_is (plain c.args.bundle.now) c.args.limit c.run_roles-seats.result.0.items went c.requires.sound c.in-Ok.history.entries c.in-Ok.ensures.closed c.in-Ok.ensures.begins).within

pub returns-in-Ended-clause-ended : goal.returns-in-Ended-clause-ended
returns-in-Ended-clause-ended g c =
    let went = subst (λ vs. AllWent vs (map view c.run_roles-seats.result.0.items)) c.in_ok-stage.ensures.views c.run_roles-seats.ensures.went in
    sym (run_ended c.others_leave_alone.ensures (distinct_cast c.casts_are_roles.ensures) (plain c.args.bundle.now) c.args.limit (map view c.run_roles-seats.result.0.items) c.in-Ok.history.entries (closed_is (plain c.args.bundle.now) c.args.limit c.run_roles-seats.result.0.items went c.requires.sound c.in-Ok.history.entries c.in-Ok.ensures.closed c.in-Ok.ensures.begins) c.nothing_left.ensures ((if_some_at _ c.run_roles-seats.result.1 c.in-Some.ending c.run_roles-seats.ensures.ended c.in-Some.is (not_memory_ended c.in-Ended.is)).0 c.in-Ended.is))

pub returns-in-Limit-clause-run : goal.returns-in-Limit-clause-run
returns-in-Limit-clause-run g c =
    let went = subst (λ vs. AllWent vs (map view c.run_roles-seats.result.0.items)) c.in_ok-stage.ensures.views c.run_roles-seats.ensures.went in
    closed_run (plain c.args.bundle.now) c.args.limit c.run_roles-seats.result.0.items went c.requires.sound c.in-Ok.history.entries c.in-Ok.ensures.closed c.in-Ok.ensures.begins

pub returns-in-Limit-clause-prompt : goal.returns-in-Limit-clause-prompt
returns-in-Limit-clause-prompt g c =
    let went = subst (λ vs. AllWent vs (map view c.run_roles-seats.result.0.items)) c.in_ok-stage.ensures.views c.run_roles-seats.ensures.went in
    closed_prompt (plain c.args.bundle.now) c.args.limit c.run_roles-seats.result.0.items went c.requires.sound c.in-Ok.history.entries c.in-Ok.ensures.closed c.in-Ok.ensures.begins

pub returns-in-Limit-clause-within : goal.returns-in-Limit-clause-within
returns-in-Limit-clause-within g c =
    let went = subst (λ vs. AllWent vs (map view c.run_roles-seats.result.0.items)) c.in_ok-stage.ensures.views c.run_roles-seats.ensures.went in
    (closed_is (plain c.args.bundle.now) c.args.limit c.run_roles-seats.result.0.items went c.requires.sound c.in-Ok.history.entries c.in-Ok.ensures.closed c.in-Ok.ensures.begins).within

pub returns-in-Limit-clause-ended : goal.returns-in-Limit-clause-ended
returns-in-Limit-clause-ended g c =
    let went = subst (λ vs. AllWent vs (map view c.run_roles-seats.result.0.items)) c.in_ok-stage.ensures.views c.run_roles-seats.ensures.went in
    sym (run_goes c.others_leave_alone.ensures (distinct_cast c.casts_are_roles.ensures) (plain c.args.bundle.now) c.args.limit (map view c.run_roles-seats.result.0.items) c.in-Ok.history.entries (closed_is (plain c.args.bundle.now) c.args.limit c.run_roles-seats.result.0.items went c.requires.sound c.in-Ok.history.entries c.in-Ok.ensures.closed c.in-Ok.ensures.begins) ((if_some_at _ c.run_roles-seats.result.1 c.in-Some.ending c.run_roles-seats.ensures.limit c.in-Some.is (not_memory_limit c.in-Limit.is)).0 c.in-Limit.is))

pub returns-in-Limit-clause-full : goal.returns-in-Limit-clause-full
returns-in-Limit-clause-full g c =
    let went = subst (λ vs. AllWent vs (map view c.run_roles-seats.result.0.items)) c.in_ok-stage.ensures.views c.run_roles-seats.ensures.went in
    λ _. run_full c.others_leave_alone.ensures (distinct_cast c.casts_are_roles.ensures) (plain c.args.bundle.now) c.args.limit (map view c.run_roles-seats.result.0.items) c.in-Ok.history.entries (closed_is (plain c.args.bundle.now) c.args.limit c.run_roles-seats.result.0.items went c.requires.sound c.in-Ok.history.entries c.in-Ok.ensures.closed c.in-Ok.ensures.begins) ((if_some_at _ c.run_roles-seats.result.1 c.in-Some.ending c.run_roles-seats.ensures.limit c.in-Some.is (not_memory_limit c.in-Limit.is)).0 c.in-Limit.is)
