-- What was committed is done, and what was refused is left.
use Rattle.dioc_terms.specs.Plain.{plain}
use Rattle.flat_role.specs.FlatStates.{local_of}
use Rattle.role_runner.proofs.TieLemmas.{if_err_at, if_ok_at}
use Rattle.role_runner.specs.Ties.{IsCommitted, IsUncommitted}
use Rattle.turn_lock.specs.Words.{view}
use Rattle.role_runner.proofs.acting.commit.Goals as goal

pub advance-requires-clause-can : goal.advance-requires-clause-can
advance-requires-clause-can g c =
    let w = view c.on_stage-seat.result.0 in
    (if_ok_at (IsCommitted (plain c.args.actor.now.bundle.now) c.args.actor.now.role.now (view c.args.seat) w (local_of c.args.state.now) c.args.act.now) c.on_stage-seat.result.1 c.in-Ok.got
    c.on_stage-seat.ensures.done c.in-Ok.is).enabled

pub returns-in-Ok-clause-leaves : goal.returns-in-Ok-clause-leaves
returns-in-Ok-clause-leaves g c =
    let w = view c.on_stage-seat.result.0 in
    let done = if_ok_at (IsCommitted (plain c.args.actor.now.bundle.now) c.args.actor.now.role.now (view c.args.seat) w (local_of c.args.state.now) c.args.act.now) c.on_stage-seat.result.1 c.in-Ok.got
    c.on_stage-seat.ensures.done c.in-Ok.is in
    done.leaves (local_of c.advance.new.self) (c.advance.ensures.steps done.given done.brings)

pub returns-in-Err-clause-leaves : goal.returns-in-Err-clause-leaves
returns-in-Err-clause-leaves g c =
    let w = view c.on_stage-seat.result.0 in
    (if_err_at (IsUncommitted (plain c.args.actor.now.bundle.now) c.args.actor.now.role.now (view c.args.seat) w (local_of c.args.state.now) c.args.act.now) c.on_stage-seat.result.1 c.in-Err.fault
    c.on_stage-seat.ensures.refused c.in-Err.is).leaves

pub returns-in-Err-clause-refused : goal.returns-in-Err-clause-refused
returns-in-Err-clause-refused g c =
    let w = view c.on_stage-seat.result.0 in
    (if_err_at (IsUncommitted (plain c.args.actor.now.bundle.now) c.args.actor.now.role.now (view c.args.seat) w (local_of c.args.state.now) c.args.act.now) c.on_stage-seat.result.1 c.in-Err.fault
    c.on_stage-seat.ensures.refused c.in-Err.is).tried
