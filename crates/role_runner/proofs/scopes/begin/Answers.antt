-- The begin of a scope that was prepared, committed and done.
use Rattle.std.proofs.Common.{sym, ap, ◌∙◌, subst}
use Rattle.dioc_terms.specs.KeptStores.{store_of}
use Rattle.dioc_terms.specs.Plain.{plain}
use Rattle.dpoc_process.specs.Acting.{acting_lead}
use Rattle.flat_role.specs.FlatStates.{local_of}
use Rattle.dpoc_process.specs.RoleSteps.{IsShown, IsStep}
use Rattle.net_core.specs.Scopes.{Tells}
use Rattle.role_runner.proofs.ScopeLemmas.{begin_can, begin_leaves, chosen, head_there, heads, led, tells}
use Rattle.role_runner.proofs.StepLemmas.{goes_on}
use Rattle.role_runner.proofs.TieLemmas.{if_err_at, if_ok_at, refused_leaves, refused_try, role_full}
use Rattle.role_runner.specs.Acts.{book_given}
use Rattle.stage.specs.Faults.{act_fault, role_fault}
use Rattle.stage.specs.Holds.{CommittedScope}
use Rattle.stage.specs.Seats.{RefusedFor}
use Rattle.turn_lock.specs.Words.{view}
use Rattle.role_runner.proofs.scopes.begin.Goals as goal

pub into_head-head-requires : goal.into_head-head-requires
into_head-head-requires g c =
    let shown = subst (λ a. IsShown (local_of c.args.state.now) a c.args.shown) c.requires.scope.1 c.requires.shown in
    head_there c.leaders_tell.ensures (plain c.args.actor.now.bundle.now) c.args.actor.now.role.now (view c.args.seat) (local_of c.args.state.now) c.requires.tied c.requires.scope.0 c.args.shown shown

pub commit_scope-seat-requires-clause-can : goal.commit_scope-seat-requires-clause-can
commit_scope-seat-requires-clause-can g c =
    let shown = subst (λ a. IsShown (local_of c.args.state.now) a c.args.shown) c.requires.scope.1 c.requires.shown in
    begin_can c.leaders_tell.ensures (plain c.args.actor.now.bundle.now) c.args.actor.now.role.now (view c.args.seat) (local_of c.args.state.now) c.requires.tied c.requires.scope.0 c.args.shown shown c.into_head-head.result c.into_head-head.ensures _ c.store.ensures

pub go_on-requires-clause-led : goal.go_on-requires-clause-led
go_on-requires-clause-led g c =
    let s = local_of c.args.state.now in
    let shown = subst (λ a. IsShown s a c.args.shown) c.requires.scope.1 c.requires.shown in
    let lead = led c.leaders_tell.ensures (plain c.args.actor.now.bundle.now) c.args.actor.now.role.now (view c.args.seat) (local_of c.args.state.now) c.requires.tied c.requires.scope.0 c.args.shown shown in
    (lead.0, ap (acting_lead s) c.requires.scope.1 ∙ lead.1, heads c.leaders_tell.ensures (plain c.args.actor.now.bundle.now) c.args.actor.now.role.now (view c.args.seat) (local_of c.args.state.now) c.requires.tied c.requires.scope.0 c.args.shown shown c.into_head-head.result c.into_head-head.ensures)

pub go_on-requires-clause-tells : goal.go_on-requires-clause-tells
go_on-requires-clause-tells g c =
    let s = local_of c.args.state.now in
    let shown = subst (λ a. IsShown s a c.args.shown) c.requires.scope.1 c.requires.shown in
    subst (Tells c.args.actor.now.bundle.now.cast s) (sym c.requires.scope.1) (tells c.leaders_tell.ensures (plain c.args.actor.now.bundle.now) c.args.actor.now.role.now (view c.args.seat) (local_of c.args.state.now) c.requires.tied c.requires.scope.0 c.args.shown shown)

pub returns-in-Ok-go_on-clause-leaves : goal.returns-in-Ok-go_on-clause-leaves
returns-in-Ok-go_on-clause-leaves g c =
    let s = local_of c.args.state.now in
    let v = view c.args.seat in
    let w = view c.commit_scope-seat.result.0 in
    let head = c.into_head-head.result in
    let shown = subst (λ a. IsShown s a c.args.shown) c.requires.scope.1 c.requires.shown in
    let done = subst (λ t. CommittedScope v w head t c.in-Ok.update) c.store.ensures
    (if_ok_at (λ update. CommittedScope v w head (store_of c.store.result.now) update) c.commit_scope-seat.result.1 c.in-Ok.update c.commit_scope-seat.ensures.done c.in-Ok.is) in
    let N = done.done.added.found.sound.network in
    begin_leaves c.leaders_tell.ensures (plain c.args.actor.now.bundle.now) c.args.actor.now.role.now (view c.args.seat) s c.requires.tied c.requires.scope.0 c.args.shown shown head c.into_head-head.ensures w c.in-Ok.update done (local_of c.go_on.new.state)
    (subst (λ a. IsStep s a (book_given (plain c.args.actor.now.bundle.now) N.book N.updates s.store) (local_of c.go_on.new.state)) c.requires.scope.1
    (c.in-Ok-go_on.ensures.steps N.book N.updates (chosen c.leaders_tell.ensures (plain c.args.actor.now.bundle.now) c.args.actor.now.role.now (view c.args.seat) s c.requires.tied c.requires.scope.0 c.args.shown shown head c.into_head-head.ensures w c.in-Ok.update done)))

pub returns-clause-leaves : goal.returns-clause-leaves
returns-clause-leaves g c =
    let w = view c.commit_scope-seat.result.0 in
    refused_leaves (plain c.args.actor.now.bundle.now) c.args.actor.now.role.now (view c.args.seat) (local_of c.args.state.now) c.requires.tied role_fault w c.in-Err.fault
    (goes_on c.offers_are_steps.ensures (local_of c.args.state.now) c.args.act.now c.requires.shown.can_act) role_full
    (if_err_at (RefusedFor role_fault (view c.args.seat) w) c.commit_scope-seat.result.1 c.in-Err.fault c.commit_scope-seat.ensures.refused c.in-Err.is)

pub returns-clause-refused : goal.returns-clause-refused
returns-clause-refused g c =
    let w = view c.commit_scope-seat.result.0 in
    refused_try c.args.act.now role_fault (view c.args.seat) w (local_of c.args.state.now) c.in-Err.fault (ap act_fault c.requires.scope.1)
    (if_err_at (RefusedFor role_fault (view c.args.seat) w) c.commit_scope-seat.result.1 c.in-Err.fault c.commit_scope-seat.ensures.refused c.in-Err.is)
