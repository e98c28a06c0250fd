-- The act that was prepared is committed, and what the commit brings is what its step takes.
use Rattle.std.proofs.Common.{◌≡◌, Some, IsSome, refl, sym, ap, ◌∙◌, subst}
use Rattle.std.specs.Prelude.{Err, Ok}
use Rattle.dioc_terms.specs.declared.entries.Act.TheVariants as act
use Rattle.dioc_terms.specs.declared.processes.Payload.{Payload}
use Rattle.dioc_terms.specs.Plain.{plain}
use Rattle.dioc_terms.specs.Processes.{load}
use Rattle.dpoc_process.specs.declared.runs.Got.{Got as GotValue}
use Rattle.dpoc_process.specs.declared.runs.Got.TheVariants as got
use Rattle.dpoc_process.specs.RoleSteps.{IsShown}
use Rattle.flat_role.specs.FlatStates.{local_of}
use Rattle.marked_laws.proofs.Shapes.{some_same}
use Rattle.process_steps.specs.Steps.{Alone, Got, Puts, Takes}
use Rattle.role_runner.proofs.ActLemmas.{put_can, put_committed, put_is, put_sends, take_can, take_committed}
use Rattle.role_runner.proofs.StepLemmas.{goes_on, take_key, take_shown}
use Rattle.role_runner.proofs.TieLemmas.{err_each, if_err_at, if_ok_at, ok_each, role_full, take_full, uncommitted}
use Rattle.role_runner.specs.Ties.{IsCommitted, IsUncommitted}
use Rattle.stage.specs.Faults.{act_fault, role_fault, take_fault}
use Rattle.stage.specs.Seats.{Committed, RefusedFor}
use Rattle.turn_lock.specs.Words.{view}
use Rattle.role_runner.proofs.acting.on_stage.Goals as goal

pub into_put-key-requires : goal.into_put-key-requires
into_put-key-requires g c =
    put_sends c.term_laws.ensures c.offers_are_steps.ensures c.steps_show_their_acts.ensures (plain c.args.actor.now.bundle.now) c.requires.sound c.args.actor.now.role.now (view c.args.seat) (local_of c.args.state.now) c.requires.tied
    c.in-Put.field-0 c.args.shown (subst (λ a. IsShown (local_of c.args.state.now) a c.args.shown) c.in-Put.is c.requires.shown)

pub commit_put-seat-requires-clause-can : goal.commit_put-seat-requires-clause-can
commit_put-seat-requires-clause-can g c =
    let is : c.args.act.now ≡ act.Put c.into_put-key.result.0 = c.in-Put.is ∙ ap (λ k. act.Put k) (sym (c.into_put-key.ensures.key c.in-Put.field-0 _
    (put_is c.term_laws.ensures c.offers_are_steps.ensures c.steps_show_their_acts.ensures (plain c.args.actor.now.bundle.now) c.requires.sound c.args.actor.now.role.now (view c.args.seat) (local_of c.args.state.now) c.requires.tied
    c.in-Put.field-0 c.args.shown (subst (λ a. IsShown (local_of c.args.state.now) a c.args.shown) c.in-Put.is c.requires.shown)).4)) in
    put_can c.term_laws.ensures c.offers_are_steps.ensures c.steps_show_their_acts.ensures (plain c.args.actor.now.bundle.now) c.requires.sound c.args.actor.now.role.now (view c.args.seat) (local_of c.args.state.now) c.requires.tied
    c.into_put-key.result.0 c.args.shown (subst (λ a. IsShown (local_of c.args.state.now) a c.args.shown) is c.requires.shown) c.into_put-key.result.1 c.into_put-key.ensures.message

pub returns-in-Put-clause-done : goal.returns-in-Put-clause-done
returns-in-Put-clause-done g c =
    let bundle = plain c.args.actor.now.bundle.now in
    let q = c.args.actor.now.role.now in
    let s = local_of c.args.state.now in
    let v = view c.args.seat in
    let w = view c.commit_put-seat.result.0 in
    let key = c.into_put-key.result.0 in
    let payload = c.into_put-key.result.1 in
    let is : c.args.act.now ≡ act.Put key = c.in-Put.is ∙ ap (λ k. act.Put k) (sym (c.into_put-key.ensures.key c.in-Put.field-0 _
    (put_is c.term_laws.ensures c.offers_are_steps.ensures c.steps_show_their_acts.ensures (plain c.args.actor.now.bundle.now) c.requires.sound c.args.actor.now.role.now (view c.args.seat) (local_of c.args.state.now) c.requires.tied
    c.in-Put.field-0 c.args.shown (subst (λ a. IsShown (local_of c.args.state.now) a c.args.shown) c.in-Put.is c.requires.shown)).4)) in
    let shown = subst (λ a. IsShown s a c.args.shown) is c.requires.shown in
    ok_each (IsCommitted bundle q v w s c.args.act.now) c.nothing.result (λ came there.
    let both = if_ok_at (λ (x : GotValue). (x ≡ got.Nothing) × (c.commit_put-seat.result.1 ≡ Ok tt)) c.nothing.result came c.nothing.ensures.done there in
    let done = if_ok_at (λ _. Committed role_fault v w key.from (act.Put key) Alone (Puts key (load payload))) c.commit_put-seat.result.1 tt c.commit_put-seat.ensures.done both.1 in
    subst (IsCommitted bundle q v w s c.args.act.now) (sym both.0) (subst (λ a. IsCommitted bundle q v w s a got.Nothing) (sym is)
    (put_committed c.term_laws.ensures c.offers_are_steps.ensures c.steps_show_their_acts.ensures bundle c.requires.sound q v s c.requires.tied key c.args.shown shown payload c.into_put-key.ensures.message w done)))

pub returns-in-Put-clause-refused : goal.returns-in-Put-clause-refused
returns-in-Put-clause-refused g c =
    let bundle = plain c.args.actor.now.bundle.now in
    let q = c.args.actor.now.role.now in
    let s = local_of c.args.state.now in
    let v = view c.args.seat in
    let w = view c.commit_put-seat.result.0 in
    let is : c.args.act.now ≡ act.Put c.into_put-key.result.0 = c.in-Put.is ∙ ap (λ k. act.Put k) (sym (c.into_put-key.ensures.key c.in-Put.field-0 _
    (put_is c.term_laws.ensures c.offers_are_steps.ensures c.steps_show_their_acts.ensures (plain c.args.actor.now.bundle.now) c.requires.sound c.args.actor.now.role.now (view c.args.seat) (local_of c.args.state.now) c.requires.tied
    c.in-Put.field-0 c.args.shown (subst (λ a. IsShown (local_of c.args.state.now) a c.args.shown) c.in-Put.is c.requires.shown)).4)) in
    err_each (IsUncommitted bundle q v w s c.args.act.now) c.nothing.result (λ f there.
    let refused = if_err_at (RefusedFor role_fault v w) c.commit_put-seat.result.1 f c.commit_put-seat.ensures.refused
    (if_err_at (λ e. c.commit_put-seat.result.1 ≡ Err e) c.nothing.result f c.nothing.ensures.refused there) in
    uncommitted bundle q v w s c.args.act.now f role_fault c.requires.tied (goes_on c.offers_are_steps.ensures s c.args.act.now c.requires.shown.can_act) role_full (ap act_fault is) refused)

pub into_entry-requires : goal.into_entry-requires
into_entry-requires g c =
    let s = local_of c.args.state.now in
    let shown = take_shown c.offers_are_steps.ensures c.steps_show_their_acts.ensures s c.in-Take.field-0 c.args.shown (subst (λ a. IsShown s a c.args.shown) c.in-Take.is c.requires.shown) in
    subst IsSome (sym shown.1) refl

pub into_take-key-requires : goal.into_take-key-requires
into_take-key-requires g c =
    let s = local_of c.args.state.now in
    let shown = take_shown c.offers_are_steps.ensures c.steps_show_their_acts.ensures s c.in-Take.field-0 c.args.shown (subst (λ a. IsShown s a c.args.shown) c.in-Take.is c.requires.shown) in
    record { take = (c.in-Take.field-0, shown.0, some_same (sym c.into_entry.ensures ∙ shown.1)) }

pub commit_take-seat-requires-clause-can : goal.commit_take-seat-requires-clause-can
commit_take-seat-requires-clause-can g c =
    let s = local_of c.args.state.now in
    let key = c.into_take-key.result.0 in
    let entry = c.into_entry.ensures ∙ ap (λ e. Some e) c.into_take-key.ensures.take in
    let is : c.args.act.now ≡ act.Take key =
    take_key c.offers_are_steps.ensures c.steps_show_their_acts.ensures s c.args.act.now c.args.shown c.requires.shown c.in-Take.field-0 c.in-Take.is key c.into_take-key.result.1 entry in
    take_can c.term_laws.ensures c.offers_are_steps.ensures c.steps_show_their_acts.ensures (plain c.args.actor.now.bundle.now) c.requires.sound c.args.actor.now.role.now (view c.args.seat) s c.requires.tied
    key c.args.shown (subst (λ a. IsShown s a c.args.shown) is c.requires.shown) c.into_take-key.result.1 entry

pub returns-in-Take-clause-done : goal.returns-in-Take-clause-done
returns-in-Take-clause-done g c =
    let bundle = plain c.args.actor.now.bundle.now in
    let q = c.args.actor.now.role.now in
    let s = local_of c.args.state.now in
    let v = view c.args.seat in
    let w = view c.commit_take-seat.result.0 in
    let key = c.into_take-key.result.0 in
    let var = c.into_take-key.result.1 in
    let entry = c.into_entry.ensures ∙ ap (λ e. Some e) c.into_take-key.ensures.take in
    let is : c.args.act.now ≡ act.Take key =
    take_key c.offers_are_steps.ensures c.steps_show_their_acts.ensures s c.args.act.now c.args.shown c.requires.shown c.in-Take.field-0 c.in-Take.is key var entry in
    let shown = subst (λ a. IsShown s a c.args.shown) is c.requires.shown in
    ok_each (IsCommitted bundle q v w s c.args.act.now) c.message.result (λ came there.
    let both = if_ok_at (λ (x : GotValue). (p : Payload) × (x ≡ got.Payload p) × (c.commit_take-seat.result.1 ≡ Ok p)) c.message.result came c.message.ensures.done there in
    let done = if_ok_at (λ p. Committed (take_fault key) v w key.to (act.Take key) (Got (load p)) (Takes key var (load p))) c.commit_take-seat.result.1 both.0 c.commit_take-seat.ensures.done both.2 in
    subst (IsCommitted bundle q v w s c.args.act.now) (sym both.1) (subst (λ a. IsCommitted bundle q v w s a (got.Payload both.0)) (sym is)
    (take_committed c.term_laws.ensures c.offers_are_steps.ensures c.steps_show_their_acts.ensures bundle c.requires.sound q v s c.requires.tied key c.args.shown shown var w both.0 done)))

pub returns-in-Take-clause-refused : goal.returns-in-Take-clause-refused
returns-in-Take-clause-refused g c =
    let bundle = plain c.args.actor.now.bundle.now in
    let q = c.args.actor.now.role.now in
    let s = local_of c.args.state.now in
    let v = view c.args.seat in
    let w = view c.commit_take-seat.result.0 in
    let key = c.into_take-key.result.0 in
    let entry = c.into_entry.ensures ∙ ap (λ e. Some e) c.into_take-key.ensures.take in
    let is : c.args.act.now ≡ act.Take key =
    take_key c.offers_are_steps.ensures c.steps_show_their_acts.ensures s c.args.act.now c.args.shown c.requires.shown c.in-Take.field-0 c.in-Take.is key c.into_take-key.result.1 entry in
    err_each (IsUncommitted bundle q v w s c.args.act.now) c.message.result (λ f there.
    let refused = if_err_at (RefusedFor (take_fault key) v w) c.commit_take-seat.result.1 f c.commit_take-seat.ensures.refused
    (if_err_at (λ e. c.commit_take-seat.result.1 ≡ Err e) c.message.result f c.message.ensures.refused there) in
    uncommitted bundle q v w s c.args.act.now f (take_fault key) c.requires.tied (goes_on c.offers_are_steps.ensures s c.args.act.now c.requires.shown.can_act) (take_full key) (ap act_fault is) refused)
