-- What a role does alone, prepared and committed.
use Rattle.std.proofs.Common.{◌≡◌, sym, subst}
use Rattle.std.specs.Prelude.{Err, Ok}
use Rattle.dioc_terms.specs.Plain.{plain}
use Rattle.dpoc_process.specs.declared.runs.Got.{Got as GotValue}
use Rattle.dpoc_process.specs.declared.runs.Got.TheVariants as got
use Rattle.flat_role.specs.FlatStates.{local_of}
use Rattle.role_runner.proofs.ActLemmas.{alone_can, alone_committed, alone_entry}
use Rattle.role_runner.proofs.StepLemmas.{goes_on}
use Rattle.role_runner.proofs.TieLemmas.{alone_fault, err_each, if_err_at, if_ok_at, ok_each, role_full, uncommitted}
use Rattle.role_runner.specs.Ties.{IsCommitted, IsUncommitted}
use Rattle.stage.specs.Faults.{role_fault}
use Rattle.stage.specs.Seats.{CommittedOwn, RefusedFor}
use Rattle.turn_lock.specs.Words.{view}
use Rattle.role_runner.proofs.acting.alone.Goals as goal

pub into_entry-entry-requires : goal.into_entry-entry-requires
into_entry-entry-requires g c =
    alone_entry c.term_laws.ensures c.offers_are_steps.ensures c.steps_show_their_acts.ensures (plain c.args.actor.now.bundle.now) c.requires.sound c.args.actor.now.role.now (view c.args.seat) (local_of c.args.state.now) c.requires.tied
    c.args.act.now c.args.shown c.requires.shown c.requires.alone

pub commit_alone-seat-requires-clause-shows : goal.commit_alone-seat-requires-clause-shows
commit_alone-seat-requires-clause-shows g c =
    (alone_can c.term_laws.ensures c.offers_are_steps.ensures c.steps_show_their_acts.ensures (plain c.args.actor.now.bundle.now) c.requires.sound c.args.actor.now.role.now (view c.args.seat) (local_of c.args.state.now) c.requires.tied
    c.args.act.now c.args.shown c.requires.shown c.requires.alone c.into_entry-entry.result c.into_entry-entry.ensures).0

pub commit_alone-seat-requires-clause-can : goal.commit_alone-seat-requires-clause-can
commit_alone-seat-requires-clause-can g c =
    (alone_can c.term_laws.ensures c.offers_are_steps.ensures c.steps_show_their_acts.ensures (plain c.args.actor.now.bundle.now) c.requires.sound c.args.actor.now.role.now (view c.args.seat) (local_of c.args.state.now) c.requires.tied
    c.args.act.now c.args.shown c.requires.shown c.requires.alone c.into_entry-entry.result c.into_entry-entry.ensures).1

pub returns-clause-done : goal.returns-clause-done
returns-clause-done g c =
    let bundle = plain c.args.actor.now.bundle.now in
    let q = c.args.actor.now.role.now in
    let s = local_of c.args.state.now in
    let v = view c.args.seat in
    let w = view c.commit_alone-seat.result.0 in
    let entry = c.into_entry-entry.result in
    ok_each (IsCommitted bundle q v w s c.args.act.now) c.nothing.result (λ came there.
    let both = if_ok_at (λ (x : GotValue). (x ≡ got.Nothing) × (c.commit_alone-seat.result.1 ≡ Ok tt)) c.nothing.result came c.nothing.ensures.done there in
    let done = if_ok_at (λ _. CommittedOwn role_fault v w entry) c.commit_alone-seat.result.1 tt c.commit_alone-seat.ensures.done both.1 in
    subst (IsCommitted bundle q v w s c.args.act.now) (sym both.0)
    (alone_committed c.term_laws.ensures c.offers_are_steps.ensures c.steps_show_their_acts.ensures bundle c.requires.sound q v s c.requires.tied c.args.act.now c.args.shown c.requires.shown c.requires.alone entry c.into_entry-entry.ensures w done))

pub returns-clause-refused : goal.returns-clause-refused
returns-clause-refused g c =
    let bundle = plain c.args.actor.now.bundle.now in
    let q = c.args.actor.now.role.now in
    let s = local_of c.args.state.now in
    let v = view c.args.seat in
    let w = view c.commit_alone-seat.result.0 in
    err_each (IsUncommitted bundle q v w s c.args.act.now) c.nothing.result (λ f there.
    let refused = if_err_at (RefusedFor role_fault v w) c.commit_alone-seat.result.1 f c.commit_alone-seat.ensures.refused
    (if_err_at (λ e. c.commit_alone-seat.result.1 ≡ Err e) c.nothing.result f c.nothing.ensures.refused there) in
    uncommitted bundle q v w s c.args.act.now f role_fault c.requires.tied (goes_on c.offers_are_steps.ensures s c.args.act.now c.requires.shown.can_act) role_full (alone_fault c.args.act.now c.requires.alone) refused)
