-- What is made ready is of the part that does the act, which is there exactly where the process
-- offers the act.
use Rattle.std.proofs.Common.{◌≡◌, true, Err, ap}
use Rattle.std.specs.Prelude.{IsErrOf}
use Rattle.dioc_terms.specs.KeptStores.{store_of}
use Rattle.dioc_terms.specs.Processes.{process}
use Rattle.dpoc_process.proofs.StateLemmas.{offered_where_acting, not_offered, acting_nowhere, shows-prepared}
use Rattle.dpoc_process.specs.Acting.{acting}
use Rattle.dpoc_process.specs.KeptReady.{IsMade}
use Rattle.dpoc_process.specs.RoleLaws.{local}
use Rattle.process_steps.specs.Steps.{offers, is_offered}
use Rattle.dpoc_process.proofs.states.RoleStateRuns.prepare.Goals as goal

pub returns-in-Ok-clause-no_act : goal.returns-in-Ok-clause-no_act
returns-in-Ok-clause-no_act c =
    let me = c.args.self.now.role in
    let P = process c.args.self.now.proc in
    let offered : is_offered c.args.act.now (offers me P) ≡ true =
    offered_where_acting me c.args.act.now P c.in-Ok.ensures.made.is_found in
    (λ fault. cc, λ none. cc)

pub returns-in-Ok-clause-shown : goal.returns-in-Ok-clause-shown
returns-in-Ok-clause-shown c =
    let made : IsMade c.args.self.now.role (store_of c.args.self.now.store) c.args.act.now
    (acting c.args.self.now.role c.args.act.now (process c.args.self.now.proc)) c.in-Ok.ready
    c.in-Ok.prepared = c.in-Ok.ensures.made in
    shows-prepared c.args.self.now.role (store_of c.args.self.now.store) c.args.act.now
    (process c.args.self.now.proc) made.is_found made.shown

-- an error is the same whatever else could have come
same_fault : {T U E : Type 0} {e f : E} → IsErrOf {T = T} (Err e) f → IsErrOf {T = U} (Err e) f
same_fault h = cc

pub returns-in-Err-clause-no_act : goal.returns-in-Err-clause-no_act
returns-in-Err-clause-no_act c =
    let me = c.args.self.now.role in
    let P = process c.args.self.now.proc in (
      λ fault. not_offered me c.args.act.now P (c.in-Err.ensures.no_act.0 (same_fault fault)),
      λ none. same_fault (c.in-Err.ensures.no_act.1 (acting_nowhere me c.args.act.now P none)),
    )

pub returns-in-Err-clause-same : goal.returns-in-Err-clause-same
returns-in-Err-clause-same c =
    ap (local c.args.self.now.role (process c.args.self.now.proc)) c.make_ready.ensures.same
