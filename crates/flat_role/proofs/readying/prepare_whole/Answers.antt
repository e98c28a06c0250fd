-- What is shown is shown of the act, of which the copy is one.
use Rattle.std.proofs.Common.{sym, subst}
use Rattle.dioc_terms.specs.declared.entries.Act.{Act}
use Rattle.dioc_terms.specs.KeptStores.{store_of}
use Rattle.dpoc_process.specs.LocalStates.{LocalState}
use Rattle.dpoc_process.specs.RoleLaws.{local}
use Rattle.dpoc_process.specs.RoleSteps.{IsPrepared, IsShown}
use Rattle.flat_role.specs.Progress.{runs_by}
use Rattle.flat_role.proofs.readying.prepare_whole.Goals as goal

pub returns-in-Ok-with_act-clause-shown : goal.returns-in-Ok-with_act-clause-shown
returns-in-Ok-with_act-clause-shown c =
    let me = c.args.me.now in
    let s : LocalState = local me (runs_by me c.args.plan.now c.args.progress.now) (store_of c.args.store.now) in
    subst (λ (a : Act). IsPrepared s a c.in-Ok-with_act.prepared) c.in_ok-own.ensures
    (c.in-Ok-with_act.ensures s (subst (λ (a : Act). IsShown s a c.in-Ok.shown) (sym c.in_ok-own.ensures) c.in-Ok.ensures.shown))
