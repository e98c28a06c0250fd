-- What is next at the place is next of the process, so what is shown of it is that of the process.
use Rattle.std.proofs.Common.{subst, sym}
use Rattle.std.proofs.lemmas.Result.{IfOk-weaker, on_ok_weaker}
use Rattle.dioc_terms.specs.KeptStores.{store_of}
use Rattle.dioc_terms.specs.Processes.{Process}
use Rattle.dioc_terms.specs.Stores.{Store}
use Rattle.dpoc_process.proofs.StateLemmas.{shows-shown}
use Rattle.dpoc_process.specs.RoleLaws.{local}
use Rattle.dpoc_process.specs.RoleSteps.{IsShown}
use Rattle.flat_role.specs.Progress.{runs_by}
use Rattle.flat_role.specs.ReadySteps.{IsOwnOf, IsShownBy}
use Rattle.flat_role.specs.Updates.{fresh_by}
use Rattle.flat_role.proofs.readying.prepare_found.Goals as goal

pub returns-clause-ready : goal.returns-clause-ready
returns-clause-ready c =
    let me = c.args.me.now in
    let plan = c.args.plan.now in
    let a = c.args.found.0.now in
    let new = c.make_ready.new.progress in
    let P = runs_by me plan new in
    let fresh = fresh_by new new.chosen in
    on_ok_weaker c.show.result
    (λ kept. record {
      own = kept.own;
      kept = kept.is;
      made = record {
        chosen = c.in_ok-make_ready.ensures.ready;
        made = subst (λ (s : Store). IsOwnOf me s a P fresh kept.own)
            (sym c.show.ensures.same_store) kept.made;
      };
    }) (c.show.ensures.own a P fresh c.next_of-next.ensures)

pub returns-clause-shown : goal.returns-clause-shown
returns-clause-shown c =
    let me = c.args.me.now in
    let plan = c.args.plan.now in
    let a = c.args.found.0.now in
    let s = store_of c.args.store.now in
    let old = runs_by me plan c.args.progress.now in
    let new = c.make_ready.new.progress in
    let P = runs_by me plan new in
    IfOk-weaker c.show.result (IsShownBy me s a P) (IsShown (local me old s) a)
    (λ p shown. subst (λ (R : Process). IsShown (local me R s) a p)
    c.make_ready.ensures.same (shows-shown me s a P shown.acts shown.shown))
    (c.show.ensures.shown a P (fresh_by new new.chosen) c.next_of-next.ensures)
