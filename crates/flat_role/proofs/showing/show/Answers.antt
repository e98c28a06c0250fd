-- The store has the variables that it had before there was room.
use Rattle.std.proofs.Common.{subst}
use Rattle.dioc_terms.specs.Stores.{Store}
use Rattle.flat_role.specs.ReadySteps.{IsShownBy}
use Rattle.std.proofs.lemmas.Result.{IfOk-weaker}
use Rattle.flat_role.proofs.showing.show.Goals as goal

pub returns-in_default-clause-shown : goal.returns-in_default-clause-shown
returns-in_default-clause-shown c = λ a P fresh is.
    IfOk-weaker c.show_other.result _ _
    (λ p shown. subst (λ (s : Store). IsShownBy c.args.me.now s a P p) c.reserve.ensures.same shown)
    (c.show_other.ensures.shown a P fresh is)
