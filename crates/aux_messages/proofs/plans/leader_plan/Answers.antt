-- The plan has the keys of what is told.
use Rattle.std.proofs.Common.{◌≡◌, IfOk, subst}
use Rattle.aux_messages.proofs.PlanLemmas.{plan_is_told}
use Rattle.aux_messages.proofs.plans.leader_plan.Goals as goal

pub returns-clause-told : goal.returns-clause-told
returns-clause-told c = λ carries.
    subst (λ keys. IfOk c.keys_to.result (λ plan. plan.items ≡ keys)) (plan_is_told c.args.leader.now c.args.others.now c.args.index c.args.tag carries) c.keys_to.ensures
