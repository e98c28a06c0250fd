use Rattle.std.proofs.Common.{◌∙◌, ap, map, rules}
use Rattle.std.proofs.lemmas.Result.{IfOk-weaker, on_ok_weaker}
use Rattle.dioc_terms.specs.Terms.{term}
use Rattle.projection.specs.Named.{names_inside, raised}
use Rattle.projection.proofs.Flags.{whole_named}
use Rattle.projection.proofs.Leading.{choice_at, choice_flags, leads_choice, leads_loop, leads_scope, loop_at, loop_flags, scope_at, scope_flags}
use Rattle.projection.proofs.projected.+project.Goals as goal

pub construct-returns-clause-named : goal.construct-returns-clause-named
construct-returns-clause-named t c =
    on_ok_weaker c.follow.result
    (λ flags.
    flags ∙ (ap (raised (map (λ q. names_inside q (term c.args.whole.now)) c.args.cast.now)) c.raise_own.ensures ∙ whole_named c.args.cast.now (term c.args.whole.now) c.args.named.now))
    c.follow.ensures.named

pub lead-returns-in_ok-others-in-If-clause-named : goal.lead-returns-in_ok-others-in-If-clause-named
lead-returns-in_ok-others-in-If-clause-named t c =
    let is = choice_at c.in-If.yes.value c.in-If.no.value c.deref.result.now c.deref-in-If.result.now (ap term c.in-If.is) c.deref.ensures c.deref-in-If.ensures in
    IfOk-weaker c.lead_choice.result _ _
    (λ proc made. choice_flags c.args.cast.now c.args.named.now c.boxed_part.new.named c.boxed_part-in-If.new.named is c.requires.own c.in_ok-yes-in-If.ensures.named c.in_ok-no-in-If.ensures.named) c.lead_choice.ensures

pub lead-returns-in_ok-others-in-If-clause-made : goal.lead-returns-in_ok-others-in-If-clause-made
lead-returns-in_ok-others-in-If-clause-made t c =
    let is = choice_at c.in-If.yes.value c.in-If.no.value c.deref.result.now c.deref-in-If.result.now (ap term c.in-If.is) c.deref.ensures c.deref-in-If.ensures in
    let flags = choice_flags c.args.cast.now c.args.named.now c.boxed_part.new.named c.boxed_part-in-If.new.named is c.requires.own c.in_ok-yes-in-If.ensures.named c.in_ok-no-in-If.ensures.named in
    IfOk-weaker c.lead_choice.result _ _
    (λ proc made.
    made
    ∙ leads_choice c.args.cast.now c.args.role.now c.in_ok-others-in-If.others c.boxed_part-in-If.new.named is c.requires.leads c.in_ok-others-in-If.ensures flags c.in_ok-yes-in-If.ensures.made c.in_ok-no-in-If.ensures.made)
    c.lead_choice.ensures

pub lead_block-returns-in_ok-others-in-While-clause-named : goal.lead_block-returns-in_ok-others-in-While-clause-named
lead_block-returns-in_ok-others-in-While-clause-named t c =
    let is = loop_at c.in-While.body.value c.deref.result.now (ap term c.in-While.is) c.deref.ensures in
    IfOk-weaker c.lead_loop.result _ _
    (λ proc made. loop_flags c.args.cast.now c.args.named.now c.boxed_part.new.named is c.requires.own c.in_ok-body-in-While.ensures.named) c.lead_loop.ensures

pub lead_block-returns-in_ok-others-in-While-clause-made : goal.lead_block-returns-in_ok-others-in-While-clause-made
lead_block-returns-in_ok-others-in-While-clause-made t c =
    let is = loop_at c.in-While.body.value c.deref.result.now (ap term c.in-While.is) c.deref.ensures in
    let flags = loop_flags c.args.cast.now c.args.named.now c.boxed_part.new.named is c.requires.own c.in_ok-body-in-While.ensures.named in
    IfOk-weaker c.lead_loop.result _ _
    (λ proc made.
    made
    ∙ leads_loop c.args.cast.now c.args.role.now c.in_ok-others-in-While.others c.boxed_part.new.named is c.requires.leads c.in_ok-others-in-While.ensures flags c.in_ok-body-in-While.ensures.made)
    c.lead_loop.ensures

pub lead_block-returns-in_ok-head-in-Scope-clause-named : goal.lead_block-returns-in_ok-head-in-Scope-clause-named
lead_block-returns-in_ok-head-in-Scope-clause-named t c =
    let is = scope_at c.in-Scope.body.value c.deref-in-Scope.result.now (ap term c.in-Scope.is) c.deref-in-Scope.ensures in
    scope_flags c.args.cast.now c.args.named.now c.boxed_part-in-Scope.new.named is c.requires.own c.in_ok-body-in-Scope.ensures.named

pub lead_block-returns-in_ok-head-in-Scope-clause-made : goal.lead_block-returns-in_ok-head-in-Scope-clause-made
lead_block-returns-in_ok-head-in-Scope-clause-made t c =
    let is = scope_at c.in-Scope.body.value c.deref-in-Scope.result.now (ap term c.in-Scope.is) c.deref-in-Scope.ensures in
    let flags = scope_flags c.args.cast.now c.args.named.now c.boxed_part-in-Scope.new.named is c.requires.own c.in_ok-body-in-Scope.ensures.named in
    leads_scope c.args.cast.now c.args.role.now c.in_ok-others-in-Scope.others c.boxed_part-in-Scope.new.named is c.requires.leads c.in_ok-head-in-Scope.ensures c.in_ok-others-in-Scope.ensures flags
    c.in_ok-body-in-Scope.ensures.made

pub construct-lead-requires : goal.construct-lead-requires
construct-lead-requires t c = search rules depth 2

pub part-returns-in_ok-right-in-Par-clause-made : goal.part-returns-in_ok-right-in-Par-clause-made
part-returns-in_ok-right-in-Par-clause-made t c = search rules depth 2
