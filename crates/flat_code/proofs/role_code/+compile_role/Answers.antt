use Rattle.std.proofs.Common.{◌∙◌, ap, arith, map}
use Rattle.std.proofs.lemmas.Result.{IfOk-weaker, on_ok_weaker}
use Rattle.dioc_terms.specs.Terms.{term}
use Rattle.flat_code.proofs.RoleLemmas.{followed_choice, followed_loop, followed_scope, led_choice, led_loop, led_scope, par_added, par_at, seq_added, seq_at}
use Rattle.projection.specs.Named.{names_inside, raised}
use Rattle.projection.proofs.Flags.{whole_named}
use Rattle.projection.proofs.Leading.{choice_at, choice_flags, loop_at, loop_flags, scope_at, scope_flags}
use Rattle.flat_code.proofs.role_code.+compile_role.Goals as goal

pub add-returns-in_ok-second-in-Seq-clause-added : goal.add-returns-in_ok-second-in-Seq-clause-added
add-returns-in_ok-second-in-Seq-clause-added t c =
    seq_added (term c.args.choreo.now) (term c.deref.result.now) (term c.deref-in-Seq.result.now) c.add_op.result c.args.cast.now c.args.role.now c.args.ops.now.items c.add.new.ops.items
    c.add-in-Seq.new.ops.items c.add_op.new.ops.items c.in_ok-first-in-Seq.first c.in_ok-second-in-Seq.second c.both.result c.in_ok-first-in-Seq.ensures.added c.add-in-Seq.ensures.appended
    c.in_ok-second-in-Seq.ensures.added c.both.ensures
    (seq_at c.in-Seq.first.value c.in-Seq.second.value c.deref.result.now c.deref-in-Seq.result.now (ap term c.in-Seq.is) c.deref.ensures c.deref-in-Seq.ensures)
    c.add_op.ensures.pushed

pub add-returns-in_ok-right-in-Par-clause-added : goal.add-returns-in_ok-right-in-Par-clause-added
add-returns-in_ok-right-in-Par-clause-added t c =
    par_added (term c.args.choreo.now) (term c.deref-in-Par.result.now) (term c.deref-in-Par-2.result.now) c.add_op-in-Par.result c.args.cast.now c.args.role.now c.args.ops.now.items
    c.add-in-Par.new.ops.items c.add-in-Par-2.new.ops.items c.add_op-in-Par.new.ops.items c.in_ok-left-in-Par.left c.in_ok-right-in-Par.right c.both-in-Par.result
    c.in_ok-left-in-Par.ensures.added c.add-in-Par-2.ensures.appended c.in_ok-right-in-Par.ensures.added c.both-in-Par.ensures
    (par_at c.in-Par.left.value c.in-Par.right.value c.deref-in-Par.result.now c.deref-in-Par-2.result.now (ap term c.in-Par.is) c.deref-in-Par.ensures c.deref-in-Par-2.ensures)
    c.add_op-in-Par.ensures.pushed

pub add_construct-returns-clause-named : goal.add_construct-returns-clause-named
add_construct-returns-clause-named t c =
    on_ok_weaker c.add_followed.result
    (λ flags.
    flags ∙ (ap (raised (map (λ q. names_inside q (term c.args.whole.now)) c.args.cast.now)) c.raise_own.ensures ∙ whole_named c.args.cast.now (term c.args.whole.now) c.args.named.now))
    c.add_followed.ensures.named

pub add_followed-returns-in_ok-no-in-If-clause-added : goal.add_followed-returns-in_ok-no-in-If-clause-added
add_followed-returns-in_ok-no-in-If-clause-added t c =
    let is = choice_at c.in-If.yes.value c.in-If.no.value c.deref.result.now c.deref-in-If.result.now (ap term c.in-If.is) c.deref.ensures c.deref-in-If.ensures in
    followed_choice c.add_choice.result c.args.cast.now c.args.role.now c.args.ops.now.items c.add.new.ops.items c.add-in-If.new.ops.items c.add_choice.new.ops.items c.in_ok-yes-in-If.yes
    c.in_ok-no-in-If.no c.len-before.result is c.requires.led (omega (arith, c.len-before.ensures)) c.add.ensures.appended c.in_ok-yes-in-If.ensures.added c.add-in-If.ensures.appended
    c.in_ok-no-in-If.ensures.added c.add_choice.ensures.added

pub add_followed_block-returns-in_ok-body-in-While-clause-added : goal.add_followed_block-returns-in_ok-body-in-While-clause-added
add_followed_block-returns-in_ok-body-in-While-clause-added t c =
    let is = loop_at c.in-While.body.value c.deref.result.now (ap term c.in-While.is) c.deref.ensures in
    followed_loop c.add_loop.result c.args.cast.now c.args.role.now c.args.ops.now.items c.add.new.ops.items c.add_loop.new.ops.items c.in_ok-body-in-While.body c.len-before.result is
    c.requires.led (omega (arith, c.len-before.ensures)) c.add.ensures.appended c.in_ok-body-in-While.ensures.added c.add_loop.ensures.added

pub add_followed_block-returns-in_ok-body-in-Scope-clause-added : goal.add_followed_block-returns-in_ok-body-in-Scope-clause-added
add_followed_block-returns-in_ok-body-in-Scope-clause-added t c =
    let is = scope_at c.in-Scope.body.value c.deref-in-Scope.result.now (ap term c.in-Scope.is) c.deref-in-Scope.ensures in
    followed_scope c.add_scope.result c.args.cast.now c.args.role.now c.args.ops.now.items c.add-in-Scope.new.ops.items c.add_scope.new.ops.items c.in_ok-body-in-Scope.body c.len-before.result
    c.names_itself.result is c.requires.led (omega (arith, c.len-before.ensures)) c.names_itself.ensures c.add-in-Scope.ensures.appended c.in_ok-body-in-Scope.ensures.added
    c.add_scope.ensures.added

pub add_led-returns-in_ok-op-in-If-clause-added : goal.add_led-returns-in_ok-op-in-If-clause-added
add_led-returns-in_ok-op-in-If-clause-added t c =
    let is = choice_at c.in-If.yes.value c.in-If.no.value c.deref.result.now c.deref-in-If.result.now (ap term c.in-If.is) c.deref.ensures c.deref-in-If.ensures in
    let flags = choice_flags c.args.cast.now c.args.named.now c.add.new.named c.add-in-If.new.named is c.requires.own c.in_ok-yes-in-If.ensures.named c.in_ok-no-in-If.ensures.named in
    led_choice c.add_op.result c.args.cast.now c.args.role.now c.in_ok-others-in-If.others c.add-in-If.new.named c.args.ops.now.items c.add.new.ops.items c.add-in-If.new.ops.items
    c.add_op.new.ops.items c.in_ok-yes-in-If.yes c.in_ok-no-in-If.no c.in_ok-op-in-If.op is c.requires.leads c.in_ok-others-in-If.ensures flags c.in_ok-yes-in-If.ensures.added
    c.add-in-If.ensures.appended c.in_ok-no-in-If.ensures.added c.in_ok-op-in-If.ensures c.add_op.ensures.pushed

pub add_led-returns-in_ok-op-in-If-clause-named : goal.add_led-returns-in_ok-op-in-If-clause-named
add_led-returns-in_ok-op-in-If-clause-named t c =
    let is = choice_at c.in-If.yes.value c.in-If.no.value c.deref.result.now c.deref-in-If.result.now (ap term c.in-If.is) c.deref.ensures c.deref-in-If.ensures in
    IfOk-weaker c.add_op.result _ _
    (λ part pushed. choice_flags c.args.cast.now c.args.named.now c.add.new.named c.add-in-If.new.named is c.requires.own c.in_ok-yes-in-If.ensures.named c.in_ok-no-in-If.ensures.named) c.add_op.ensures.pushed

pub add_led_block-returns-in_ok-op-in-While-clause-added : goal.add_led_block-returns-in_ok-op-in-While-clause-added
add_led_block-returns-in_ok-op-in-While-clause-added t c =
    let is = loop_at c.in-While.body.value c.deref.result.now (ap term c.in-While.is) c.deref.ensures in
    let flags = loop_flags c.args.cast.now c.args.named.now c.add.new.named is c.requires.own c.in_ok-body-in-While.ensures.named in
    led_loop c.add_op.result c.args.cast.now c.args.role.now c.in_ok-others-in-While.others c.add.new.named c.args.ops.now.items c.add.new.ops.items
    c.add_op.new.ops.items c.in_ok-body-in-While.body c.in_ok-op-in-While.op is c.requires.leads c.in_ok-others-in-While.ensures flags c.in_ok-body-in-While.ensures.added
    c.in_ok-op-in-While.ensures c.add_op.ensures.pushed

pub add_led_block-returns-in_ok-op-in-While-clause-named : goal.add_led_block-returns-in_ok-op-in-While-clause-named
add_led_block-returns-in_ok-op-in-While-clause-named t c =
    let is = loop_at c.in-While.body.value c.deref.result.now (ap term c.in-While.is) c.deref.ensures in
    IfOk-weaker c.add_op.result _ _
    (λ part pushed. loop_flags c.args.cast.now c.args.named.now c.add.new.named is c.requires.own c.in_ok-body-in-While.ensures.named) c.add_op.ensures.pushed

pub add_led_block-returns-in_ok-head-in-Scope-clause-added : goal.add_led_block-returns-in_ok-head-in-Scope-clause-added
add_led_block-returns-in_ok-head-in-Scope-clause-added t c =
    let is = scope_at c.in-Scope.body.value c.deref-in-Scope.result.now (ap term c.in-Scope.is) c.deref-in-Scope.ensures in
    let flags = scope_flags c.args.cast.now c.args.named.now c.add-in-Scope.new.named is c.requires.own c.in_ok-body-in-Scope.ensures.named in
    led_scope c.add_op-in-Scope.result c.args.cast.now c.args.role.now c.in_ok-others-in-Scope.others c.add-in-Scope.new.named c.args.ops.now.items c.add-in-Scope.new.ops.items
    c.add_op-in-Scope.new.ops.items c.in_ok-body-in-Scope.body c.lead_scope.result is c.requires.leads c.in_ok-head-in-Scope.ensures c.in_ok-others-in-Scope.ensures flags
    c.in_ok-body-in-Scope.ensures.added c.lead_scope.ensures c.add_op-in-Scope.ensures.pushed

pub add_led_block-returns-in_ok-head-in-Scope-clause-named : goal.add_led_block-returns-in_ok-head-in-Scope-clause-named
add_led_block-returns-in_ok-head-in-Scope-clause-named t c =
    let is = scope_at c.in-Scope.body.value c.deref-in-Scope.result.now (ap term c.in-Scope.is) c.deref-in-Scope.ensures in
    IfOk-weaker c.add_op-in-Scope.result _ _
    (λ part pushed. scope_flags c.args.cast.now c.args.named.now c.add-in-Scope.new.named is c.requires.own c.in_ok-body-in-Scope.ensures.named) c.add_op-in-Scope.ensures.pushed
