use Rattle.std.proofs.Common.{◌≡◌, ℕ, Ok, true, false, rules, take}
use Rattle.flat_code.proofs.RoleLemmas.{goes_on, is_over_so, kept_scope, named_scope, uncut, unnamed_scope}
use Rattle.flat_code.proofs.role_code.add_scope.Goals as goal

pub returns-in_err-op-clause-appended : goal.returns-in_err-op-clause-appended
returns-in_err-op-clause-appended c = uncut c.args.ops.now.items c.args.before

pub returns-then-not-body-clause-added : goal.returns-then-not-body-clause-added
returns-then-not-body-clause-added c =
    kept_scope c.add_op.result (take c.args.before c.args.ops.now.items) c.args.ops.now.items c.add_op.new.ops.items c.args.named.0 c.in_ok-op.op c.args.index c.args.leader.now c.args.named.1
    (goes_on c.args.named.0.ended c.if-not-body.true) c.in_ok-op.ensures c.add_op.ensures.pushed

pub returns-then-not-is_named-clause-added : goal.returns-then-not-is_named-clause-added
returns-then-not-is_named-clause-added c =
    let unnamed : c.args.named.1 ≡ false = search (rules, goes_on) in
    unnamed_scope {E = ℕ} (Ok c.in_ok-nothing.nothing) (take c.args.before c.args.ops.now.items) c.args.ops.now.items c.add_nothing.new.ops.items c.args.named.0 c.args.index c.args.leader.now c.args.named.1
    (is_over_so c.args.named.0.ended c.if-not-body.false) unnamed c.in_ok-nothing.ensures.added

pub returns-clause-added : goal.returns-clause-added
returns-clause-added c =
    let named : c.args.named.1 ≡ true = search (rules, is_over_so) in
    named_scope c.add_op-2.result (take c.args.before c.args.ops.now.items) c.args.ops.now.items c.add_op-2.new.ops.items c.add_nothing.new.ops.items c.args.named.0 c.in_ok-nothing.nothing c.in_ok-op-2.op
    c.args.index c.args.leader.now c.args.named.1 (is_over_so c.args.named.0.ended c.if-not-body.false) named c.in_ok-nothing.ensures.added c.in_ok-op-2.ensures c.add_op-2.ensures.pushed
