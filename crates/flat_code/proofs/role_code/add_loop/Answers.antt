use Rattle.std.proofs.Common.{take}
use Rattle.flat_code.proofs.RoleLemmas.{cut_loop, kept_loop, uncut}
use Rattle.flat_code.proofs.role_code.add_loop.Goals as goal

pub returns-in_err-op-clause-appended : goal.returns-in_err-op-clause-appended
returns-in_err-op-clause-appended c = uncut c.args.ops.now.items c.args.before

pub returns-then-body-clause-added : goal.returns-then-body-clause-added
returns-then-body-clause-added c =
    cut_loop c.add_nothing.result (take c.args.before c.args.ops.now.items) c.args.ops.now.items c.add_nothing.new.ops.items c.args.body c.args.index c.args.leader.now c.if-body.true
    c.add_nothing.ensures.added

pub returns-clause-added : goal.returns-clause-added
returns-clause-added c =
    kept_loop c.add_op.result (take c.args.before c.args.ops.now.items) c.args.ops.now.items c.add_op.new.ops.items c.args.body c.in_ok-op.op c.args.index c.args.leader.now c.if-body.false
    c.in_ok-op.ensures c.add_op.ensures.pushed
