use Rattle.std.proofs.Common.{sym, take, ◌∙◌}
use Rattle.flat_code.proofs.RoleLemmas.{cut_choice, kept_choice, uncut}
use Rattle.flat_code.proofs.role_code.add_choice.Goals as goal

pub returns-in_err-op-clause-appended : goal.returns-in_err-op-clause-appended
returns-in_err-op-clause-appended c = uncut c.args.ops.now.items c.args.before

pub returns-then-both-clause-added : goal.returns-then-both-clause-added
returns-then-both-clause-added c =
    cut_choice c.add_nothing.result (take c.args.before c.args.ops.now.items) c.args.ops.now.items c.add_nothing.new.ops.items c.args.branches.0 c.args.branches.1 c.args.index c.args.leader.now
    (sym c.both.ensures ∙ c.if-both.true) c.add_nothing.ensures.added

pub returns-clause-added : goal.returns-clause-added
returns-clause-added c =
    kept_choice c.add_op.result (take c.args.before c.args.ops.now.items) c.args.ops.now.items c.add_op.new.ops.items c.args.branches.0 c.args.branches.1 c.in_ok-op.op c.args.index c.args.leader.now
    (sym c.both.ensures ∙ c.if-both.false) c.in_ok-op.ensures c.add_op.ensures.pushed
