use Rattle.std.proofs.Common.{◌≡◌, true, sym, subst, take}
use Rattle.flat_code.specs.Places.{are_placed}
use Rattle.flat_code.proofs.RoleLemmas.{cut_placed, skip_closed_at}
use Rattle.flat_code.proofs.role_code.add_nothing.Goals as goal

pub add_op-requires-clause-placed : goal.add_op-requires-clause-placed
add_op-requires-clause-placed c =
    subst (λ ops. are_placed 0 ops ≡ true) (sym c.truncate.ensures.items) (cut_placed c.args.ops.now.items c.args.before c.requires.placed)

pub returns-clause-added : goal.returns-clause-added
returns-clause-added c = skip_closed_at c.add_op.result _ (take c.args.before c.args.ops.now.items) c.add_op.new.ops.items c.truncate.ensures.items c.add_op.ensures.pushed
