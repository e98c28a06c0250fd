use Rattle.std.proofs.Common.{[], sym, ◌∙◌}
use Rattle.dioc_terms.specs.Terms.{term}
use Rattle.flat_code.proofs.RoleLemmas.{leaf_added, none_below, outsider_added}
use Rattle.flat_code.proofs.role_code.add_own.Goals as goal

pub returns-then-not-names_itself-clause-added : goal.returns-then-not-names_itself-clause-added
returns-then-not-names_itself-clause-added c = λ cast.
    outsider_added c.add_op.result cast (term c.args.leaf.now) c.args.role.now c.args.ops.now.items c.add_op.new.ops.items c.requires.leaf (sym c.names_itself.ensures ∙ c.if-not-names_itself.true)
    c.add_op.ensures.pushed

pub add_op-requires-2-clause-earlier : goal.add_op-requires-2-clause-earlier
add_op-requires-2-clause-earlier c = none_below c.args.ops.now.items c.in_ok-op.op (c.in_ok-op.ensures []).places_are

pub returns-clause-added : goal.returns-clause-added
returns-clause-added c = λ cast.
    leaf_added c.add_op-2.result cast (term c.args.leaf.now) c.args.role.now c.args.ops.now.items c.add_op-2.new.ops.items c.in_ok-op.op c.requires.leaf
    (sym c.names_itself.ensures ∙ c.if-not-names_itself.false) (c.in_ok-op.ensures cast) c.add_op-2.ensures.pushed
