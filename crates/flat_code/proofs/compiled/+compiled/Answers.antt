use Rattle.dioc_terms.specs.Parts.{first_of, second_of}
use Rattle.dioc_terms.specs.Processes.{process}
use Rattle.flat_code.proofs.LayoutLemmas.{added_pushed, two_added}
use Rattle.std.proofs.lemmas.Grind.{common_steps}
use Rattle.std.proofs.Common.{rules, arith}
use Rattle.flat_code.proofs.compiled.+compiled.Goals as goal

pub add_body-unreachable-requires : goal.add_body-unreachable-requires
add_body-unreachable-requires t c = search rules depth 2

pub add_body-unreachable-unreachable : goal.add_body-unreachable-unreachable
add_body-unreachable-unreachable t c = assumption

pub add_body-returns-clause-placed : goal.add_body-returns-clause-placed
add_body-returns-clause-placed t c = assumption

pub add_body-returns-clause-appended : goal.add_body-returns-clause-appended
add_body-returns-clause-appended t c = assumption

pub add_two-unreachable-requires : goal.add_two-unreachable-requires
add_two-unreachable-requires t c = search rules depth 2

pub add_two-unreachable-unreachable : goal.add_two-unreachable-unreachable
add_two-unreachable-unreachable t c = assumption

pub add_two-returns-clause-placed : goal.add_two-returns-clause-placed
add_two-returns-clause-placed t c = assumption

pub add_two-returns-clause-appended : goal.add_two-returns-clause-appended
add_two-returns-clause-appended t c = grind (arith, common_steps)

pub add-returns-clause-added : goal.add-returns-clause-added
add-returns-clause-added t c =
    added_pushed c.push.result c.args.ops.now.items c.add_parts.new.ops.items c.push.new.ops.items c.in_ok-op.op
    (process c.args.proc.now) c.in_ok-op.ensures.added c.push.ensures.pushed

pub add_two-returns-clause-added : goal.add_two-returns-clause-added
add_two-returns-clause-added t c =
    two_added c.args.ops.now.items c.add.new.ops.items c.add-in-Seq.new.ops.items
    c.in_ok-first-in-Seq.first c.in_ok-second-in-Seq.second
    (first_of (process c.args.whole.now)) (second_of (process c.args.whole.now))
    (grind (arith, common_steps))
    c.add-in-Seq.ensures.appended
    (grind (arith, common_steps))
