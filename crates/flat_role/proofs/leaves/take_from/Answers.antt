-- The message of the next role, where there is one.
use Rattle.std.proofs.Common.{ap}
use Rattle.flat_role.proofs.NextLemmas.{key_at}
use Rattle.flat_role.specs.Leaves.{tag_of}
use Rattle.process_steps.specs.Steps.{gathering}
use Rattle.flat_role.proofs.leaves.take_from.Goals as goal

pub returns-in-Some-clause-next : goal.returns-in-Some-clause-next
returns-in-Some-clause-next c me =
    let there = rw c.as_slice.ensures at c.in-Some.ensures.lookup in
    let found = key_at me c.args.others.now c.args.index (tag_of c.args.sign) c.args.done
    c.in-Some.from.now there.3.0 there.1 in
    (found.0, ap gathering found.1)
