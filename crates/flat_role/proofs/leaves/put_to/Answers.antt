-- The message to the next role, where there is one.
use Rattle.std.proofs.Common.{ap}
use Rattle.flat_role.proofs.NextLemmas.{letter_at, letters_past}
use Rattle.flat_role.specs.Leaves.{load_of, tag_of}
use Rattle.process_steps.specs.Steps.{telling}
use Rattle.flat_role.proofs.leaves.put_to.Goals as goal

pub returns-in-Some-clause-next : goal.returns-in-Some-clause-next
returns-in-Some-clause-next c me =
    let there = rw c.as_slice.ensures at c.in-Some.ensures.lookup in
    let found = letter_at me c.args.others.now c.args.index (tag_of c.args.sign) (load_of c.args.sign)
    c.args.done c.in-Some.to.now there.3.0 there.1 in
    (found.0, ap telling found.1)

pub returns-in-None-clause-next : goal.returns-in-None-clause-next
returns-in-None-clause-next c me =
    let past = rw c.as_slice.ensures at c.in-None.ensures.lookup in
    ap telling
    (letters_past me c.args.others.now c.args.index (tag_of c.args.sign) (load_of c.args.sign)
    c.args.done past.3)
