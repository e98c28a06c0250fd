-- The changes of the rest of the script are still to come.
use Rattle.std.proofs.Common.{◌≡◌, drop, map}
use Rattle.rule_book.specs.KeptBooks.{coming}
use Rattle.object_tests.proofs.book.states.Given as goal

abbrev pub invariant-loop-timed : goal.invariant-loop-timed
invariant-loop-timed l = coming l.book ≡ drop l.timed-index (map (λ timed. timed.change) l.script)
