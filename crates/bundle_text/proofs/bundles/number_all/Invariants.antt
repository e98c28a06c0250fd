-- The changes so far are numbered, and the rules that they add stand behind the others.
use Rattle.std.proofs.Common.{map}
use Rattle.std.specs.Vec.Iter.{into_iter_items}
use Rattle.dioc_terms.specs.Plain.{plain_rule}
use Rattle.bundle_text.specs.Readers.{plain_timed}
use Rattle.bundle_text.proofs.Numbers.{NumberedSoFar}
use Rattle.bundle_text.proofs.bundles.number_all.Given as goal

abbrev pub invariant-loop-timed : goal.invariant-loop-timed
invariant-loop-timed l =
    NumberedSoFar (map plain_rule l.fn.rules.items) (map plain_timed l.fn.script.items) (map plain_rule l.rules.items) l.made.items (map plain_timed (into_iter_items l.timed-iterator))
