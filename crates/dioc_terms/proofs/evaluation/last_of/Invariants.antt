-- The value so far is that of the pairs so far.
use Rattle.std.proofs.Common.{◌≡◌, take}
use Rattle.dioc_terms.specs.BorrowedValues.{borrowed_value}
use Rattle.dioc_terms.specs.Values.{bound}
use Rattle.dioc_terms.proofs.evaluation.last_of.Given as goal

abbrev pub invariant-loop-key : goal.invariant-loop-key
invariant-loop-key l = borrowed_value l.last ≡ bound (take l.key-index l.pairs) l.name
