use Rattle.indexmap.specs.IndexMap.{get}
use Rattle.dioc_terms.specs.Equality.{key_eq}
use Rattle.trace_picture.proofs.Arrived.{Noted}
use Rattle.trace_picture.proofs.arrivals.arrivals_of.Given as goal

abbrev pub invariant-loop-row : goal.invariant-loop-row
invariant-loop-row l = Noted l.entries l.row (get key_eq l.next) l.arrivals.items

abbrev pub decreases-loop-row : goal.decreases-loop-row
decreases-loop-row l = l.row
