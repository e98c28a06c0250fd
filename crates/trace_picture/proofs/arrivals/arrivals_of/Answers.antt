use Rattle.std.proofs.Common.{◌-◌, refl, ap, arith}
use Rattle.std.specs.Map.{lookup}
use Rattle.indexmap.specs.IndexMap.{get}
use Rattle.dioc_terms.specs.Equality.{key_eq}
use Rattle.trace_picture.proofs.Arrived.{noted_none, noted_more, noted_all}
use Rattle.trace_picture.proofs.arrivals.arrivals_of.Goals as goal

pub loop-row-init : goal.loop-row-init
loop-row-init c =
    noted_none c.args.entries.now _ (get key_eq c.new-next.result) _ refl (omega (arith, c.in_ok-arrivals.ensures.len))
    (λ key. ap (lookup (key_eq key)) c.new-next.ensures.empty)

pub loop-row-preserved : goal.loop-row-preserved
loop-row-preserved c =
    noted_more c.args.entries.now (c.loop-row.row - 1) c.loop-row.row c.index-entries-row.result
    (get key_eq c.loop-row.next) (get key_eq c.note_take.new.next) c.loop-row.arrivals.items c.find_take.result
    (omega arith) (omega arith) c.index-entries-row.is c.find_take.ensures c.loop-row.invariant c.in_ok-note_take.ensures

pub returns : goal.returns
returns c = noted_all c.args.entries.now c.loop-row.row (get key_eq c.loop-row.next) c.loop-row.arrivals.items (omega arith) c.loop-row.invariant
