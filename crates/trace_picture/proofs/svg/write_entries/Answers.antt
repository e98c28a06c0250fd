use Rattle.std.proofs.Common.{◌++◌, ◌∙◌, ap, take, arith}
use Rattle.std.proofs.lemmas.Grind.{common_steps}
use Rattle.trace_picture.specs.Arrivals.{arrival}
use Rattle.trace_picture.specs.Runs.{pieces_from}
use Rattle.trace_picture.specs.Svg.{svg_entry}
use Rattle.trace_picture.proofs.Arrived.{arrives_below, read_arrival}
use Rattle.trace_picture.proofs.Repeats.{pieces_from_step, still_front}
use Rattle.trace_picture.proofs.svg.write_entries.Goals as goal

pub write_entry-requires-clause-arrives : goal.write_entry-requires-clause-arrives
write_entry-requires-clause-arrives c =
    arrives_below c.args.entries.now c.in_ok-arrivals.arrivals.items c.loop-row.row _ c.index-entries-row.result c.index.result.now
    c.in_ok-arrivals.ensures (omega arith) c.index-entries-row.is c.index.ensures c.requires.entries

pub loop-row-preserved : goal.loop-row-preserved
loop-row-preserved c =
    pieces_from_step (λ row e. svg_entry c.args.frame.now.columns c.args.frame.now.lanes.now row (arrival c.args.entries.now row e) e) c.args.entries.now c.loop-row.row c.index-entries-row.result c.args.out.now.items c.loop-row.out.items c.write_entry.new.out.items
    (omega arith) c.index-entries-row.is c.loop-row.invariant
    (c.in_ok-write_entry.ensures.ok ∙ ap (λ found. c.loop-row.out.items ++ svg_entry c.args.frame.now.columns c.args.frame.now.lanes.now c.loop-row.row found c.index-entries-row.result)
    (read_arrival c.args.entries.now c.in_ok-arrivals.arrivals.items c.loop-row.row c.index-entries-row.result c.index.result.now c.in_ok-arrivals.ensures (omega arith) c.index-entries-row.is c.index.ensures))

pub returns-in_err-write_entry-clause-memory : goal.returns-in_err-write_entry-clause-memory
returns-in_err-write_entry-clause-memory c =
    still_front _ c.args.out.now.items (pieces_from (λ row e. svg_entry c.args.frame.now.columns c.args.frame.now.lanes.now row (arrival c.args.entries.now row e) e) 0 (take c.loop-row.row c.args.entries.now)) c.loop-row.out.items c.write_entry.new.out.items
    c.loop-row.invariant c.in_err-write_entry.ensures.memory

pub returns-clause-ok : goal.returns-clause-ok
returns-clause-ok c = grind (arith, common_steps)
