use Rattle.std.proofs.Common.{◌≡◌, ◌++◌, take, flat_map}
use Rattle.trace_picture.specs.Terminal.{head_rows, entry_row}
use Rattle.trace_picture.proofs.terminal.write_terminal.Given as goal

abbrev pub invariant-loop-entry : goal.invariant-loop-entry
invariant-loop-entry l = l.out.items ≡ (l.fn.out.items ++ head_rows l.scene.lanes.now) ++ flat_map (entry_row l.scene.lanes.now) (take l.entry-index l.scene.entries.now)
