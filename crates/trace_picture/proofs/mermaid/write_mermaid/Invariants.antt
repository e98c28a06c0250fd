use Rattle.std.proofs.Common.{◌≡◌, ◌++◌, take, flat_map}
use Rattle.trace_picture.specs.Mermaid.{mermaid_head, mermaid_entry}
use Rattle.trace_picture.proofs.mermaid.write_mermaid.Given as goal

abbrev pub invariant-loop-entry : goal.invariant-loop-entry
invariant-loop-entry l = l.out.items ≡ (l.fn.out.items ++ mermaid_head l.scene.lanes.now) ++ flat_map (mermaid_entry l.scene.lanes.now) (take l.entry-index l.scene.entries.now)
