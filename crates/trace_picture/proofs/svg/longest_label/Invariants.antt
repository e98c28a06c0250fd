use Rattle.std.proofs.Common.{◌≡◌, take}
use Rattle.trace_picture.specs.Svg.{longest_label}
use Rattle.trace_picture.proofs.svg.longest_label.Given as goal

abbrev pub invariant-loop-entry : goal.invariant-loop-entry
invariant-loop-entry l = l.most ≡ longest_label l.least (take l.entry-index l.entries)
