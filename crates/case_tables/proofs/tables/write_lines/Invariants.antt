-- What stood there at the start still stands in front.
use Rattle.text_pieces.specs.Pieces.{KeepsFront}
use Rattle.case_tables.proofs.tables.write_lines.Given as goal

abbrev pub invariant-loop-line : goal.invariant-loop-line
invariant-loop-line l = KeepsFront l.fn.out.items l.out.items
