use Rattle.std.proofs.Common.{◌≡◌, ◌++◌, take, flat_map}
use Rattle.bundle_text.specs.Pieces.{next_value_text}
use Rattle.bundle_text.proofs.writer.write_next_values.Given as goal

abbrev pub invariant-loop-next : goal.invariant-loop-next
invariant-loop-next l = l.out.items ≡ l.fn.out.items ++ flat_map next_value_text (take l.next-index l.rest)
