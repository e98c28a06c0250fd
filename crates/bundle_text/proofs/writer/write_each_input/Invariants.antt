use Rattle.std.proofs.Common.{◌≡◌, ◌++◌, take, flat_map}
use Rattle.bundle_text.specs.Pieces.{input_text}
use Rattle.bundle_text.proofs.writer.write_each_input.Given as goal

abbrev pub invariant-loop-input : goal.invariant-loop-input
invariant-loop-input l = l.out.items ≡ l.fn.out.items ++ flat_map input_text (take l.input-index l.inputs)
