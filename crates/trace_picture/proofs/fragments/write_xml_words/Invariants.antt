use Rattle.std.proofs.Common.{◌≡◌, ◌++◌, take}
use Rattle.trace_picture.specs.Fragments.{xml_words}
use Rattle.trace_picture.proofs.fragments.write_xml_words.Given as goal

abbrev pub invariant-loop-byte : goal.invariant-loop-byte
invariant-loop-byte l = l.out.items ≡ l.fn.out.items ++ xml_words (take l.byte-index l.bytes)
