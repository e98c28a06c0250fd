use Rattle.std.proofs.Common.{◌≡◌, ◌++◌, take}
use Rattle.trace_picture.specs.Mermaid.{mermaid_words}
use Rattle.trace_picture.proofs.mermaid.write_mermaid_words.Given as goal

abbrev pub invariant-loop-byte : goal.invariant-loop-byte
invariant-loop-byte l = l.out.items ≡ l.fn.out.items ++ mermaid_words (take l.byte-index l.bytes)
