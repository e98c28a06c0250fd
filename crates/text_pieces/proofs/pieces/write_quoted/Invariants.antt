use Rattle.std.proofs.Common.{◌≡◌, ◌++◌, codes, take, flat_map}
use Rattle.aioc_tokens.specs.Tokens.{escaped}
use Rattle.text_pieces.proofs.pieces.write_quoted.Given as goal

abbrev pub invariant-loop-byte : goal.invariant-loop-byte
invariant-loop-byte l =
    l.out.items ≡ l.fn.out.items ++ (codes "\"" ++ flat_map escaped (take l.byte-index l.bytes))
