use Rattle.std.proofs.Common.{◌≡◌, ◌+◌, ◌≤◌, false, drop, length}
use Rattle.aioc_tokens.specs.Lexemes.{unescaped}
use Rattle.aioc_tokens.proofs.view.value_length.Given as goal

abbrev pub invariant-loop-byte : goal.invariant-loop-byte
invariant-loop-byte l = record {
  counted : l.length + length (unescaped l.paired (drop l.byte-index l.byte-items)) ≡ length (unescaped false l.byte-items);
  small : l.length ≤ l.byte-index;
}
