use Rattle.std.proofs.Common.{◌≡◌, ◌++◌, false, drop}
use Rattle.aioc_tokens.specs.Lexemes.{unescaped}
use Rattle.aioc_tokens.proofs.view.copied_value.Given as goal

abbrev pub invariant-loop-byte : goal.invariant-loop-byte
invariant-loop-byte l = l.value.items ++ unescaped l.paired (drop l.byte-index l.byte-items) ≡ unescaped false l.byte-items
