use Rattle.std.proofs.Common.{◌≡◌, drop}
use Rattle.std.specs.List.{find}
use Rattle.std.specs.Str.{bytes_eq}
use Rattle.aioc_tokens.specs.Words.{word_spelling}
use Rattle.aioc_tokens.proofs.words.find_spelled.Given as goal

abbrev pub invariant-loop-word : goal.invariant-loop-word
invariant-loop-word l =
    find (λ word. bytes_eq l.bytes (word_spelling word)) (drop l.word-index l.words)
    ≡ find (λ word. bytes_eq l.bytes (word_spelling word)) l.words
