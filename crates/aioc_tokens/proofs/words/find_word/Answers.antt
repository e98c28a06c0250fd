use Rattle.std.proofs.Common.{◌≡◌, ℕ, ◌≤◌, List, [], ◌∷◌, length, slice_index_or, sym, ◌∙◌, arith}
use Rattle.std.specs.List.{find}
use Rattle.std.specs.Str.{bytes_eq}
use Rattle.aioc_tokens.specs.declared.words.Word.{Word}
use Rattle.aioc_tokens.specs.Words.{word_spelling, word_of}
use Rattle.aioc_tokens.proofs.words.find_word.Goals as goal

-- words among which each word with these first two bytes is found
found_among : (bytes : List ℕ) (words : List Word) → 2 ≤ length bytes
    → ((others : List ℕ) → word_of (slice_index_or bytes 0 0 ∷ slice_index_or bytes 1 0 ∷ others)
    ≡ find (λ word. bytes_eq (slice_index_or bytes 0 0 ∷ slice_index_or bytes 1 0 ∷ others) (word_spelling word)) words)
    → find (λ word. bytes_eq bytes (word_spelling word)) words ≡ word_of bytes
found_among [] words more all = absurd (omega arith)
found_among (byte ∷ []) words more all = absurd (omega arith)
found_among (byte ∷ next ∷ others) words more all = sym (all others)

pub returns-in-len2-up : goal.returns-in-len2-up
returns-in-len2-up c =
    c.find_spelled.ensures ∙ found_among c.args.bytes.now c.words_with.result.now c.in-len2-up.len_at_least c.words_with.ensures
