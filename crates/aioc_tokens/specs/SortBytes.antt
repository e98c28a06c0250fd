-- The sorts by the bytes that stand for them.
use Rattle.std.specs.Prelude.{ℕ, List, ◌∷◌, ◌++◌, get_or, map}
use Rattle.aioc_tokens.specs.declared.words.Sort.{Sort}
use Rattle.aioc_tokens.specs.declared.words.Sort.TheVariants.{End, Name, Long, Number, Text, Reserved, Symbol}
use Rattle.aioc_tokens.specs.Words.{reserved_words, punctuators}

-- all sorts: that of a byte stands at the byte's place
abbrev pub every_sort : List Sort
every_sort =
    End ∷ Name ∷ Long ∷ Number ∷ Text ∷ map Reserved reserved_words ++ map Symbol punctuators

-- the sort of a byte
abbrev pub sort_at : ℕ → Sort
sort_at byte = get_or every_sort byte End
