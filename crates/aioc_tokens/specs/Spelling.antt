-- How lexemes are written: with one space between two tokens.
use Rattle.std.specs.Prelude.{ℕ, List, [], ◌∷◌, ◌++◌}
use Rattle.aioc_tokens.specs.Words.{word_spelling, punctuator_spelling}
use Rattle.aioc_tokens.specs.Tokens.{quoted}
use Rattle.aioc_tokens.specs.Lexemes.{Lexeme, Name, Long, Number, Text, Reserved, Symbol}

-- the bytes of a lexeme; what is too long has none
abbrev pub spelling : Lexeme → List ℕ
spelling (Name bytes) = bytes
spelling Long = []
spelling (Number digits) = digits
spelling (Text value) = quoted value
spelling (Reserved word) = word_spelling word
spelling (Symbol punctuator) = punctuator_spelling punctuator

-- the lexemes with one space between two
abbrev pub spelled : List Lexeme → List ℕ
spelled [] = []
spelled (last ∷ []) = spelling last
spelled (first ∷ next ∷ others) = spelling first ++ 32 ∷ spelled (next ∷ others)
