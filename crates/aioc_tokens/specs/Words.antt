-- The reserved words and the symbols, each with its spelling.
use Rattle.std.specs.Prelude.{ℕ, List, [], ◌∷◌, Option, Some, None}
use Rattle.std.specs.List.{find}
use Rattle.std.specs.Str.{bytes_eq}
use lib.Chars.{codes}
use Rattle.aioc_tokens.specs.declared.words.Word.{Word}
use Rattle.aioc_tokens.specs.declared.words.Word.TheVariants.{Aioc, Skip, If, Else, While, Scope, Prop, Rule, On, Do, True, False, Nil, And, Or, Not, Input, N, E}
use Rattle.aioc_tokens.specs.declared.words.Punctuator.{Punctuator}
use Rattle.aioc_tokens.specs.declared.words.Punctuator.TheVariants.{LeftBrace, RightBrace, LeftParen, RightParen, LeftBracket, RightBracket, Semicolon, Comma, Colon, Bar, At, Equal, EqualEqual, NotEqual, Less, LessEqual, Greater, GreaterEqual, Plus, PlusPlus, Minus, Arrow, Star, Slash, Percent, Dot, Hash, Bang}

-- how a reserved word is spelled
abbrev pub word_spelling : Word → List ℕ
word_spelling Aioc = codes "aioc"
word_spelling Skip = codes "skip"
word_spelling If = codes "if"
word_spelling Else = codes "else"
word_spelling While = codes "while"
word_spelling Scope = codes "scope"
word_spelling Prop = codes "prop"
word_spelling Rule = codes "rule"
word_spelling On = codes "on"
word_spelling Do = codes "do"
word_spelling True = codes "true"
word_spelling False = codes "false"
word_spelling Nil = codes "nil"
word_spelling And = codes "and"
word_spelling Or = codes "or"
word_spelling Not = codes "not"
word_spelling Input = codes "input"
word_spelling N = codes "N"
word_spelling E = codes "E"

-- all reserved words
abbrev pub reserved_words : List Word
reserved_words =
    Aioc ∷ Skip ∷ If ∷ Else ∷ While ∷ Scope ∷ Prop ∷ Rule ∷ On ∷ Do ∷ True ∷ False ∷ Nil ∷ And ∷ Or
    ∷ Not ∷ Input ∷ N ∷ E ∷ []

-- the reserved word of this spelling
unfoldable pub word_of : List ℕ → Option Word
word_of bytes = find (λ word. bytes_eq bytes (word_spelling word)) reserved_words

-- how a symbol is spelled
abbrev pub punctuator_spelling : Punctuator → List ℕ
punctuator_spelling LeftBrace = codes "{"
punctuator_spelling RightBrace = codes "}"
punctuator_spelling LeftParen = codes "("
punctuator_spelling RightParen = codes ")"
punctuator_spelling LeftBracket = codes "["
punctuator_spelling RightBracket = codes "]"
punctuator_spelling Semicolon = codes ";"
punctuator_spelling Comma = codes ","
punctuator_spelling Colon = codes ":"
punctuator_spelling Bar = codes "|"
punctuator_spelling At = codes "@"
punctuator_spelling Equal = codes "="
punctuator_spelling EqualEqual = codes "=="
punctuator_spelling NotEqual = codes "!="
punctuator_spelling Less = codes "<"
punctuator_spelling LessEqual = codes "<="
punctuator_spelling Greater = codes ">"
punctuator_spelling GreaterEqual = codes ">="
punctuator_spelling Plus = codes "+"
punctuator_spelling PlusPlus = codes "++"
punctuator_spelling Minus = codes "-"
punctuator_spelling Arrow = codes "->"
punctuator_spelling Star = codes "*"
punctuator_spelling Slash = codes "/"
punctuator_spelling Percent = codes "%"
punctuator_spelling Dot = codes "."
punctuator_spelling Hash = codes "#"
punctuator_spelling Bang = codes "!"

-- all symbols
abbrev pub punctuators : List Punctuator
punctuators =
    LeftBrace ∷ RightBrace ∷ LeftParen ∷ RightParen ∷ LeftBracket ∷ RightBracket ∷ Semicolon ∷ Comma
    ∷ Colon ∷ Bar ∷ At ∷ Equal ∷ EqualEqual ∷ NotEqual ∷ Less ∷ LessEqual ∷ Greater ∷ GreaterEqual
    ∷ Plus ∷ PlusPlus ∷ Minus ∷ Arrow ∷ Star ∷ Slash ∷ Percent ∷ Dot ∷ Hash ∷ Bang ∷ []

-- the symbol of this spelling
unfoldable pub punctuator_of : List ℕ → Option Punctuator
punctuator_of bytes =
    find (λ punctuator. bytes_eq bytes (punctuator_spelling punctuator)) punctuators

-- the longest symbol that these bytes begin with, and how many bytes it has
abbrev pub longer_of : Option Punctuator → Option Punctuator → Option (Punctuator × ℕ)
longer_of (Some pair) _ = Some (pair, 2)
longer_of None (Some single) = Some (single, 1)
longer_of None None = None

abbrev pub longest_symbol : ℕ → ℕ → Option (Punctuator × ℕ)
longest_symbol first second =
    longer_of (punctuator_of (first ∷ second ∷ [])) (punctuator_of (first ∷ []))
