-- What is seen of a list of lexemes: its first one.
use Rattle.std.specs.Prelude.{ℕ, List, [], ◌∷◌, Option, None, codes}
use Rattle.std.specs.List.{find}
use Rattle.std.specs.Str.{bytes_eq}
use Rattle.aioc_tokens.specs.declared.words.Sort.{Sort}
use Rattle.aioc_tokens.specs.declared.words.Sort.TheVariants as sorts
use Rattle.aioc_tokens.specs.Lexemes.{Lexeme, Name, sort_of}
use Rattle.expr_syntax.specs.Constants.{number, greatest_negated}
use Rattle.wanted_tokens.specs.declared.looks.PlaceWord.{PlaceWord}
use Rattle.wanted_tokens.specs.declared.looks.PlaceWord.TheVariants as word
use Rattle.wanted_tokens.specs.declared.looks.Look.{Look}
use Rattle.wanted_tokens.specs.declared.looks.Look.TheVariants as looks

-- how a word that has a meaning only in its place is spelled
abbrev pub place_word_spelling : PlaceWord → List ℕ
place_word_spelling word.Version = codes "version"
place_word_spelling word.Session = codes "session"
place_word_spelling word.Rules = codes "rules"
place_word_spelling word.Env = codes "env"
place_word_spelling word.Inputs = codes "inputs"
place_word_spelling word.Script = codes "script"
place_word_spelling word.Trace = codes "trace"
place_word_spelling word.After = codes "after"
place_word_spelling word.Add = codes "add"
place_word_spelling word.Drop = codes "drop"
place_word_spelling word.Roles = codes "roles"
place_word_spelling word.Priority = codes "priority"
place_word_spelling word.Put = codes "put"
place_word_spelling word.Take = codes "take"
place_word_spelling word.Set = codes "set"
place_word_spelling word.Pick = codes "pick"
place_word_spelling word.Ended = codes "ended"
place_word_spelling word.Stopped = codes "stopped"
place_word_spelling word.Done = codes "done"
place_word_spelling word.Keep = codes "keep"
place_word_spelling word.Part = codes "part"
place_word_spelling word.As = codes "as"
place_word_spelling word.Choice = codes "choice"
place_word_spelling word.Go = codes "go"
place_word_spelling word.Turn = codes "turn"
place_word_spelling word.Begin = codes "begin"
place_word_spelling word.End = codes "end"
place_word_spelling word.Out = codes "out"

-- all of them
abbrev pub place_words : List PlaceWord
place_words =
    word.Version ∷ word.Session ∷ word.Rules ∷ word.Env ∷ word.Inputs ∷ word.Script ∷ word.Trace
    ∷ word.After ∷ word.Add ∷ word.Drop ∷ word.Roles ∷ word.Priority ∷ word.Put ∷ word.Take
    ∷ word.Set ∷ word.Pick ∷ word.Ended ∷ word.Stopped ∷ word.Done ∷ word.Keep ∷ word.Part ∷ word.As
    ∷ word.Choice ∷ word.Go ∷ word.Turn ∷ word.Begin ∷ word.End ∷ word.Out ∷ []

-- the word of this spelling
abbrev pub place_word_of : List ℕ → Option PlaceWord
place_word_of bytes = find (λ word. bytes_eq bytes (place_word_spelling word)) place_words

-- the word that a name at the front is
abbrev pub word_at : List Lexeme → Option PlaceWord
word_at (Name bytes ∷ others) = place_word_of bytes
word_at _ = None

-- what is seen of a list whose first lexeme is of this sort
abbrev pub look_by : Sort → List Lexeme → Look
look_by sorts.End from = looks.End
look_by sorts.Long from = looks.Long
look_by sorts.Name from = looks.Name (word_at from)
look_by sorts.Number from = looks.Number (number greatest_negated from)
look_by sorts.Text from = looks.Text
look_by (sorts.Reserved word) from = looks.Reserved word
look_by (sorts.Symbol punctuator) from = looks.Symbol punctuator

-- what is seen of a list
abbrev pub look : List Lexeme → Look
look from = look_by (sort_of from) from
