-- The words that begin a line of a trace, and those of the auxiliary tags. None of these is
-- reserved: they are names elsewhere.
use Rattle.std.specs.Prelude.{ℕ, List, [], ◌∷◌, Option, codes}
use Rattle.std.specs.List.{find}
use Rattle.std.specs.Str.{bytes_eq}
use Rattle.dioc_terms.specs.declared.processes.Tag.{Tag}
use Rattle.dioc_terms.specs.declared.processes.Tag.TheVariants as tag
use Rattle.trace_syntax.specs.declared.words.LineWord.{LineWord}
use Rattle.trace_syntax.specs.declared.words.LineWord.TheVariants.{Put, Take, Set, Pick, Add, Drop, Env, Ended, Stopped}

-- how a word that begins a line is spelled
abbrev pub line_word_spelling : LineWord → List ℕ
line_word_spelling Put = codes "put"
line_word_spelling Take = codes "take"
line_word_spelling Set = codes "set"
line_word_spelling Pick = codes "pick"
line_word_spelling Add = codes "add"
line_word_spelling Drop = codes "drop"
line_word_spelling Env = codes "env"
line_word_spelling Ended = codes "ended"
line_word_spelling Stopped = codes "stopped"

-- all of them; a line may also begin with the reserved words `input` and `scope`
abbrev pub line_words : List LineWord
line_words = Put ∷ Take ∷ Set ∷ Pick ∷ Add ∷ Drop ∷ Env ∷ Ended ∷ Stopped ∷ []

-- the word of this spelling
unfoldable pub line_word_of : List ℕ → Option LineWord
line_word_of bytes = find (λ word. bytes_eq bytes (line_word_spelling word)) line_words

-- the word of an auxiliary tag; an operation is its own name
abbrev pub tag_word : Tag → List ℕ
tag_word (tag.Op name) = name
tag_word tag.Choice = codes "choice"
tag_word tag.Go = codes "go"
tag_word tag.Turn = codes "turn"
tag_word tag.Begin = codes "begin"
tag_word tag.End = codes "end"
tag_word tag.Out = codes "out"

-- the auxiliary tags
abbrev pub auxiliary_tags : List Tag
auxiliary_tags = tag.Choice ∷ tag.Go ∷ tag.Turn ∷ tag.Begin ∷ tag.End ∷ tag.Out ∷ []

-- the auxiliary tag of this word
unfoldable pub auxiliary_of : List ℕ → Option Tag
auxiliary_of bytes = find (λ tag. bytes_eq bytes (tag_word tag)) auxiliary_tags
