-- One token: what each goal makes of it.
use Rattle.std.specs.Prelude.{ℕ, [], Some, if◌then◌else◌, nat_le, ◌==◌}
use Rattle.std.specs.Str.{bytes_eq}
use Rattle.aioc_tokens.specs.declared.words.Word.{Word}
use Rattle.aioc_tokens.specs.declared.words.Word.TheVariants as word
use Rattle.aioc_tokens.specs.declared.words.Punctuator.{Punctuator}
use Rattle.aioc_tokens.specs.Words.{word_spelling, punctuator_spelling}
use Rattle.wanted_tokens.specs.declared.looks.PlaceWord.TheVariants as place
use Rattle.wanted_tokens.specs.declared.looks.Look.{Look}
use Rattle.wanted_tokens.specs.declared.looks.Look.TheVariants as looks
use Rattle.wanted_tokens.specs.Takings.{GoalEffect, Takes, Stops}

abbrev pub symbol : Punctuator → Look → GoalEffect
symbol wanted (looks.Symbol found) =
    if bytes_eq (punctuator_spelling found) (punctuator_spelling wanted) then Takes [] else Stops
symbol wanted _ = Stops

abbrev pub reserved : Word → Look → GoalEffect
reserved wanted (looks.Reserved found) =
    if bytes_eq (word_spelling found) (word_spelling wanted) then Takes [] else Stops
reserved wanted _ = Stops

abbrev pub name : Look → GoalEffect
name (looks.Name found) = Takes []
name _ = Stops

abbrev pub done : Look → GoalEffect
done (looks.Name (Some place.Done)) = Takes []
done _ = Stops

abbrev pub as_word : Look → GoalEffect
as_word (looks.Name (Some place.As)) = Takes []
as_word _ = Stops

abbrev pub truth : Look → GoalEffect
truth (looks.Reserved word.True) = Takes []
truth (looks.Reserved word.False) = Takes []
truth _ = Stops

abbrev pub two : Look → GoalEffect
two (looks.Number (Some n)) = if n == 2 then Takes [] else Stops
two _ = Stops

abbrev pub take_number : ℕ → Look → GoalEffect
take_number most (looks.Number (Some n)) = if nat_le n most then Takes [] else Stops
take_number most _ = Stops
