-- How a line is read from left to right: what each reader finds at the front of a list of
-- lexemes, and what it leaves.
use Rattle.std.specs.Prelude.{◌≡◌, ℕ, ◌<◌, ◌≤◌, Bool, true, false, List, ◌∷◌, length, drop, Option, Some, None, Result, Ok, Err, codes, if◌then◌else◌}
use Rattle.std.specs.Str.{bytes_eq}
use Rattle.dioc_terms.specs.declared.names.Index.{Index}
use Rattle.dioc_terms.specs.declared.processes.Tag.{Tag}
use Rattle.dioc_terms.specs.declared.processes.Tag.TheVariants as tag
use Rattle.dioc_terms.specs.declared.processes.Key.{Key}
use Rattle.dioc_terms.specs.declared.entries.Note.{Note}
use Rattle.dioc_terms.specs.declared.entries.Note.TheVariants as note
use Rattle.dioc_terms.specs.declared.entries.Chosen.{Chosen}
use Rattle.dioc_terms.specs.declared.entries.Chosen.TheVariants as chosen
use Rattle.dioc_terms.specs.declared.entries.Entry.TheVariants as entry
use Rattle.dioc_terms.specs.declared.bundles.Last.TheVariants as last
use Rattle.limits.specs.Limits.{greatest_place}
use Rattle.aioc_tokens.specs.declared.words.Word.TheVariants as word
use Rattle.aioc_tokens.specs.declared.words.Punctuator.{Punctuator}
use Rattle.aioc_tokens.specs.declared.words.Punctuator.TheVariants as punctuator
use Rattle.aioc_tokens.specs.Words.{punctuator_spelling}
use Rattle.aioc_tokens.specs.Lexemes.{Lexeme, Name, Reserved, Symbol}
use Rattle.expr_syntax.specs.Constants.{number, greatest, constant}
use Rattle.trace_syntax.specs.Words.{line_word_of, auxiliary_of}
use Rattle.trace_syntax.specs.Grammar.{role, index, is_operation}
use Rattle.trace_syntax.specs.declared.words.LineWord.{LineWord}
use Rattle.trace_syntax.specs.declared.words.LineWord.TheVariants as begin
use Rattle.trace_syntax.specs.declared.words.Setting.{Setting}
use Rattle.trace_syntax.specs.declared.words.Line.{Line}
use Rattle.trace_syntax.specs.declared.words.Line.TheVariants as line
use Rattle.trace_syntax.specs.declared.words.LineFault.{LineFault}
use Rattle.trace_syntax.specs.declared.words.LineFault.TheVariants as fault

infixl 10 ◌>>=◌
abbrev pub ◌>>=◌ : {A B : Type 0} → Option A → (A → Option B) → Option B
(Some x) >>= f = f x
None >>= f = None

-- what is found at the front, and what is left behind it
abbrev pub Found : Type 0 → Type 0
Found A = Option (A × List Lexeme)

-- what is left behind this symbol, and behind this name
unfoldable pub behind_symbol : Punctuator → List Lexeme → Option (List Lexeme)
behind_symbol sign (Symbol first ∷ others) =
    if bytes_eq (punctuator_spelling first) (punctuator_spelling sign) then Some others else None
behind_symbol sign _ = None

unfoldable pub behind_word : List ℕ → List Lexeme → Option (List Lexeme)
behind_word word (Name first ∷ others) = if bytes_eq first word then Some others else None
behind_word word _ = None

unfoldable pub first_name : List Lexeme → Found (List ℕ)
first_name (Name first ∷ others) = Some (first, others)
first_name _ = None

unfoldable pub first_number : ℕ → List Lexeme → Found ℕ
first_number most from = do
  n ← number most from
  Some (n, drop 1 from)

unfoldable pub first_truth : List Lexeme → Found Bool
first_truth (Reserved word.True ∷ others) = Some (true, others)
first_truth (Reserved word.False ∷ others) = Some (false, others)
first_truth _ = None

unfoldable pub first_index : List Lexeme → Found Index
first_index from = do
  marked ← behind_symbol punctuator.Hash from
  epoch ← first_number greatest_place marked
  dotted ← behind_symbol punctuator.Dot epoch.1
  place ← first_number greatest_place dotted
  Some (index epoch.0 place.0, place.1)

unfoldable pub first_auxiliary : List Lexeme → Found Tag
first_auxiliary from = do
  word ← first_name from
  aux ← auxiliary_of word.0
  Some (aux, word.1)

unfoldable pub first_tag : List Lexeme → Found Tag
first_tag (Name name ∷ others) = Some (tag.Op name, others)
first_tag (Symbol punctuator.Bang ∷ others) = first_auxiliary others
first_tag _ = None

unfoldable pub first_key : List Lexeme → Found Key
first_key from = do
  sender ← first_name from
  sent ← behind_symbol punctuator.Arrow sender.1
  receiver ← first_name sent
  what ← first_tag receiver.1
  place ← first_index what.1
  Some (
    record { from = role sender.0; to = role receiver.0; index = place.0; tag = what.0 },
    place.1,
  )

unfoldable pub first_flag : List Lexeme → Found Note
first_flag from = do
  truth ← first_truth from
  Some (note.Flag truth.0, truth.1)

unfoldable pub first_done : List Lexeme → Found Note
first_done from = do
  rest ← behind_word (codes "done") from
  Some (note.Done, rest)

unfoldable pub first_payload : List Lexeme → Found Note
first_payload from = do
  v ← constant from
  Some (note.Val v.0, v.1)

unfoldable pub first_part : List Lexeme → Found Note
first_part from = do
  rest ← behind_word (codes "part") from
  epoch ← first_number greatest_place rest
  Some (note.Part epoch.0, epoch.1)

abbrev pub or_else : {A : Type 0} → Option A → Option A → Option A
or_else (Some x) other = Some x
or_else None other = other

unfoldable pub first_keep : List Lexeme → Found Note
first_keep from = do
  rest ← behind_word (codes "keep") from
  Some (note.Keep, rest)

unfoldable pub first_begin : List Lexeme → Found Note
first_begin from = or_else (first_keep from) (first_part from)

unfoldable pub first_note : Tag → List Lexeme → Found Note
first_note (tag.Op name) from = first_payload from
first_note tag.Choice from = first_flag from
first_note tag.Go from = first_flag from
first_note tag.Turn from = first_done from
first_note tag.End from = first_done from
first_note tag.Out from = first_done from
first_note tag.Begin from = first_begin from

unfoldable pub first_setting : List Lexeme → Found Setting
first_setting from = do
  variable ← first_name from
  owned ← behind_symbol punctuator.At variable.1
  owner ← first_name owned
  place ← first_index owner.1
  equated ← behind_symbol punctuator.Equal place.1
  v ← constant equated
  Some (record { index = place.0; role = role owner.0; var = variable.0; value = v.0 }, v.1)

unfoldable pub first_rule : List Lexeme → Found Chosen
first_rule from = do
  name ← first_name from
  rest ← behind_word (codes "as") name.1
  epoch ← first_number greatest_place rest
  Some (chosen.Rule name.0 epoch.0, epoch.1)

unfoldable pub first_kept : List Lexeme → Found Chosen
first_kept from = do
  rest ← behind_word (codes "keep") from
  Some (chosen.Keep, rest)

unfoldable pub first_choice : List Lexeme → Found Chosen
first_choice (Reserved word.Rule ∷ others) = first_rule others
first_choice from = first_kept from

unfoldable pub first_put : List Lexeme → Found Line
first_put from = do
  key ← first_key from
  equated ← behind_symbol punctuator.Equal key.1
  payload ← first_note key.0.tag equated
  Some (line.Entry (entry.Put key.0 payload.0), payload.1)

unfoldable pub first_variable : Tag → List Lexeme → Found (Option (List ℕ))
first_variable what from =
    if is_operation what
    then (first_name from >>= λ variable. Some (Some variable.0, variable.1))
    else Some (None, from)

unfoldable pub first_take : List Lexeme → Found Line
first_take from = do
  key ← first_key from
  variable ← first_variable key.0.tag key.1
  Some (line.Entry (entry.Take key.0 variable.0), variable.1)

unfoldable pub first_set : List Lexeme → Found Line
first_set from = do
  setting ← first_setting from
  Some (
    line.Entry (entry.Set setting.0.index setting.0.role setting.0.var setting.0.value),
    setting.1,
  )

unfoldable pub first_input : List Lexeme → Found Line
first_input from = do
  setting ← first_setting from
  Some (
    line.Entry (entry.Input setting.0.index setting.0.role setting.0.var setting.0.value),
    setting.1,
  )

unfoldable pub first_pick : List Lexeme → Found Line
first_pick from = do
  chooser ← first_name from
  place ← first_index chooser.1
  flag ← first_truth place.1
  Some (line.Entry (entry.Pick place.0 (role chooser.0) flag.0), flag.1)

unfoldable pub first_scope : List Lexeme → Found Line
first_scope from = do
  leader ← first_name from
  place ← first_index leader.1
  choice ← first_choice place.1
  Some (line.Entry (entry.Scope place.0 (role leader.0) choice.0), choice.1)

unfoldable pub first_add : List Lexeme → Found Line
first_add from = do
  name ← first_name from
  Some (line.Entry (entry.Add name.0), name.1)

unfoldable pub first_drop : List Lexeme → Found Line
first_drop from = do
  name ← first_name from
  Some (line.Entry (entry.Drop name.0), name.1)

unfoldable pub first_env : List Lexeme → Found Line
first_env from = do
  key ← first_name from
  equated ← behind_symbol punctuator.Equal key.1
  v ← constant equated
  Some (line.Entry (entry.Env key.0 v.0), v.1)

unfoldable pub first_ended : List Lexeme → Found Line
first_ended from = do
  count ← first_number greatest from
  Some (line.Last (last.Ended count.0), count.1)

unfoldable pub first_stopped : List Lexeme → Found Line
first_stopped from = do
  count ← first_number greatest from
  Some (line.Last (last.Stopped count.0), count.1)

-- what stands behind a word that begins a line
unfoldable pub line_behind : LineWord → List Lexeme → Found Line
line_behind begin.Put from = first_put from
line_behind begin.Take from = first_take from
line_behind begin.Set from = first_set from
line_behind begin.Pick from = first_pick from
line_behind begin.Add from = first_add from
line_behind begin.Drop from = first_drop from
line_behind begin.Env from = first_env from
line_behind begin.Ended from = first_ended from
line_behind begin.Stopped from = first_stopped from

unfoldable pub first_line : List Lexeme → Found Line
first_line (Name first ∷ others) = line_word_of first >>= λ word. line_behind word others
first_line (Reserved word.Input ∷ others) = first_input others
first_line (Reserved word.Scope ∷ others) = first_scope others
first_line _ = None

-- What a reader answers at a place of the text is what the function finds there and the place
-- behind it, unless memory ran out.
abbrev pub ReadsAt : {A : Type 0} → (List Lexeme → Found A) → List Lexeme → ℕ
    → Result (A × ℕ) LineFault → Type 0
ReadsAt finds text at (Ok read) = (finds (drop at text) ≡ Some (read.0, drop read.1 text))
    × (at < read.1) × (read.1 ≤ length text)
ReadsAt finds text at (Err fault.NoLine) = finds (drop at text) ≡ None
ReadsAt finds text at (Err fault.Memory) = Unit {0}

-- the same of a reader that answers the place alone
abbrev pub PassesAt : (List Lexeme → Option (List Lexeme)) → List Lexeme → ℕ → Result ℕ LineFault
    → Type 0
PassesAt leaves text at (Ok next) = (leaves (drop at text) ≡ Some (drop next text)) × (at < next)
    × (next ≤ length text)
PassesAt leaves text at (Err fault.NoLine) = leaves (drop at text) ≡ None
PassesAt leaves text at (Err fault.Memory) = Unit {0}
