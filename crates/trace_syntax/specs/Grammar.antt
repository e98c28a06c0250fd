-- The lines of a trace: which lexemes are the line of which entry. Spaces and line breaks are free
-- between them. Each relation reads a value from a list of lexemes up to a rest of it.
use Rattle.std.specs.Prelude.{◌≡◌, ◌≢◌, ℕ, suc, Bool, true, false, List, [], ◌∷◌, length, Option, Some, None, codes}
use Rattle.dioc_terms.specs.declared.names.Role.{Role}
use Rattle.dioc_terms.specs.declared.names.Index.{Index}
use Rattle.dioc_terms.specs.declared.values.Value.{Value}
use Rattle.dioc_terms.specs.declared.processes.Tag.{Tag}
use Rattle.dioc_terms.specs.declared.processes.Tag.TheVariants as tag
use Rattle.dioc_terms.specs.declared.processes.Key.{Key}
use Rattle.dioc_terms.specs.declared.entries.Note.{Note}
use Rattle.dioc_terms.specs.declared.entries.Note.TheVariants as note
use Rattle.dioc_terms.specs.declared.entries.Chosen.{Chosen}
use Rattle.dioc_terms.specs.declared.entries.Chosen.TheVariants as chosen
use Rattle.dioc_terms.specs.declared.entries.Entry.{Entry}
use Rattle.dioc_terms.specs.declared.entries.Entry.TheVariants as entry
use Rattle.dioc_terms.specs.declared.bundles.Last.{Last}
use Rattle.dioc_terms.specs.declared.bundles.Last.TheVariants as last
use Rattle.limits.specs.Limits.{greatest_place}
use Rattle.aioc_tokens.specs.declared.words.Word.TheVariants as word
use Rattle.aioc_tokens.specs.declared.words.Punctuator.TheVariants as punctuator
use Rattle.aioc_tokens.specs.declared.words.Sort.TheVariants as sorts
use Rattle.aioc_tokens.specs.Lexemes.{Lexeme, Name, Number, Reserved, Symbol, sort_of}
use Rattle.expr_syntax.specs.Constants.{number_up_to, greatest, constant, before}
use Rattle.trace_syntax.specs.Words.{auxiliary_of}
use Rattle.trace_syntax.specs.declared.words.Setting.{Setting}
use Rattle.trace_syntax.specs.declared.words.Line.{Line}
use Rattle.trace_syntax.specs.declared.words.Line.TheVariants as line

-- a role by its name
abbrev pub role : List ℕ → Role
role name = record { 0 = name }

abbrev pub index : ℕ → ℕ → Index
index epoch place = record { epoch = epoch; place = place }

-- `#0.3`
pub data IsIndex (from : List Lexeme) : Index → List Lexeme → Type 0 where
  is_index : {epoch_digits place_digits : List ℕ} {epoch place : ℕ} {to : List Lexeme}
      → from ≡ Symbol punctuator.Hash ∷ Number epoch_digits ∷ Symbol punctuator.Dot ∷
      Number place_digits ∷ to
      → number_up_to greatest_place epoch_digits ≡ Some epoch
      → number_up_to greatest_place place_digits ≡ Some place
      → IsIndex from (index epoch place) to

-- `o` or `!choice`
pub data IsTag (from : List Lexeme) : Tag → List Lexeme → Type 0 where
  operation : {name : List ℕ} {to : List Lexeme}
      → from ≡ Name name ∷ to
      → IsTag from (tag.Op name) to
  auxiliary : {word : List ℕ} {aux : Tag} {to : List Lexeme}
      → from ≡ Symbol punctuator.Bang ∷ Name word ∷ to
      → auxiliary_of word ≡ Some aux
      → IsTag from aux to

-- `a -> b o#0.3`
pub data IsKey (from : List Lexeme) : Key → List Lexeme → Type 0 where
  is_key : {sender receiver : List ℕ} {what : Tag} {where_sent : Index}
      {tagged indexed to : List Lexeme}
      → from ≡ Name sender ∷ Symbol punctuator.Arrow ∷ Name receiver ∷ tagged
      → IsTag tagged what indexed
      → IsIndex indexed where_sent to
      → IsKey from
      (record { from = role sender; to = role receiver; index = where_sent; tag = what }) to

-- `true` or `false`
pub data IsTruth (from : List Lexeme) : Bool → List Lexeme → Type 0 where
  is_true : {to : List Lexeme} → from ≡ Reserved word.True ∷ to → IsTruth from true to
  is_false : {to : List Lexeme} → from ≡ Reserved word.False ∷ to → IsTruth from false to

-- The payload of a message, which fits its tag: the value of an operation; `true` or `false` of a
-- choice and a go; `done` of an end of a turn, an end and a release; `keep` or `part 1` of a begin.
pub data IsNote (from : List Lexeme) : Tag → Note → List Lexeme → Type 0 where
  value : {name : List ℕ} {v : Value} {to : List Lexeme}
      → constant from ≡ Some (before to v)
      → IsNote from (tag.Op name) (note.Val v) to
  choice : {flag : Bool} {to : List Lexeme}
      → IsTruth from flag to
      → IsNote from tag.Choice (note.Flag flag) to
  go : {flag : Bool} {to : List Lexeme}
      → IsTruth from flag to
      → IsNote from tag.Go (note.Flag flag) to
  turn_done : {to : List Lexeme}
      → from ≡ Name (codes "done") ∷ to
      → IsNote from tag.Turn note.Done to
  end_done : {to : List Lexeme} → from ≡ Name (codes "done") ∷ to → IsNote from tag.End note.Done to
  out_done : {to : List Lexeme} → from ≡ Name (codes "done") ∷ to → IsNote from tag.Out note.Done to
  keeps : {to : List Lexeme} → from ≡ Name (codes "keep") ∷ to → IsNote from tag.Begin note.Keep to
  part : {digits : List ℕ} {epoch : ℕ} {to : List Lexeme}
      → from ≡ Name (codes "part") ∷ Number digits ∷ to
      → number_up_to greatest_place digits ≡ Some epoch
      → IsNote from tag.Begin (note.Part epoch) to

-- whether a tag is an operation's
abbrev pub is_operation : Tag → Bool
is_operation (tag.Op name) = true
is_operation _ = false

-- The variable of a take: one stands there exactly where the tag is an operation.
pub data IsVariable (from : List Lexeme) : Tag → Option (List ℕ) → List Lexeme → Type 0 where
  variable : {name variable : List ℕ} {to : List Lexeme}
      → from ≡ Name variable ∷ to
      → IsVariable from (tag.Op name) (Some variable) to
  no_variable : {aux : Tag} → is_operation aux ≡ false → IsVariable from aux None from

-- `x@a #0.3 = 5`
pub data IsSetting (from : List Lexeme) : Setting → List Lexeme → Type 0 where
  is_setting : {variable owner : List ℕ} {where_set : Index} {v : Value}
      {indexed equated valued to : List Lexeme}
      → from ≡ Name variable ∷ Symbol punctuator.At ∷ Name owner ∷ indexed
      → IsIndex indexed where_set equated
      → equated ≡ Symbol punctuator.Equal ∷ valued
      → constant valued ≡ Some (before to v)
      → IsSetting from
      (record { index = where_set; role = role owner; var = variable; value = v }) to

-- `keep` or `rule cheap as 1`
pub data IsChoice (from : List Lexeme) : Chosen → List Lexeme → Type 0 where
  kept : {to : List Lexeme} → from ≡ Name (codes "keep") ∷ to → IsChoice from chosen.Keep to
  replaced : {name digits : List ℕ} {epoch : ℕ} {to : List Lexeme}
      → from ≡ Reserved word.Rule ∷ Name name ∷ Name (codes "as") ∷ Number digits ∷ to
      → number_up_to greatest_place digits ≡ Some epoch
      → IsChoice from (chosen.Rule name epoch) to

-- The line of an entry, or a last line.
pub data IsLine (from : List Lexeme) : Line → List Lexeme → Type 0 where
  -- put a -> b o#0.3 = 5
  put : {key : Key} {payload : Note} {keyed equated noted to : List Lexeme}
      → from ≡ Name (codes "put") ∷ keyed
      → IsKey keyed key equated
      → equated ≡ Symbol punctuator.Equal ∷ noted
      → IsNote noted key.tag payload to
      → IsLine from (line.Entry (entry.Put key payload)) to
  -- take a -> b o#0.3 x
  take : {key : Key} {var : Option (List ℕ)} {keyed named to : List Lexeme}
      → from ≡ Name (codes "take") ∷ keyed
      → IsKey keyed key named
      → IsVariable named key.tag var to
      → IsLine from (line.Entry (entry.Take key var)) to
  -- set x@a #0.3 = 5
  set : {setting : Setting} {rest to : List Lexeme}
      → from ≡ Name (codes "set") ∷ rest
      → IsSetting rest setting to
      → IsLine from (line.Entry (entry.Set setting.index setting.role setting.var setting.value)) to
  -- input x@a #0.3 = 5
  input : {setting : Setting} {rest to : List Lexeme}
      → from ≡ Reserved word.Input ∷ rest
      → IsSetting rest setting to
      → IsLine from (line.Entry (entry.Input setting.index setting.role setting.var
      setting.value)) to
  -- pick a #0.4 true
  pick : {chooser : List ℕ} {where_picked : Index} {flag : Bool} {indexed judged to : List Lexeme}
      → from ≡ Name (codes "pick") ∷ Name chooser ∷ indexed
      → IsIndex indexed where_picked judged
      → IsTruth judged flag to
      → IsLine from (line.Entry (entry.Pick where_picked (role chooser) flag)) to
  -- scope s #0.6 keep
  scope : {leader : List ℕ} {where_chosen : Index} {choice : Chosen}
      {indexed chosen to : List Lexeme}
      → from ≡ Reserved word.Scope ∷ Name leader ∷ indexed
      → IsIndex indexed where_chosen chosen
      → IsChoice chosen choice to
      → IsLine from (line.Entry (entry.Scope where_chosen (role leader) choice)) to
  -- add cheap
  add : {name : List ℕ} {to : List Lexeme}
      → from ≡ Name (codes "add") ∷ Name name ∷ to
      → IsLine from (line.Entry (entry.Add name)) to
  -- drop cheap
  drop : {name : List ℕ} {to : List Lexeme}
      → from ≡ Name (codes "drop") ∷ Name name ∷ to
      → IsLine from (line.Entry (entry.Drop name)) to
  -- env k = 5
  env : {key : List ℕ} {v : Value} {valued to : List Lexeme}
      → from ≡ Name (codes "env") ∷ Name key ∷ Symbol punctuator.Equal ∷ valued
      → constant valued ≡ Some (before to v)
      → IsLine from (line.Entry (entry.Env key v)) to
  -- ended 5
  ended : {digits : List ℕ} {count : ℕ} {to : List Lexeme}
      → from ≡ Name (codes "ended") ∷ Number digits ∷ to
      → number_up_to greatest digits ≡ Some count
      → IsLine from (line.Last (last.Ended count)) to
  -- stopped 5
  stopped : {digits : List ℕ} {count : ℕ} {to : List Lexeme}
      → from ≡ Name (codes "stopped") ∷ Number digits ∷ to
      → number_up_to greatest digits ≡ Some count
      → IsLine from (line.Last (last.Stopped count)) to

-- the lines of entries, one after the other
pub data AreEntries : List Lexeme → List Entry → List Lexeme → Type 0 where
  no_entry : {to : List Lexeme} → AreEntries to [] to
  one_more : {from middle to : List Lexeme} {first : Entry} {others : List Entry}
      → IsLine from (line.Entry first) middle
      → AreEntries middle others to
      → AreEntries from (first ∷ others) to

-- the lines of a trace: those of its entries, and then the last line where there is one
pub data IsTrace (from : List Lexeme) (entries : List Entry) :
    Option Last → List Lexeme → Type 0 where
  goes_on : {to : List Lexeme} → AreEntries from entries to → IsTrace from entries None to
  is_over : {middle to : List Lexeme} {end : Last}
      → AreEntries from entries middle
      → IsLine middle (line.Last end) to
      → IsTrace from entries (Some end) to

-- how many lines a trace has
abbrev pub line_count : List Entry → Option Last → ℕ
line_count entries None = length entries
line_count entries (Some end) = suc (length entries)

-- no line that may stand behind these stands here: none at all, or any behind a last line
abbrev pub NoLine : Option Last → List Lexeme → Type 0
NoLine None from = (next : Line) (to : List Lexeme) → IsLine from next to → ⊥
NoLine (Some end) from = Unit {0}

-- The lines from here on, up to the `}` that closes them.
pub record IsClosedTrace (from : List Lexeme) (entries : List Entry) (end : Option Last)
    (to : List Lexeme) : Type 0 where
  pub lines : IsTrace from entries end to
  pub closes : sort_of to ≡ sorts.Symbol punctuator.RightBrace

-- The line of this number, counted from 1, is none: the lines before it, a last line counted
-- among them, are followed by neither a `}` nor a line that may stand there. The end of the list
-- is no line.
pub record IsBadLine (from : List Lexeme) (number : ℕ) : Type 0 where
  pub entries : List Entry
  pub end : Option Last
  pub behind : List Lexeme
  pub lines : IsTrace from entries end behind
  pub counts : number ≡ suc (line_count entries end)
  pub not_closed : sort_of behind ≢ sorts.Symbol punctuator.RightBrace
  pub no_line : NoLine end behind
