-- What is read from a text is formed, and what is left can be written.
use Rattle.std.proofs.Common.{◌≡◌, ℕ, ◌≤◌, List, [], ◌∷◌, ◌&&◌, Bool, true, false, cond, not, nat_le, Option, Some, None, refl, subst, arith}
use Rattle.std.proofs.lemmas.Bool.{le-leb, leb-true}
use Rattle.std.specs.List.{find, list_all, AllByRecursion}
use Rattle.std.specs.Str.{bytes_eq}
use Rattle.std.specs.Str.Parse.{digits_value}
use Rattle.dioc_terms.specs.declared.names.Index.{Index}
use Rattle.dioc_terms.specs.declared.processes.Tag.{Tag}
use Rattle.dioc_terms.specs.declared.processes.Tag.TheVariants as tag
use Rattle.dioc_terms.specs.declared.processes.Key.{Key}
use Rattle.dioc_terms.specs.declared.entries.Note.{Note}
use Rattle.dioc_terms.specs.declared.entries.Chosen.{Chosen}
use Rattle.dioc_terms.specs.declared.entries.Entry.{Entry}
use Rattle.dioc_terms.specs.declared.bundles.Last.{Last}
use Rattle.dioc_terms.specs.Bundles.{is_identifier, is_constant, note_fits, variable_fits, is_formed_index, is_formed_key, is_formed_choice, is_formed_entry, is_formed_last}
use Rattle.limits.specs.Limits.{greatest_place, largest}
use Rattle.aioc_tokens.specs.Lexemes.{Lexeme, Name}
use Rattle.expr_syntax.specs.Constants.{number_up_to, greatest}
use Rattle.expr_syntax.proofs.ReadFormed.{CanBeWritten, identifier_valid, constant_valid, valid_from, all_valid}
use Rattle.trace_syntax.specs.Words.{tag_word, auxiliary_tags, auxiliary_of}
use Rattle.trace_syntax.specs.Laws.{ReadIsFormed}
use Rattle.trace_syntax.specs.Grammar.{is_operation, IsIndex, is_index, IsTag, operation, auxiliary, IsKey, is_key, IsTruth, is_true, is_false, IsNote, value, choice, go, turn_done, end_done, out_done, keeps, part, IsVariable, variable, no_variable, IsSetting, is_setting, IsChoice, kept, replaced, IsLine, put, take, set, input, pick, scope, add, drop as dropped, env, ended, stopped, AreEntries, no_entry, one_more, IsTrace, goes_on, is_over}
use Rattle.trace_syntax.specs.declared.words.Setting.{Setting}
use Rattle.trace_syntax.specs.declared.words.Line.{Line}
use Rattle.trace_syntax.specs.declared.words.Line.TheVariants as line

-- the lexemes of a list that aren't too long can be written
abbrev pub Writable : List Lexeme → Type 0
Writable from = AllByRecursion CanBeWritten from

name_valid : (name : List ℕ) → CanBeWritten (Name name) → is_identifier name ≡ true
name_valid name written = identifier_valid name (written (λ is. cc))

number_small : (most n : ℕ) (digits : List ℕ) → number_up_to most digits ≡ Some n → n ≤ most
number_small most n digits is = go (nat_le (digits_value 10 digits) most) refl is
  where
    go : (fits : Bool) → nat_le (digits_value 10 digits) most ≡ fits → cond fits (Some (digits_value 10 digits)) None ≡ Some n → n ≤ most
    go true small same = let value_is : digits_value 10 digits ≡ n = cc in omega (arith, leb-true (digits_value 10 digits) most small)
    go false great same = absurd cc

index_fits : (n : ℕ) → n ≤ greatest_place → nat_le n greatest_place ≡ true
index_fits n small = le-leb n greatest_place small

-- an index, a key and their parts
index_formed : {from to : List Lexeme} {place : Index} → Writable from → IsIndex from place to → (is_formed_index place ≡ true) × Writable to
index_formed {from} {to} writable (is_index {epoch_digits = e} {place_digits = p} {epoch = epoch} {place = place} begins epoch_is place_is) =
    let rest = subst Writable begins writable in
    (λ j. index_fits epoch (number_small greatest_place epoch e epoch_is) j && index_fits place (number_small greatest_place place p place_is) j, rest.1.1.1.1)

-- a tag is auxiliary, or an operation of the grammar
data IsTagOf : Tag → Type 0 where
  names : {name : List ℕ} → is_identifier name ≡ true → IsTagOf (tag.Op name)
  other : {aux : Tag} → is_operation aux ≡ false → IsTagOf aux

-- what a table gives passes a test that all of its rows pass
find_passes : (test : Tag → Bool) (passes : Tag → Bool) (rows : List Tag) (row : Tag) → list_all (λ tag. not (passes tag)) rows ≡ true → find test rows ≡ Some row → passes row ≡ false
find_passes test passes [] row all found = absurd cc
find_passes test passes (next ∷ rows) row all found = go (test next) (passes next) refl all found (find_passes test passes rows row)
  where
    go : (same : Bool) (pass : Bool) → passes next ≡ pass → (not pass && list_all (λ tag. not (passes tag)) rows) ≡ true → cond same (Some next) (find test rows) ≡ Some row
        → (list_all (λ tag. not (passes tag)) rows ≡ true → find test rows ≡ Some row → passes row ≡ false) → passes row ≡ false
    go true false is every taken rest = let same : next ≡ row = cc in subst (λ tag. passes tag ≡ false) same is
    go true true is every taken rest = absurd cc
    go false false is every taken rest = rest every taken
    go false true is every taken rest = absurd cc

auxiliary_other : (word : List ℕ) (aux : Tag) → auxiliary_of word ≡ Some aux → is_operation aux ≡ false
unfolding auxiliary_of
auxiliary_other word aux is = find_passes (λ tag. bytes_eq word (tag_word tag)) is_operation auxiliary_tags aux refl is

tag_formed : {from to : List Lexeme} {what : Tag} → Writable from → IsTag from what to → IsTagOf what × Writable to
tag_formed writable (operation {name = name} begins) = let rest = subst Writable begins writable in (names (name_valid name rest.0), rest.1)
tag_formed writable (auxiliary {word = word} {aux = aux} begins is) = let rest = subst Writable begins writable in (other (auxiliary_other word aux is), rest.1.1)

-- what is known of a key that was read
record IsKeyOf (key : Key) : Type 0 where
  pub formed : is_formed_key key ≡ true
  pub what : IsTagOf key.tag

key_formed : {from to : List Lexeme} {key : Key} → Writable from → IsKey from key to → IsKeyOf key × Writable to
key_formed writable (is_key {sender = sender} {receiver = receiver} begins what place) =
    let rest = subst Writable begins writable in
    let tagged = tag_formed rest.1.1.1 what in
    let indexed = index_formed tagged.1 place in
    (record { formed = λ j. name_valid sender rest.0 j && name_valid receiver rest.1.1.0 j && indexed.0 j; what = tagged.0 }, indexed.1)

truth_formed : {from to : List Lexeme} {flag : Bool} → Writable from → IsTruth from flag to → Writable to
truth_formed writable (is_true begins) = (subst Writable begins writable).1
truth_formed writable (is_false begins) = (subst Writable begins writable).1

operation_named : {name : List ℕ} → IsTagOf (tag.Op name) → is_identifier name ≡ true
operation_named (names is) = is
operation_named (other none) = absurd cc

note_formed : {from to : List Lexeme} {what : Tag} {payload : Note} → Writable from → IsTagOf what → IsNote from what payload to → (note_fits what payload ≡ true) × Writable to
note_formed {from} {to} writable named (value {v = v} is) =
    let read = constant_valid from v to writable is in (λ j. operation_named named j && read.0 j, read.1)
note_formed writable named (choice flag) = (refl, truth_formed writable flag)
note_formed writable named (go flag) = (refl, truth_formed writable flag)
note_formed writable named (turn_done begins) = (refl, (subst Writable begins writable).1)
note_formed writable named (end_done begins) = (refl, (subst Writable begins writable).1)
note_formed writable named (out_done begins) = (refl, (subst Writable begins writable).1)
note_formed writable named (keeps begins) = (refl, (subst Writable begins writable).1)
note_formed writable named (part {digits = digits} {epoch = epoch} begins is) =
    (index_fits epoch (number_small greatest_place epoch digits is), (subst Writable begins writable).1.1)

no_variable_fits : (aux : Tag) → is_operation aux ≡ false → variable_fits aux None ≡ true
no_variable_fits (tag.Op name) none = absurd cc
no_variable_fits tag.Choice none = refl
no_variable_fits _ none = refl

variable_formed : {from to : List Lexeme} {what : Tag} {var : Option (List ℕ)} → Writable from → IsTagOf what → IsVariable from what var to → (variable_fits what var ≡ true) × Writable to
variable_formed writable named (variable {variable = x} begins) =
    let rest = subst Writable begins writable in (λ j. operation_named named j && name_valid x rest.0 j, rest.1)
variable_formed writable named (no_variable {aux = aux} none) = (no_variable_fits aux none, writable)

-- what a line says that sets a variable
abbrev is_formed_setting : Setting → Bool
is_formed_setting s = is_formed_index s.index && is_identifier s.role.0 && is_identifier s.var && is_constant s.value

setting_formed : {from to : List Lexeme} {setting : Setting} → Writable from → IsSetting from setting to → (is_formed_setting setting ≡ true) × Writable to
setting_formed {from} {to} writable (is_setting {variable = x} {owner = owner} {v = v} {valued = valued} begins place equated is) =
    let rest = subst Writable begins writable in
    let indexed = index_formed rest.1.1.1 place in
    let read = constant_valid valued v to (subst Writable equated indexed.1).1 is in
    (λ j. indexed.0 j && name_valid owner rest.1.1.0 j && name_valid x rest.0 j && read.0 j, read.1)

choice_formed : {from to : List Lexeme} {chosen : Chosen} → Writable from → IsChoice from chosen to → (is_formed_choice chosen ≡ true) × Writable to
choice_formed writable (kept begins) = (refl, (subst Writable begins writable).1)
choice_formed writable (replaced {name = name} {digits = digits} {epoch = epoch} begins is) =
    let rest = subst Writable begins writable in
    (λ j. name_valid name rest.1.0 j && index_fits epoch (number_small greatest_place epoch digits is) j, rest.1.1.1.1)

abbrev is_formed_line : Line → Bool
is_formed_line (line.Entry entry) = is_formed_entry entry
is_formed_line (line.Last end) = is_formed_last (Some end)

line_formed : {from to : List Lexeme} {next : Line} → Writable from → IsLine from next to → (is_formed_line next ≡ true) × Writable to
line_formed writable (put begins key equated payload) =
    let keyed = key_formed (subst Writable begins writable).1 key in
    let noted = note_formed (subst Writable equated keyed.1).1 keyed.0.what payload in
    (λ j. keyed.0.formed j && noted.0 j, noted.1)
line_formed writable (take begins key var) =
    let keyed = key_formed (subst Writable begins writable).1 key in
    let named = variable_formed keyed.1 keyed.0.what var in
    (λ j. keyed.0.formed j && named.0 j, named.1)
line_formed writable (set begins setting) = setting_formed (subst Writable begins writable).1 setting
line_formed writable (input begins setting) = setting_formed (subst Writable begins writable).1 setting
line_formed writable (pick {chooser = chooser} begins place flag) =
    let rest = subst Writable begins writable in
    let indexed = index_formed rest.1.1 place in
    (λ j. indexed.0 j && name_valid chooser rest.1.0 j, truth_formed indexed.1 flag)
line_formed writable (scope {leader = leader} begins place chooses) =
    let rest = subst Writable begins writable in
    let indexed = index_formed rest.1.1 place in
    let chosen = choice_formed indexed.1 chooses in
    (λ j. indexed.0 j && name_valid leader rest.1.0 j && chosen.0 j, chosen.1)
line_formed writable (add {name = name} begins) = let rest = subst Writable begins writable in (name_valid name rest.1.0, rest.1.1)
line_formed writable (dropped {name = name} begins) = let rest = subst Writable begins writable in (name_valid name rest.1.0, rest.1.1)
line_formed {to = to} writable (env {key = key} {v = v} {valued = valued} begins is) =
    let rest = subst Writable begins writable in
    let read = constant_valid valued v to rest.1.1.1 is in
    (λ j. name_valid key rest.1.0 j && read.0 j, read.1)
line_formed writable (ended {digits = digits} {count = count} begins is) = (le-leb count largest (number_small greatest count digits is), (subst Writable begins writable).1.1)
line_formed writable (stopped {digits = digits} {count = count} begins is) = (le-leb count largest (number_small greatest count digits is), (subst Writable begins writable).1.1)

entries_formed : {from to : List Lexeme} {entries : List Entry} → Writable from → AreEntries from entries to → (list_all is_formed_entry entries ≡ true) × Writable to
entries_formed writable no_entry = (refl, writable)
entries_formed writable (one_more first others) =
    let read = line_formed writable first in
    let rest = entries_formed read.1 others in
    (λ j. read.0 j && rest.0 j, rest.1)

-- a trace that is read is formed, and what is left can be written
pub trace_formed : {from to : List Lexeme} {entries : List Entry} {end : Option Last} → Writable from → IsTrace from entries end to → (list_all is_formed_entry entries ≡ true) × (is_formed_last end ≡ true) × Writable to
trace_formed writable (goes_on lines) = let read = entries_formed writable lines in (read.0, refl, read.1)
trace_formed writable (is_over lines is) =
    let read = entries_formed writable lines in
    let last = line_formed read.1 is in
    (read.0, last.0, last.1)

pub read_is_formed : ReadIsFormed
read_is_formed bytes found to at entries end has is =
    let read = trace_formed (valid_from at found (all_valid bytes found has)) is in (read.0, read.1)
