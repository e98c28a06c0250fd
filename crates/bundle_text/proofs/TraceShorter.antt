-- The lines of a trace take tokens.
use Rattle.std.proofs.Common.{ℕ, ◌<◌, ◌≤◌, Bool, List, length, Option, ap, arith}
use Rattle.dioc_terms.specs.declared.names.Index.{Index}
use Rattle.dioc_terms.specs.declared.processes.Tag.{Tag}
use Rattle.dioc_terms.specs.declared.processes.Key.{Key}
use Rattle.dioc_terms.specs.declared.entries.Note.{Note}
use Rattle.dioc_terms.specs.declared.entries.Chosen.{Chosen}
use Rattle.dioc_terms.specs.declared.entries.Entry.{Entry}
use Rattle.dioc_terms.specs.declared.bundles.Last.{Last}
use Rattle.aioc_tokens.specs.Lexemes.{Lexeme}
use Rattle.expr_syntax.proofs.LeafFacts.{constant_shorter}
use Rattle.trace_syntax.specs.declared.words.Setting.{Setting}
use Rattle.trace_syntax.specs.declared.words.Line.{Line}
use Rattle.trace_syntax.specs.Grammar.{IsIndex, is_index, IsTag, operation, auxiliary, IsKey, is_key, IsTruth, is_true, is_false, IsNote, value, choice, go, turn_done, end_done, out_done, keeps, part, IsVariable, variable, no_variable, IsSetting, is_setting, IsChoice, kept, replaced, IsLine, put, take, set, input, pick, scope, add, drop, env, ended, stopped, AreEntries, no_entry, one_more, IsTrace, goes_on, is_over}

index_shorter : {from to : List Lexeme} {i : Index} → IsIndex from i to → length to < length from
index_shorter (is_index begins epoch place) = omega (arith, ap length begins)

tag_shorter : {from to : List Lexeme} {tag : Tag} → IsTag from tag to → length to < length from
tag_shorter (operation begins) = omega (arith, ap length begins)
tag_shorter (auxiliary begins is) = omega (arith, ap length begins)

key_shorter : {from to : List Lexeme} {key : Key} → IsKey from key to → length to < length from
key_shorter (is_key begins tag place) = let first = tag_shorter tag in let second = index_shorter place in omega (arith, ap length begins)

truth_shorter : {from to : List Lexeme} {flag : Bool} → IsTruth from flag to → length to < length from
truth_shorter (is_true begins) = omega (arith, ap length begins)
truth_shorter (is_false begins) = omega (arith, ap length begins)

note_shorter : {from to : List Lexeme} {tag : Tag} {note : Note} → IsNote from tag note to → length to < length from
note_shorter {from} {to} (value {v = v} is) = constant_shorter from to v is
note_shorter (choice is) = truth_shorter is
note_shorter (go is) = truth_shorter is
note_shorter (turn_done begins) = omega (arith, ap length begins)
note_shorter (end_done begins) = omega (arith, ap length begins)
note_shorter (out_done begins) = omega (arith, ap length begins)
note_shorter (keeps begins) = omega (arith, ap length begins)
note_shorter (part begins is) = omega (arith, ap length begins)

variable_shorter : {from to : List Lexeme} {tag : Tag} {name : Option (List ℕ)} → IsVariable from tag name to → length to ≤ length from
variable_shorter (variable begins) = omega (arith, ap length begins)
variable_shorter (no_variable is) = omega arith

setting_shorter : {from to : List Lexeme} {setting : Setting} → IsSetting from setting to → length to < length from
setting_shorter {to = to} (is_setting {v = v} {valued = valued} begins place equals is) =
    let first = index_shorter place in
    let second = constant_shorter valued to v is in
    omega (arith, ap length begins, ap length equals)

choice_shorter : {from to : List Lexeme} {chosen : Chosen} → IsChoice from chosen to → length to < length from
choice_shorter (kept begins) = omega (arith, ap length begins)
choice_shorter (replaced begins is) = omega (arith, ap length begins)

line_shorter : {from to : List Lexeme} {line : Line} → IsLine from line to → length to < length from
line_shorter (put begins key equals note) = let first = key_shorter key in let second = note_shorter note in omega (arith, ap length begins, ap length equals)
line_shorter (take begins key name) = let first = key_shorter key in let second = variable_shorter name in omega (arith, ap length begins)
line_shorter (set begins is) = let first = setting_shorter is in omega (arith, ap length begins)
line_shorter (input begins is) = let first = setting_shorter is in omega (arith, ap length begins)
line_shorter (pick begins place flag) = let first = index_shorter place in let second = truth_shorter flag in omega (arith, ap length begins)
line_shorter (scope begins place chosen) = let first = index_shorter place in let second = choice_shorter chosen in omega (arith, ap length begins)
line_shorter (add begins) = omega (arith, ap length begins)
line_shorter (drop begins) = omega (arith, ap length begins)
line_shorter {to = to} (env {v = v} {valued = valued} begins is) = let first = constant_shorter valued to v is in omega (arith, ap length begins)
line_shorter (ended begins is) = omega (arith, ap length begins)
line_shorter (stopped begins is) = omega (arith, ap length begins)

entries_shorter : {from to : List Lexeme} {entries : List Entry} → AreEntries from entries to → length to ≤ length from
entries_shorter no_entry = omega arith
entries_shorter (one_more first others) = let one = line_shorter first in let more = entries_shorter others in omega arith

pub trace_shorter : {from to : List Lexeme} {entries : List Entry} {last : Option Last} → IsTrace from entries last to → length to ≤ length from
trace_shorter (goes_on lines) = entries_shorter lines
trace_shorter (is_over lines end) = let more = entries_shorter lines in let one = line_shorter end in omega arith
