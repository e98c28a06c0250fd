-- What the grammar says stands at the front of a list is what the readers find.
use Rattle.std.proofs.Common.{◌≡◌, ℕ, Bool, List, Option, Some, refl, ap, ◌∙◌}
use Rattle.dioc_terms.specs.declared.names.Index.{Index}
use Rattle.dioc_terms.specs.declared.processes.Tag.{Tag}
use Rattle.dioc_terms.specs.declared.processes.Tag.TheVariants as tag
use Rattle.dioc_terms.specs.declared.processes.Key.{Key}
use Rattle.dioc_terms.specs.declared.entries.Note.{Note}
use Rattle.dioc_terms.specs.declared.entries.Chosen.{Chosen}
use Rattle.aioc_tokens.specs.Lexemes.{Lexeme}
use Rattle.trace_syntax.specs.Words.{line_word_of}
use Rattle.trace_syntax.specs.Grammar.{IsIndex, is_index, IsTag, operation, auxiliary, IsKey, is_key, IsTruth, is_true, is_false, IsNote, value, choice, go, turn_done, end_done, out_done, keeps, part, IsVariable, variable, no_variable, IsSetting, is_setting, IsChoice, kept, replaced, IsLine, put, take, set, input, pick, scope, add, drop as dropped, env, ended, stopped}
use Rattle.trace_syntax.specs.Reading.{behind_symbol, behind_word, first_name, first_number, first_truth, first_index, first_auxiliary, first_tag, first_key, first_flag, first_done, first_payload, first_part, first_keep, first_begin, first_note, first_variable, first_setting, first_rule, first_kept, first_choice, first_put, first_take, first_set, first_input, first_pick, first_scope, first_add, first_drop, first_env, first_ended, first_stopped, line_behind, first_line}
use Rattle.trace_syntax.specs.declared.words.Setting.{Setting}
use Rattle.trace_syntax.specs.declared.words.Line.{Line}

pub index_found : {from to : List Lexeme} {place : Index} → IsIndex from place to → first_index from ≡ Some (place, to)
unfolding first_index behind_symbol first_number
index_found (is_index begins epoch place) = ap first_index begins ∙ rw (epoch, place) refl

pub tag_found : {from to : List Lexeme} {what : Tag} → IsTag from what to → first_tag from ≡ Some (what, to)
unfolding first_tag first_auxiliary first_name
tag_found (operation begins) = ap first_tag begins
tag_found (auxiliary begins is) = ap first_tag begins ∙ rw is refl

pub key_found : {from to : List Lexeme} {key : Key} → IsKey from key to → first_key from ≡ Some (key, to)
unfolding first_key first_name behind_symbol
key_found (is_key begins what place) = ap first_key begins ∙ rw (tag_found what, index_found place) refl

pub truth_found : {from to : List Lexeme} {flag : Bool} → IsTruth from flag to → first_truth from ≡ Some (flag, to)
unfolding first_truth
truth_found (is_true begins) = ap first_truth begins
truth_found (is_false begins) = ap first_truth begins

pub note_found : {from to : List Lexeme} {what : Tag} {payload : Note} → IsNote from what payload to → first_note what from ≡ Some (payload, to)
unfolding first_note first_payload first_flag first_done first_begin first_keep first_part behind_word first_number
note_found (value is) = rw is refl
note_found (choice flag) = rw (truth_found flag) refl
note_found (go flag) = rw (truth_found flag) refl
note_found (turn_done begins) = ap (first_note tag.Turn) begins
note_found (end_done begins) = ap (first_note tag.End) begins
note_found (out_done begins) = ap (first_note tag.Out) begins
note_found (keeps begins) = ap (first_note tag.Begin) begins
note_found (part begins epoch) = ap (first_note tag.Begin) begins ∙ rw epoch refl

pub variable_found : {from to : List Lexeme} {what : Tag} {var : Option (List ℕ)} → IsVariable from what var to → first_variable what from ≡ Some (var, to)
unfolding first_variable first_name
variable_found (variable {name = name} begins) = ap (first_variable (tag.Op name)) begins
variable_found (no_variable other) = rw other refl

pub setting_found : {from to : List Lexeme} {setting : Setting} → IsSetting from setting to → first_setting from ≡ Some (setting, to)
unfolding first_setting first_name behind_symbol
setting_found (is_setting begins place equated is) = ap first_setting begins ∙ rw (index_found place, equated, is) refl

pub choice_found : {from to : List Lexeme} {chosen : Chosen} → IsChoice from chosen to → first_choice from ≡ Some (chosen, to)
unfolding first_choice first_kept first_rule first_name behind_word first_number
choice_found (kept begins) = ap first_choice begins
choice_found (replaced begins epoch) = ap first_choice begins ∙ rw epoch refl

pub line_found : {from to : List Lexeme} {line : Line} → IsLine from line to → first_line from ≡ Some (line, to)
unfolding first_line line_word_of line_behind first_put first_take first_set first_input first_pick first_scope first_add first_drop first_env first_ended first_stopped first_name first_number behind_symbol
line_found (put begins key equated payload) = ap first_line begins ∙ rw (key_found key, equated, note_found payload) refl
line_found (take begins key var) = ap first_line begins ∙ rw (key_found key, variable_found var) refl
line_found (set begins setting) = ap first_line begins ∙ rw (setting_found setting) refl
line_found (input begins setting) = ap first_line begins ∙ rw (setting_found setting) refl
line_found (pick begins place flag) = ap first_line begins ∙ rw (index_found place, truth_found flag) refl
line_found (scope begins place chosen) = ap first_line begins ∙ rw (index_found place, choice_found chosen) refl
line_found (add begins) = ap first_line begins
line_found (dropped begins) = ap first_line begins
line_found (env begins is) = ap first_line begins ∙ rw is refl
line_found (ended begins count) = ap first_line begins ∙ rw count refl
line_found (stopped begins count) = ap first_line begins ∙ rw count refl
