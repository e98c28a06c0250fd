-- What the readers find at the front of a list is what the grammar says.
use Rattle.std.proofs.Common.{◌≡◌, ℕ, Bool, true, false, List, [], ◌∷◌, codes, Option, Some, None, refl, ap, ◌∙◌, subst}
use Rattle.dioc_terms.specs.declared.names.Index.{Index}
use Rattle.dioc_terms.specs.declared.processes.Tag.{Tag}
use Rattle.dioc_terms.specs.declared.processes.Tag.TheVariants as tag
use Rattle.dioc_terms.specs.declared.processes.Key.{Key}
use Rattle.dioc_terms.specs.declared.entries.Note.{Note}
use Rattle.dioc_terms.specs.declared.entries.Note.TheVariants as note
use Rattle.dioc_terms.specs.declared.entries.Chosen.{Chosen}
use Rattle.dioc_terms.specs.declared.entries.Chosen.TheVariants as chosen
use Rattle.dioc_terms.specs.declared.entries.Entry.TheVariants as entry
use Rattle.dioc_terms.specs.declared.bundles.Last.TheVariants as last
use Rattle.limits.specs.Limits.{greatest_place}
use Rattle.aioc_tokens.specs.declared.words.Word.{Word}
use Rattle.aioc_tokens.specs.declared.words.Word.TheVariants as word
use Rattle.aioc_tokens.specs.declared.words.Punctuator.{Punctuator}
use Rattle.aioc_tokens.specs.declared.words.Punctuator.TheVariants as punctuator
use Rattle.aioc_tokens.specs.Lexemes.{Lexeme, Name, Long, Number, Reserved, Symbol}
use Rattle.expr_syntax.specs.Constants.{greatest, constant}
use Rattle.trace_syntax.specs.Words.{line_word_spelling, line_word_of, auxiliary_of}
use Rattle.trace_syntax.specs.Grammar.{role, index, IsIndex, is_index, IsTag, operation, auxiliary, IsKey, is_key, IsTruth, is_true, is_false, IsNote, value, choice, go, turn_done, end_done, out_done, keeps, part, IsVariable, variable, no_variable, IsSetting, is_setting, IsChoice, kept, replaced, IsLine, put, take, set, input, pick, scope, add, drop as dropped, env, ended, stopped}
use Rattle.trace_syntax.specs.Reading.{◌>>=◌, Found, or_else, behind_symbol, behind_word, first_name, first_number, first_truth, first_index, first_auxiliary, first_tag, first_key, first_flag, first_done, first_payload, first_part, first_keep, first_begin, first_note, first_variable, first_setting, first_rule, first_kept, first_choice, first_put, first_take, first_set, first_input, first_pick, first_scope, first_add, first_drop, first_env, first_ended, first_stopped, line_behind, first_line}
use Rattle.trace_syntax.specs.declared.words.LineWord.{LineWord}
use Rattle.trace_syntax.specs.declared.words.LineWord.TheVariants as begins
use Rattle.trace_syntax.specs.declared.words.Setting.{Setting}
use Rattle.trace_syntax.specs.declared.words.Line.{Line}
use Rattle.trace_syntax.specs.declared.words.Line.TheVariants as line
use Rattle.trace_syntax.proofs.Steps.{bind_some, some_is, symbol_read, word_read, name_read, number_read, line_word_spelled}

pub index_read : (from : List Lexeme) (x : Index × List Lexeme) → first_index from ≡ Some x → IsIndex from x.0 x.1
unfolding first_index
index_read from x e =
    let s1 = bind_some (behind_symbol punctuator.Hash from) (λ marked. first_number greatest_place marked >>= λ epoch. behind_symbol punctuator.Dot epoch.1 >>= λ dotted. first_number greatest_place dotted >>= λ place. Some (index epoch.0 place.0, place.1)) x e in
    let s2 = bind_some (first_number greatest_place s1.0) (λ epoch. behind_symbol punctuator.Dot epoch.1 >>= λ dotted. first_number greatest_place dotted >>= λ place. Some (index epoch.0 place.0, place.1)) x s1.2 in
    let s3 = bind_some (behind_symbol punctuator.Dot s2.0.1) (λ dotted. first_number greatest_place dotted >>= λ place. Some (index s2.0.0 place.0, place.1)) x s2.2 in
    let s4 = bind_some (first_number greatest_place s3.0) (λ place. Some (index s2.0.0 place.0, place.1)) x s3.2 in
    let f1 = symbol_read punctuator.Hash from s1.0 s1.1 in
    let (digits, f2, v2) = number_read greatest_place s1.0 s2.0 s2.1 in
    let f3 = symbol_read punctuator.Dot s2.0.1 s3.0 s3.1 in
    let (digits2, f4, v4) = number_read greatest_place s3.0 s4.0 s4.1 in
    subst (λ (y : Index × List Lexeme). IsIndex from y.0 y.1) (some_is (index s2.0.0 s4.0.0, s4.0.1) x s4.2) (is_index (f1 ∙ ap (λ r. Symbol punctuator.Hash ∷ r) (f2 ∙ ap (λ r. Number digits ∷ r) (f3 ∙ ap (λ r. Symbol punctuator.Dot ∷ r) f4))) v2 v4)

pub auxiliary_read : (from others : List Lexeme) (x : Tag × List Lexeme) → from ≡ Symbol punctuator.Bang ∷ others → first_auxiliary others ≡ Some x → IsTag from x.0 x.1
unfolding first_auxiliary
auxiliary_read from others x begins e =
    let s1 = bind_some (first_name others) (λ word. auxiliary_of word.0 >>= λ aux. Some (aux, word.1)) x e in
    let s2 = bind_some (auxiliary_of s1.0.0) (λ aux. Some (aux, s1.0.1)) x s1.2 in
    let f1 = name_read others s1.0 s1.1 in
    subst (λ (y : Tag × List Lexeme). IsTag from y.0 y.1) (some_is (s2.0, s1.0.1) x s2.2) (auxiliary (begins ∙ ap (λ r. Symbol punctuator.Bang ∷ r) f1) s2.1)

symbol_tag_read : (first : Punctuator) (others : List Lexeme) (x : Tag × List Lexeme) → first_tag (Symbol first ∷ others) ≡ Some x → IsTag (Symbol first ∷ others) x.0 x.1
unfolding first_tag
symbol_tag_read punctuator.Bang others x e = auxiliary_read (Symbol punctuator.Bang ∷ others) others x refl e
symbol_tag_read punctuator.LeftBrace others x e = absurd cc
symbol_tag_read _ others x e = absurd cc

pub tag_read : (from : List Lexeme) (x : Tag × List Lexeme) → first_tag from ≡ Some x → IsTag from x.0 x.1
unfolding first_tag
tag_read (Name name ∷ others) x e = subst (λ (y : Tag × List Lexeme). IsTag (Name name ∷ others) y.0 y.1) (some_is (tag.Op name, others) x e) (operation refl)
tag_read (Symbol first ∷ others) x e = symbol_tag_read first others x e
tag_read [] x e = absurd cc
tag_read (Long ∷ others) x e = absurd cc
tag_read (_ ∷ others) x e = absurd cc

pub key_read : (from : List Lexeme) (x : Key × List Lexeme) → first_key from ≡ Some x → IsKey from x.0 x.1
unfolding first_key
key_read from x e =
    let s1 = bind_some (first_name from) (λ sender. behind_symbol punctuator.Arrow sender.1 >>= λ sent. first_name sent >>= λ receiver. first_tag receiver.1 >>= λ what. first_index what.1 >>= λ place. Some (record { from = role sender.0; to = role receiver.0; index = place.0; tag = what.0 }, place.1)) x e in
    let s2 = bind_some (behind_symbol punctuator.Arrow s1.0.1) (λ sent. first_name sent >>= λ receiver. first_tag receiver.1 >>= λ what. first_index what.1 >>= λ place. Some (record { from = role s1.0.0; to = role receiver.0; index = place.0; tag = what.0 }, place.1)) x s1.2 in
    let s3 = bind_some (first_name s2.0) (λ receiver. first_tag receiver.1 >>= λ what. first_index what.1 >>= λ place. Some (record { from = role s1.0.0; to = role receiver.0; index = place.0; tag = what.0 }, place.1)) x s2.2 in
    let s4 = bind_some (first_tag s3.0.1) (λ what. first_index what.1 >>= λ place. Some (record { from = role s1.0.0; to = role s3.0.0; index = place.0; tag = what.0 }, place.1)) x s3.2 in
    let s5 = bind_some (first_index s4.0.1) (λ place. Some (record { from = role s1.0.0; to = role s3.0.0; index = place.0; tag = s4.0.0 }, place.1)) x s4.2 in
    let f1 = name_read from s1.0 s1.1 in
    let f2 = symbol_read punctuator.Arrow s1.0.1 s2.0 s2.1 in
    let f3 = name_read s2.0 s3.0 s3.1 in
    subst (λ (y : Key × List Lexeme). IsKey from y.0 y.1) (some_is (record { from = role s1.0.0; to = role s3.0.0; index = s5.0.0; tag = s4.0.0 }, s5.0.1) x s5.2) (is_key (f1 ∙ ap (λ r. Name s1.0.0 ∷ r) (f2 ∙ ap (λ r. Symbol punctuator.Arrow ∷ r) f3)) (tag_read s3.0.1 s4.0 s4.1) (index_read s4.0.1 s5.0 s5.1))

word_truth_read : (first : Word) (others : List Lexeme) (x : Bool × List Lexeme) → first_truth (Reserved first ∷ others) ≡ Some x → IsTruth (Reserved first ∷ others) x.0 x.1
unfolding first_truth
word_truth_read word.True others x e = subst (λ (y : Bool × List Lexeme). IsTruth (Reserved word.True ∷ others) y.0 y.1) (some_is (true, others) x e) (is_true refl)
word_truth_read word.False others x e = subst (λ (y : Bool × List Lexeme). IsTruth (Reserved word.False ∷ others) y.0 y.1) (some_is (false, others) x e) (is_false refl)
word_truth_read word.Aioc others x e = absurd cc
word_truth_read _ others x e = absurd cc

pub truth_read : (from : List Lexeme) (x : Bool × List Lexeme) → first_truth from ≡ Some x → IsTruth from x.0 x.1
unfolding first_truth
truth_read (Reserved first ∷ others) x e = word_truth_read first others x e
truth_read [] x e = absurd cc
truth_read (Long ∷ others) x e = absurd cc
truth_read (_ ∷ others) x e = absurd cc

-- a flag of either tag, and a `done` of each of three
abbrev IsFlag : Tag → Type 0
IsFlag what = (from : List Lexeme) (flag : Bool) (to : List Lexeme) → IsTruth from flag to → IsNote from what (note.Flag flag) to

abbrev IsDone : Tag → Type 0
IsDone what = (from to : List Lexeme) → from ≡ Name (codes "done") ∷ to → IsNote from what note.Done to

pub flag_read : (what : Tag) (makes : IsFlag what) (from : List Lexeme) (x : Note × List Lexeme) → first_flag from ≡ Some x → IsNote from what x.0 x.1
unfolding first_flag
flag_read what makes from x e =
    let s1 = bind_some (first_truth from) (λ truth. Some (note.Flag truth.0, truth.1)) x e in
    subst (λ (y : Note × List Lexeme). IsNote from what y.0 y.1) (some_is (note.Flag s1.0.0, s1.0.1) x s1.2) (makes from s1.0.0 s1.0.1 (truth_read from s1.0 s1.1))

pub done_read : (what : Tag) (makes : IsDone what) (from : List Lexeme) (x : Note × List Lexeme) → first_done from ≡ Some x → IsNote from what x.0 x.1
unfolding first_done
done_read what makes from x e =
    let s1 = bind_some (behind_word (codes "done") from) (λ rest. Some (note.Done, rest)) x e in
    subst (λ (y : Note × List Lexeme). IsNote from what y.0 y.1) (some_is (note.Done, s1.0) x s1.2) (makes from s1.0 (word_read (codes "done") from s1.0 s1.1))

pub payload_read : (name : List ℕ) (from : List Lexeme) (x : Note × List Lexeme) → first_payload from ≡ Some x → IsNote from (tag.Op name) x.0 x.1
unfolding first_payload
payload_read name from x e =
    let s1 = bind_some (constant from) (λ v. Some (note.Val v.0, v.1)) x e in
    subst (λ (y : Note × List Lexeme). IsNote from (tag.Op name) y.0 y.1) (some_is (note.Val s1.0.0, s1.0.1) x s1.2) (value s1.1)

pub part_read : (from : List Lexeme) (x : Note × List Lexeme) → first_part from ≡ Some x → IsNote from tag.Begin x.0 x.1
unfolding first_part
part_read from x e =
    let s1 = bind_some (behind_word (codes "part") from) (λ rest. first_number greatest_place rest >>= λ epoch. Some (note.Part epoch.0, epoch.1)) x e in
    let s2 = bind_some (first_number greatest_place s1.0) (λ epoch. Some (note.Part epoch.0, epoch.1)) x s1.2 in
    let f1 = word_read (codes "part") from s1.0 s1.1 in
    let (digits, f2, v2) = number_read greatest_place s1.0 s2.0 s2.1 in
    subst (λ (y : Note × List Lexeme). IsNote from tag.Begin y.0 y.1) (some_is (note.Part s2.0.0, s2.0.1) x s2.2) (part (f1 ∙ ap (λ r. Name (codes "part") ∷ r) f2) v2)

pub keep_read : (from : List Lexeme) (x : Note × List Lexeme) → first_keep from ≡ Some x → IsNote from tag.Begin x.0 x.1
unfolding first_keep
keep_read from x e =
    let s1 = bind_some (behind_word (codes "keep") from) (λ rest. Some (note.Keep, rest)) x e in
    subst (λ (y : Note × List Lexeme). IsNote from tag.Begin y.0 y.1) (some_is (note.Keep, s1.0) x s1.2) (keeps (word_read (codes "keep") from s1.0 s1.1))

pub begin_read : (from : List Lexeme) (x : Note × List Lexeme) → first_begin from ≡ Some x → IsNote from tag.Begin x.0 x.1
unfolding first_begin
begin_read from x e = go (first_keep from) refl e
  where
    go : (found : Found Note) → first_keep from ≡ found → or_else found (first_part from) ≡ Some x → IsNote from tag.Begin x.0 x.1
    go (Some read) is same = keep_read from x (is ∙ same)
    go None is same = part_read from x same

pub note_read : (what : Tag) (from : List Lexeme) (x : Note × List Lexeme) → first_note what from ≡ Some x → IsNote from what x.0 x.1
unfolding first_note
note_read (tag.Op name) from x e = payload_read name from x e
note_read tag.Choice from x e = flag_read tag.Choice (λ from flag to is. choice is) from x e
note_read tag.Go from x e = flag_read tag.Go (λ from flag to is. go is) from x e
note_read tag.Turn from x e = done_read tag.Turn (λ from to is. turn_done is) from x e
note_read tag.End from x e = done_read tag.End (λ from to is. end_done is) from x e
note_read tag.Out from x e = done_read tag.Out (λ from to is. out_done is) from x e
note_read tag.Begin from x e = begin_read from x e

pub variable_read : (what : Tag) (from : List Lexeme) (x : Option (List ℕ) × List Lexeme) → first_variable what from ≡ Some x → IsVariable from what x.0 x.1
unfolding first_variable
variable_read (tag.Op name) from x e =
    let s1 = bind_some (first_name from) (λ variable. Some (Some variable.0, variable.1)) x e in
    subst (λ (y : Option (List ℕ) × List Lexeme). IsVariable from (tag.Op name) y.0 y.1) (some_is (Some s1.0.0, s1.0.1) x s1.2) (variable (name_read from s1.0 s1.1))
variable_read tag.Choice from x e = subst (λ (y : Option (List ℕ) × List Lexeme). IsVariable from tag.Choice y.0 y.1) (some_is (None, from) x e) (no_variable refl)
variable_read tag.Go from x e = subst (λ (y : Option (List ℕ) × List Lexeme). IsVariable from tag.Go y.0 y.1) (some_is (None, from) x e) (no_variable refl)
variable_read tag.Turn from x e = subst (λ (y : Option (List ℕ) × List Lexeme). IsVariable from tag.Turn y.0 y.1) (some_is (None, from) x e) (no_variable refl)
variable_read tag.Begin from x e = subst (λ (y : Option (List ℕ) × List Lexeme). IsVariable from tag.Begin y.0 y.1) (some_is (None, from) x e) (no_variable refl)
variable_read tag.End from x e = subst (λ (y : Option (List ℕ) × List Lexeme). IsVariable from tag.End y.0 y.1) (some_is (None, from) x e) (no_variable refl)
variable_read tag.Out from x e = subst (λ (y : Option (List ℕ) × List Lexeme). IsVariable from tag.Out y.0 y.1) (some_is (None, from) x e) (no_variable refl)

pub setting_read : (from : List Lexeme) (x : Setting × List Lexeme) → first_setting from ≡ Some x → IsSetting from x.0 x.1
unfolding first_setting
setting_read from x e =
    let s1 = bind_some (first_name from) (λ variable. behind_symbol punctuator.At variable.1 >>= λ owned. first_name owned >>= λ owner. first_index owner.1 >>= λ place. behind_symbol punctuator.Equal place.1 >>= λ equated. constant equated >>= λ v. Some (record { index = place.0; role = role owner.0; var = variable.0; value = v.0 }, v.1)) x e in
    let s2 = bind_some (behind_symbol punctuator.At s1.0.1) (λ owned. first_name owned >>= λ owner. first_index owner.1 >>= λ place. behind_symbol punctuator.Equal place.1 >>= λ equated. constant equated >>= λ v. Some (record { index = place.0; role = role owner.0; var = s1.0.0; value = v.0 }, v.1)) x s1.2 in
    let s3 = bind_some (first_name s2.0) (λ owner. first_index owner.1 >>= λ place. behind_symbol punctuator.Equal place.1 >>= λ equated. constant equated >>= λ v. Some (record { index = place.0; role = role owner.0; var = s1.0.0; value = v.0 }, v.1)) x s2.2 in
    let s4 = bind_some (first_index s3.0.1) (λ place. behind_symbol punctuator.Equal place.1 >>= λ equated. constant equated >>= λ v. Some (record { index = place.0; role = role s3.0.0; var = s1.0.0; value = v.0 }, v.1)) x s3.2 in
    let s5 = bind_some (behind_symbol punctuator.Equal s4.0.1) (λ equated. constant equated >>= λ v. Some (record { index = s4.0.0; role = role s3.0.0; var = s1.0.0; value = v.0 }, v.1)) x s4.2 in
    let s6 = bind_some (constant s5.0) (λ v. Some (record { index = s4.0.0; role = role s3.0.0; var = s1.0.0; value = v.0 }, v.1)) x s5.2 in
    let f1 = name_read from s1.0 s1.1 in
    let f2 = symbol_read punctuator.At s1.0.1 s2.0 s2.1 in
    let f3 = name_read s2.0 s3.0 s3.1 in
    let f5 = symbol_read punctuator.Equal s4.0.1 s5.0 s5.1 in
    subst (λ (y : Setting × List Lexeme). IsSetting from y.0 y.1) (some_is (record { index = s4.0.0; role = role s3.0.0; var = s1.0.0; value = s6.0.0 }, s6.0.1) x s6.2) (is_setting (f1 ∙ ap (λ r. Name s1.0.0 ∷ r) (f2 ∙ ap (λ r. Symbol punctuator.At ∷ r) f3)) (index_read s3.0.1 s4.0 s4.1) f5 s6.1)

pub rule_read : (from others : List Lexeme) (x : Chosen × List Lexeme) → from ≡ Reserved word.Rule ∷ others → first_rule others ≡ Some x → IsChoice from x.0 x.1
unfolding first_rule
rule_read from others x begins e =
    let s1 = bind_some (first_name others) (λ name. behind_word (codes "as") name.1 >>= λ rest. first_number greatest_place rest >>= λ epoch. Some (chosen.Rule name.0 epoch.0, epoch.1)) x e in
    let s2 = bind_some (behind_word (codes "as") s1.0.1) (λ rest. first_number greatest_place rest >>= λ epoch. Some (chosen.Rule s1.0.0 epoch.0, epoch.1)) x s1.2 in
    let s3 = bind_some (first_number greatest_place s2.0) (λ epoch. Some (chosen.Rule s1.0.0 epoch.0, epoch.1)) x s2.2 in
    let f1 = name_read others s1.0 s1.1 in
    let f2 = word_read (codes "as") s1.0.1 s2.0 s2.1 in
    let (digits, f3, v3) = number_read greatest_place s2.0 s3.0 s3.1 in
    subst (λ (y : Chosen × List Lexeme). IsChoice from y.0 y.1) (some_is (chosen.Rule s1.0.0 s3.0.0, s3.0.1) x s3.2) (replaced (begins ∙ ap (λ r. Reserved word.Rule ∷ r) (f1 ∙ ap (λ r. Name s1.0.0 ∷ r) (f2 ∙ ap (λ r. Name (codes "as") ∷ r) f3))) v3)

pub kept_read : (from : List Lexeme) (x : Chosen × List Lexeme) → first_kept from ≡ Some x → IsChoice from x.0 x.1
unfolding first_kept
kept_read from x e =
    let s1 = bind_some (behind_word (codes "keep") from) (λ rest. Some (chosen.Keep, rest)) x e in
    subst (λ (y : Chosen × List Lexeme). IsChoice from y.0 y.1) (some_is (chosen.Keep, s1.0) x s1.2) (kept (word_read (codes "keep") from s1.0 s1.1))

word_choice_read : (first : Word) (others : List Lexeme) (x : Chosen × List Lexeme) → first_choice (Reserved first ∷ others) ≡ Some x → IsChoice (Reserved first ∷ others) x.0 x.1
unfolding first_choice
word_choice_read word.Rule others x e = rule_read (Reserved word.Rule ∷ others) others x refl e
word_choice_read word.Aioc others x e = kept_read (Reserved word.Aioc ∷ others) x e
word_choice_read first others x e = kept_read (Reserved first ∷ others) x e

pub choice_read : (from : List Lexeme) (x : Chosen × List Lexeme) → first_choice from ≡ Some x → IsChoice from x.0 x.1
unfolding first_choice
choice_read (Reserved first ∷ others) x e = word_choice_read first others x e
choice_read [] x e = kept_read [] x e
choice_read (Long ∷ others) x e = kept_read (Long ∷ others) x e
choice_read (first ∷ others) x e = kept_read (first ∷ others) x e

pub put_read : (from others : List Lexeme) (x : Line × List Lexeme) → from ≡ Name (codes "put") ∷ others → first_put others ≡ Some x → IsLine from x.0 x.1
unfolding first_put
put_read from others x begins e =
    let s1 = bind_some (first_key others) (λ key. behind_symbol punctuator.Equal key.1 >>= λ equated. first_note key.0.tag equated >>= λ payload. Some (line.Entry (entry.Put key.0 payload.0), payload.1)) x e in
    let s2 = bind_some (behind_symbol punctuator.Equal s1.0.1) (λ equated. first_note s1.0.0.tag equated >>= λ payload. Some (line.Entry (entry.Put s1.0.0 payload.0), payload.1)) x s1.2 in
    let s3 = bind_some (first_note s1.0.0.tag s2.0) (λ payload. Some (line.Entry (entry.Put s1.0.0 payload.0), payload.1)) x s2.2 in
    subst (λ (y : Line × List Lexeme). IsLine from y.0 y.1) (some_is (line.Entry (entry.Put s1.0.0 s3.0.0), s3.0.1) x s3.2) (put begins (key_read others s1.0 s1.1) (symbol_read punctuator.Equal s1.0.1 s2.0 s2.1) (note_read s1.0.0.tag s2.0 s3.0 s3.1))

pub take_read : (from others : List Lexeme) (x : Line × List Lexeme) → from ≡ Name (codes "take") ∷ others → first_take others ≡ Some x → IsLine from x.0 x.1
unfolding first_take
take_read from others x begins e =
    let s1 = bind_some (first_key others) (λ key. first_variable key.0.tag key.1 >>= λ variable. Some (line.Entry (entry.Take key.0 variable.0), variable.1)) x e in
    let s2 = bind_some (first_variable s1.0.0.tag s1.0.1) (λ variable. Some (line.Entry (entry.Take s1.0.0 variable.0), variable.1)) x s1.2 in
    subst (λ (y : Line × List Lexeme). IsLine from y.0 y.1) (some_is (line.Entry (entry.Take s1.0.0 s2.0.0), s2.0.1) x s2.2) (take begins (key_read others s1.0 s1.1) (variable_read s1.0.0.tag s1.0.1 s2.0 s2.1))

pub set_read : (from others : List Lexeme) (x : Line × List Lexeme) → from ≡ Name (codes "set") ∷ others → first_set others ≡ Some x → IsLine from x.0 x.1
unfolding first_set
set_read from others x begins e =
    let s1 = bind_some (first_setting others) (λ setting. Some (line.Entry (entry.Set setting.0.index setting.0.role setting.0.var setting.0.value), setting.1)) x e in
    subst (λ (y : Line × List Lexeme). IsLine from y.0 y.1) (some_is (line.Entry (entry.Set s1.0.0.index s1.0.0.role s1.0.0.var s1.0.0.value), s1.0.1) x s1.2) (set begins (setting_read others s1.0 s1.1))

pub input_read : (from others : List Lexeme) (x : Line × List Lexeme) → from ≡ Reserved word.Input ∷ others → first_input others ≡ Some x → IsLine from x.0 x.1
unfolding first_input
input_read from others x begins e =
    let s1 = bind_some (first_setting others) (λ setting. Some (line.Entry (entry.Input setting.0.index setting.0.role setting.0.var setting.0.value), setting.1)) x e in
    subst (λ (y : Line × List Lexeme). IsLine from y.0 y.1) (some_is (line.Entry (entry.Input s1.0.0.index s1.0.0.role s1.0.0.var s1.0.0.value), s1.0.1) x s1.2) (input begins (setting_read others s1.0 s1.1))

pub pick_read : (from others : List Lexeme) (x : Line × List Lexeme) → from ≡ Name (codes "pick") ∷ others → first_pick others ≡ Some x → IsLine from x.0 x.1
unfolding first_pick
pick_read from others x begins e =
    let s1 = bind_some (first_name others) (λ chooser. first_index chooser.1 >>= λ place. first_truth place.1 >>= λ flag. Some (line.Entry (entry.Pick place.0 (role chooser.0) flag.0), flag.1)) x e in
    let s2 = bind_some (first_index s1.0.1) (λ place. first_truth place.1 >>= λ flag. Some (line.Entry (entry.Pick place.0 (role s1.0.0) flag.0), flag.1)) x s1.2 in
    let s3 = bind_some (first_truth s2.0.1) (λ flag. Some (line.Entry (entry.Pick s2.0.0 (role s1.0.0) flag.0), flag.1)) x s2.2 in
    let f1 = name_read others s1.0 s1.1 in
    subst (λ (y : Line × List Lexeme). IsLine from y.0 y.1) (some_is (line.Entry (entry.Pick s2.0.0 (role s1.0.0) s3.0.0), s3.0.1) x s3.2) (pick (begins ∙ ap (λ r. Name (codes "pick") ∷ r) f1) (index_read s1.0.1 s2.0 s2.1) (truth_read s2.0.1 s3.0 s3.1))

pub scope_read : (from others : List Lexeme) (x : Line × List Lexeme) → from ≡ Reserved word.Scope ∷ others → first_scope others ≡ Some x → IsLine from x.0 x.1
unfolding first_scope
scope_read from others x begins e =
    let s1 = bind_some (first_name others) (λ leader. first_index leader.1 >>= λ place. first_choice place.1 >>= λ choice. Some (line.Entry (entry.Scope place.0 (role leader.0) choice.0), choice.1)) x e in
    let s2 = bind_some (first_index s1.0.1) (λ place. first_choice place.1 >>= λ choice. Some (line.Entry (entry.Scope place.0 (role s1.0.0) choice.0), choice.1)) x s1.2 in
    let s3 = bind_some (first_choice s2.0.1) (λ choice. Some (line.Entry (entry.Scope s2.0.0 (role s1.0.0) choice.0), choice.1)) x s2.2 in
    let f1 = name_read others s1.0 s1.1 in
    subst (λ (y : Line × List Lexeme). IsLine from y.0 y.1) (some_is (line.Entry (entry.Scope s2.0.0 (role s1.0.0) s3.0.0), s3.0.1) x s3.2) (scope (begins ∙ ap (λ r. Reserved word.Scope ∷ r) f1) (index_read s1.0.1 s2.0 s2.1) (choice_read s2.0.1 s3.0 s3.1))

pub add_read : (from others : List Lexeme) (x : Line × List Lexeme) → from ≡ Name (codes "add") ∷ others → first_add others ≡ Some x → IsLine from x.0 x.1
unfolding first_add
add_read from others x begins e =
    let s1 = bind_some (first_name others) (λ name. Some (line.Entry (entry.Add name.0), name.1)) x e in
    let f1 = name_read others s1.0 s1.1 in
    subst (λ (y : Line × List Lexeme). IsLine from y.0 y.1) (some_is (line.Entry (entry.Add s1.0.0), s1.0.1) x s1.2) (add (begins ∙ ap (λ r. Name (codes "add") ∷ r) f1))

pub drop_read : (from others : List Lexeme) (x : Line × List Lexeme) → from ≡ Name (codes "drop") ∷ others → first_drop others ≡ Some x → IsLine from x.0 x.1
unfolding first_drop
drop_read from others x begins e =
    let s1 = bind_some (first_name others) (λ name. Some (line.Entry (entry.Drop name.0), name.1)) x e in
    let f1 = name_read others s1.0 s1.1 in
    subst (λ (y : Line × List Lexeme). IsLine from y.0 y.1) (some_is (line.Entry (entry.Drop s1.0.0), s1.0.1) x s1.2) (dropped (begins ∙ ap (λ r. Name (codes "drop") ∷ r) f1))

pub env_read : (from others : List Lexeme) (x : Line × List Lexeme) → from ≡ Name (codes "env") ∷ others → first_env others ≡ Some x → IsLine from x.0 x.1
unfolding first_env
env_read from others x begins e =
    let s1 = bind_some (first_name others) (λ key. behind_symbol punctuator.Equal key.1 >>= λ equated. constant equated >>= λ v. Some (line.Entry (entry.Env key.0 v.0), v.1)) x e in
    let s2 = bind_some (behind_symbol punctuator.Equal s1.0.1) (λ equated. constant equated >>= λ v. Some (line.Entry (entry.Env s1.0.0 v.0), v.1)) x s1.2 in
    let s3 = bind_some (constant s2.0) (λ v. Some (line.Entry (entry.Env s1.0.0 v.0), v.1)) x s2.2 in
    let f1 = name_read others s1.0 s1.1 in
    let f2 = symbol_read punctuator.Equal s1.0.1 s2.0 s2.1 in
    subst (λ (y : Line × List Lexeme). IsLine from y.0 y.1) (some_is (line.Entry (entry.Env s1.0.0 s3.0.0), s3.0.1) x s3.2) (env (begins ∙ ap (λ r. Name (codes "env") ∷ r) (f1 ∙ ap (λ r. Name s1.0.0 ∷ r) f2)) s3.1)

pub ended_read : (from others : List Lexeme) (x : Line × List Lexeme) → from ≡ Name (codes "ended") ∷ others → first_ended others ≡ Some x → IsLine from x.0 x.1
unfolding first_ended
ended_read from others x begins e =
    let s1 = bind_some (first_number greatest others) (λ count. Some (line.Last (last.Ended count.0), count.1)) x e in
    let (digits, f1, v1) = number_read greatest others s1.0 s1.1 in
    subst (λ (y : Line × List Lexeme). IsLine from y.0 y.1) (some_is (line.Last (last.Ended s1.0.0), s1.0.1) x s1.2) (ended (begins ∙ ap (λ r. Name (codes "ended") ∷ r) f1) v1)

pub stopped_read : (from others : List Lexeme) (x : Line × List Lexeme) → from ≡ Name (codes "stopped") ∷ others → first_stopped others ≡ Some x → IsLine from x.0 x.1
unfolding first_stopped
stopped_read from others x begins e =
    let s1 = bind_some (first_number greatest others) (λ count. Some (line.Last (last.Stopped count.0), count.1)) x e in
    let (digits, f1, v1) = number_read greatest others s1.0 s1.1 in
    subst (λ (y : Line × List Lexeme). IsLine from y.0 y.1) (some_is (line.Last (last.Stopped s1.0.0), s1.0.1) x s1.2) (stopped (begins ∙ ap (λ r. Name (codes "stopped") ∷ r) f1) v1)

behind_read : (begin : LineWord) (from others : List Lexeme) (x : Line × List Lexeme) → from ≡ Name (line_word_spelling begin) ∷ others → line_behind begin others ≡ Some x → IsLine from x.0 x.1
unfolding line_behind
behind_read begins.Put from others x is e = put_read from others x is e
behind_read begins.Take from others x is e = take_read from others x is e
behind_read begins.Set from others x is e = set_read from others x is e
behind_read begins.Pick from others x is e = pick_read from others x is e
behind_read begins.Add from others x is e = add_read from others x is e
behind_read begins.Drop from others x is e = drop_read from others x is e
behind_read begins.Env from others x is e = env_read from others x is e
behind_read begins.Ended from others x is e = ended_read from others x is e
behind_read begins.Stopped from others x is e = stopped_read from others x is e

named_read : (first : List ℕ) (others : List Lexeme) (x : Line × List Lexeme) → (line_word_of first >>= λ begin. line_behind begin others) ≡ Some x → IsLine (Name first ∷ others) x.0 x.1
named_read first others x e =
    let s1 = bind_some (line_word_of first) (λ begin. line_behind begin others) x e in
    behind_read s1.0 (Name first ∷ others) others x (ap (λ word. Name word ∷ others) (line_word_spelled first s1.0 s1.1)) s1.2

reserved_read : (first : Word) (others : List Lexeme) (x : Line × List Lexeme) → first_line (Reserved first ∷ others) ≡ Some x → IsLine (Reserved first ∷ others) x.0 x.1
unfolding first_line
reserved_read word.Input others x e = input_read (Reserved word.Input ∷ others) others x refl e
reserved_read word.Scope others x e = scope_read (Reserved word.Scope ∷ others) others x refl e
reserved_read word.Aioc others x e = absurd cc
reserved_read _ others x e = absurd cc

-- what is found at the front is a line
pub line_read : (from : List Lexeme) (x : Line × List Lexeme) → first_line from ≡ Some x → IsLine from x.0 x.1
unfolding first_line
line_read (Name first ∷ others) x e = named_read first others x e
line_read (Reserved first ∷ others) x e = reserved_read first others x e
line_read [] x e = absurd cc
line_read (Long ∷ others) x e = absurd cc
line_read (_ ∷ others) x e = absurd cc
