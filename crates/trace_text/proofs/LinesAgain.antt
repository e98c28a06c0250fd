-- What is written of a line is that line, whatever follows.
use Rattle.std.proofs.Common.{◌≡◌, ℕ, suc, ◌<◌, ◌≤◌, ◌^◌, Bool, true, false, ◌&&◌, List, [], ◌∷◌, nat_le, decimal, Option, Some, None, pos, negsuc, refl, ap, subst, arith}
use Rattle.std.specs.List.{list_all}
use Rattle.std.specs.Option.{option_map}
use Rattle.std.specs.Str.{all_ascii_digits}
use Rattle.std.specs.Str.Parse.{digits_value}
use Rattle.std.proofs.lemmas.Bool.{leb-true}
use Rattle.std.proofs.lemmas.Bool.Decides.{nat_tests}
use Rattle.std.proofs.lemmas.Str.Parse.{tells_all_ascii_digits, numerals_by_value}
use Rattle.std.proofs.lemmas.Fmt.{digits_value-decimal}
use Rattle.dioc_terms.specs.declared.names.Index.{Index}
use Rattle.dioc_terms.specs.declared.values.Value.{Value}
use Rattle.dioc_terms.specs.declared.values.Value.TheVariants as value
use Rattle.dioc_terms.specs.declared.processes.Tag.{Tag}
use Rattle.dioc_terms.specs.declared.processes.Tag.TheVariants as tag
use Rattle.dioc_terms.specs.declared.processes.Key.{Key}
use Rattle.dioc_terms.specs.declared.entries.Note.{Note}
use Rattle.dioc_terms.specs.declared.entries.Note.TheVariants as note
use Rattle.dioc_terms.specs.declared.entries.Chosen.{Chosen}
use Rattle.dioc_terms.specs.declared.entries.Chosen.TheVariants as chosen
use Rattle.dioc_terms.specs.declared.entries.Entry.{Entry}
use Rattle.dioc_terms.specs.declared.entries.Entry.TheVariants as entry
use Rattle.dioc_terms.specs.declared.bundles.Last.{Last}
use Rattle.dioc_terms.specs.declared.bundles.Last.TheVariants as last
use Rattle.dioc_terms.specs.Bundles.{is_identifier, is_constant, is_formed_index, note_fits, variable_fits, is_formed_key, is_formed_choice, is_formed_entry, is_formed_last}
use Rattle.limits.specs.Limits.{greatest_place, largest}
use Rattle.aioc_tokens.specs.declared.words.Punctuator.TheVariants as punctuator
use Rattle.aioc_tokens.specs.Lexemes.{Lexeme, Symbol, HasLexemes}
use Rattle.aioc_tokens.proofs.Readings.{one_reading}
use Rattle.expr_syntax.specs.Constants.{greatest, greatest_negated, number_up_to, positive, negative, before, constant}
use Rattle.expr_syntax.specs.Writing.{written_truth, written_value}
use Rattle.trace_syntax.specs.Words.{auxiliary_of}
use Rattle.trace_syntax.specs.Grammar.{IsIndex, is_index, IsTag, operation, auxiliary, IsKey, is_key, IsTruth, is_true, is_false, IsNote, value as valued, choice, go, turn_done, end_done, out_done, keeps, part, IsVariable, variable, no_variable, is_setting, IsChoice, kept, replaced, IsLine, put, take, set, input, pick, scope, add, drop as dropped, env, ended, stopped, AreEntries, no_entry, one_more, is_over}
use Rattle.trace_syntax.specs.declared.words.Line.{Line}
use Rattle.trace_syntax.specs.declared.words.Line.TheVariants as line
use Rattle.trace_syntax.proofs.ManyLines.{same_line}
use Rattle.trace_text.specs.Laws.{WrittenRunIsRead}
use Rattle.trace_text.specs.Lines as text
use Rattle.trace_text.specs.Written.{written_index, written_tag, written_key, written_note, written_variable, written_choice, written_line, written_last, written_lines}
use Rattle.trace_text.proofs.Standing.{both_true, line_lexemes}

decimal_value : (n : ℕ) → n < 2 ^ 64 → digits_value 10 (decimal n) ≡ n
decimal_value n small = digits_value-decimal (numerals_by_value (λ digits. all_ascii_digits digits ≡ true) tells_all_ascii_digits) n small

decimal_number : (most n : ℕ) → n < 2 ^ 64 → n ≤ most → number_up_to most (decimal n) ≡ Some n
decimal_number most n fits small = rw (decimal_value n fits) (grind (arith, nat_tests))

index_number : (n : ℕ) → nat_le n greatest_place ≡ true → number_up_to greatest_place (decimal n) ≡ Some n
index_number n is = let small : n ≤ greatest_place = leb-true n greatest_place is in decimal_number greatest_place n (omega arith) (omega arith)

count_number : (n : ℕ) → nat_le n largest ≡ true → number_up_to greatest (decimal n) ≡ Some n
count_number n is = let small : n ≤ largest = leb-true n largest is in decimal_number greatest n (omega arith) (omega arith)

negative_number : (n : ℕ) → nat_le n largest ≡ true → number_up_to greatest_negated (decimal (suc n)) ≡ Some (suc n)
negative_number n is = let small : n ≤ largest = leb-true n largest is in decimal_number greatest_negated (suc n) (omega arith) (omega arith)

constant_again : (v : Value) (others : List Lexeme) → is_constant v ≡ true → constant (written_value v others) ≡ Some (before others v)
constant_again value.Nil others is = refl
constant_again (value.Bool true) others is = refl
constant_again (value.Bool false) others is = refl
constant_again (value.Int (pos n)) others is = ap (option_map (λ n. before others (positive n))) (count_number n is)
constant_again (value.Int (negsuc n)) others is = ap (option_map (λ n. before others (negative n))) (negative_number n (both_true (nat_le n largest) true is).0)
constant_again (value.Text bytes) others is = refl

truth_again : (b : Bool) (others : List Lexeme) → IsTruth (written_truth b ∷ others) b others
truth_again true others = is_true refl
truth_again false others = is_false refl

index_again : (i : Index) (others : List Lexeme) → is_formed_index i ≡ true → IsIndex (written_index i others) i others
index_again i others is = let (epoch, place) = both_true (nat_le i.epoch greatest_place) (nat_le i.place greatest_place) is in is_index refl (index_number i.epoch epoch) (index_number i.place place)

tag_again : (what : Tag) (others : List Lexeme) → IsTag (written_tag what others) what others
unfolding auxiliary_of
tag_again (tag.Op name) others = operation refl
tag_again tag.Choice others = auxiliary refl refl
tag_again tag.Go others = auxiliary refl refl
tag_again tag.Turn others = auxiliary refl refl
tag_again tag.Begin others = auxiliary refl refl
tag_again tag.End others = auxiliary refl refl
tag_again tag.Out others = auxiliary refl refl

key_again : (k : Key) (others : List Lexeme) → is_formed_key k ≡ true → IsKey (written_key k others) k others
key_again k others is =
    let (roles, index) = both_true (is_identifier k.from.0 && is_identifier k.to.0) (is_formed_index k.index) is in
    is_key refl (tag_again k.tag (written_index k.index others)) (index_again k.index others index)

note_again : (what : Tag) (payload : Note) (others : List Lexeme) → note_fits what payload ≡ true → IsNote (written_note payload others) what payload others
note_again (tag.Op name) (note.Val v) others is = valued (constant_again v others (both_true (is_identifier name) (is_constant v) is).1)
note_again tag.Choice (note.Flag b) others is = choice (truth_again b others)
note_again tag.Go (note.Flag b) others is = go (truth_again b others)
note_again tag.Turn note.Done others is = turn_done refl
note_again tag.End note.Done others is = end_done refl
note_again tag.Out note.Done others is = out_done refl
note_again tag.Begin note.Keep others is = keeps refl
note_again tag.Begin (note.Part n) others is = part refl (index_number n is)
note_again _ _ others is = absurd cc

variable_again : (what : Tag) (var : Option (List ℕ)) (others : List Lexeme) → variable_fits what var ≡ true → IsVariable (written_variable var others) what var others
variable_again (tag.Op name) (Some x) others is = variable refl
variable_again (tag.Op name) None others is = absurd cc
variable_again tag.Choice None others is = no_variable refl
variable_again tag.Go None others is = no_variable refl
variable_again tag.Turn None others is = no_variable refl
variable_again tag.Begin None others is = no_variable refl
variable_again tag.End None others is = no_variable refl
variable_again tag.Out None others is = no_variable refl
variable_again _ (Some x) others is = absurd cc

choice_again : (c : Chosen) (others : List Lexeme) → is_formed_choice c ≡ true → IsChoice (written_choice c others) c others
choice_again chosen.Keep others is = kept refl
choice_again (chosen.Rule name n) others is = replaced refl (index_number n (both_true (is_identifier name) (nat_le n greatest_place) is).1)

pub line_again : (e : Entry) (others : List Lexeme) → is_formed_entry e ≡ true → IsLine (written_line e others) (line.Entry e) others
line_again (entry.Put k n) others is =
    let (keyed, fits) = both_true (is_formed_key k) (note_fits k.tag n) is in
    put refl (key_again k (Symbol punctuator.Equal ∷ written_note n others) keyed) refl (note_again k.tag n others fits)
line_again (entry.Take k x) others is =
    let (keyed, fits) = both_true (is_formed_key k) (variable_fits k.tag x) is in take refl (key_again k (written_variable x others) keyed) (variable_again k.tag x others fits)
line_again (entry.Set i r x v) others is =
    let (front, constant) = both_true (is_formed_index i && is_identifier r.0 && is_identifier x) (is_constant v) is in
    let index = (both_true (is_formed_index i) (is_identifier r.0) (both_true (is_formed_index i && is_identifier r.0) (is_identifier x) front).0).0 in
    set {setting = record { index = i; role = r; var = x; value = v }} refl (is_setting refl (index_again i (Symbol punctuator.Equal ∷ written_value v others) index) refl (constant_again v others constant))
line_again (entry.Input i r x v) others is =
    let (front, constant) = both_true (is_formed_index i && is_identifier r.0 && is_identifier x) (is_constant v) is in
    let index = (both_true (is_formed_index i) (is_identifier r.0) (both_true (is_formed_index i && is_identifier r.0) (is_identifier x) front).0).0 in
    input {setting = record { index = i; role = r; var = x; value = v }} refl (is_setting refl (index_again i (Symbol punctuator.Equal ∷ written_value v others) index) refl (constant_again v others constant))
line_again (entry.Pick i r b) others is =
    let (index, named) = both_true (is_formed_index i) (is_identifier r.0) is in pick refl (index_again i (written_truth b ∷ others) index) (truth_again b others)
line_again (entry.Scope i r c) others is =
    let (front, chooses) = both_true (is_formed_index i && is_identifier r.0) (is_formed_choice c) is in
    scope refl (index_again i (written_choice c others) (both_true (is_formed_index i) (is_identifier r.0) front).0) (choice_again c others chooses)
line_again (entry.Add name) others is = add refl
line_again (entry.Drop name) others is = dropped refl
line_again (entry.Env key v) others is = env refl (constant_again v others (both_true (is_identifier key) (is_constant v) is).1)

pub last_again : (end : Last) (others : List Lexeme) → is_formed_last (Some end) ≡ true → IsLine (written_last end others) (line.Last end) others
last_again (last.Ended n) others is = ended refl (count_number n is)
last_again (last.Stopped n) others is = stopped refl (count_number n is)

entry_is : {one other : Entry} → ◌≡◌ {A = Line} (line.Entry one) (line.Entry other) → one ≡ other
entry_is e = cc

-- entries of one line are one entry
pub one_entry : (one other : Entry) → is_formed_entry one ≡ true → is_formed_entry other ≡ true → text.line one ≡ text.line other → one ≡ other
one_entry one other is is2 same =
    let read : HasLexemes (text.line other) (written_line one []) = subst (λ bytes. HasLexemes bytes (written_line one [])) same (line_lexemes one is) in
    let written = one_reading (text.line other) (written_line one []) (written_line other []) read (line_lexemes other is2) in
    entry_is (same_line (subst (λ from. IsLine from (line.Entry one) []) written (line_again one [] is)) (line_again other [] is2)).0

-- the lines of a run, up to the `}` behind them
entries_again : (entries : List Entry) (others : List Lexeme) → list_all is_formed_entry entries ≡ true → AreEntries (written_lines entries others) entries others
entries_again [] others is = no_entry
entries_again (e ∷ es) others is =
    let (first, rest) = both_true (is_formed_entry e) (list_all is_formed_entry es) is in
    one_more (line_again e (written_lines es others) first) (entries_again es others rest)

pub run_again : WrittenRunIsRead
run_again entries end others is last closes = record {
  lines = is_over (entries_again entries (written_last end others) is) (last_again end others last);
  closes = closes;
}
