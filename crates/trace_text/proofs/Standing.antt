-- The bytes of a line that is written have the lexemes that are written.
use Rattle.std.proofs.Common.{◌≡◌, ℕ, suc, ◌+◌, ◌<◌, ◌≤◌, ◌^◌, Bool, true, false, ◌&&◌, List, [], ◌∷◌, ◌++◌, length, drop, nat_le, codes, decimal, Option, Some, None, pos, negsuc, refl, sym, ap, ◌∙◌, subst, arith, append_assoc, length-append, append-nil, add-zero, drop-drop, drop_at, drop_of_length-le}
use Rattle.std.specs.Char.{is_ascii_digit, is_ascii_alphabetic}
use Rattle.std.specs.Str.{all_ascii_digits}
use Rattle.std.specs.List.{list_all, prefix_len}
use Rattle.std.proofs.lemmas.Bool.{leb-true}
use Rattle.std.proofs.lemmas.Bool.Decides.{nat_tests}
use Rattle.std.proofs.lemmas.Str.Parse.{tells_all_ascii_digits, numerals_by_value}
use Rattle.std.proofs.lemmas.Fmt.{digits_decimal, decimal_nonempty}
use Rattle.dioc_terms.specs.declared.names.Index.{Index}
use Rattle.dioc_terms.specs.declared.names.Role.{Role}
use Rattle.dioc_terms.specs.declared.values.Value.{Value}
use Rattle.dioc_terms.specs.declared.values.Value.TheVariants as value
use Rattle.dioc_terms.specs.declared.processes.Tag.{Tag}
use Rattle.dioc_terms.specs.declared.processes.Tag.TheVariants as tag
use Rattle.dioc_terms.specs.declared.processes.Key.{Key}
use Rattle.dioc_terms.specs.declared.entries.Note.{Note}
use Rattle.dioc_terms.specs.declared.entries.Note.TheVariants as note
use Rattle.dioc_terms.specs.declared.entries.Chosen.{Chosen}
use Rattle.dioc_terms.specs.declared.entries.Chosen.TheVariants as chosen
use Rattle.dioc_terms.specs.declared.entries.Entry.{Entry}
use Rattle.dioc_terms.specs.declared.entries.Entry.TheVariants as entry
use Rattle.dioc_terms.specs.declared.bundles.Last.{Last}
use Rattle.dioc_terms.specs.declared.bundles.Last.TheVariants as last
use Rattle.dioc_terms.specs.Bundles.{is_identifier, is_constant, is_formed_role, is_formed_index, note_fits, variable_fits, is_formed_key, is_formed_choice, is_formed_entry, is_formed_last}
use Rattle.limits.specs.Limits.{greatest_place, largest}
use Rattle.dioc_terms.specs.Names.{is_reserved, reserved_words}
use Rattle.dioc_terms.specs.Expressions.{Const, Var}
use Rattle.aioc_tokens.specs.declared.words.Word.TheVariants as word
use Rattle.aioc_tokens.specs.declared.words.Punctuator.TheVariants as punctuator
use Rattle.aioc_tokens.specs.Lexemes.{Lexeme, Name, Number, Text, Reserved, Symbol, HasSpelling, HasLexemes}
use Rattle.aioc_tokens.specs.Spelling.{spelling}
use Rattle.aioc_tokens.proofs.Written.{Ends, goes_on, IsRead, space_read, lexeme_read, nothing_read, whole_read, SpaceOrEnd, space_ends}
use Rattle.expr_syntax.specs.Writing.{written_truth, written_value}
use Rattle.expr_syntax.specs.declared.levels.ExprKind.TheVariants.{Step}
use Rattle.expr_syntax.proofs.ConstantFacts.{digits_tested}
use Rattle.expr_syntax.proofs.RoundTrip.{written_all}
use Rattle.text_pieces.specs.Pieces.{truth_text}
use Rattle.trace_text.specs.Lines.{value_text, index_text, tag_text, note_text, key_text, variable_text, choice_text, line, last_line, line_end}
use Rattle.trace_text.specs.Laws.{WrittenRunIsSpelled}
use Rattle.trace_text.specs.Runs.{shown_entries, lines, run_text}
use Rattle.trace_text.specs.Written.{written_index, written_tag, written_key, written_note, written_variable, written_choice, written_setting, written_line, written_last, written_lines}

pub both_true : (a b : Bool) → (a && b) ≡ true → (a ≡ true) × (b ≡ true)
both_true true b is = (refl, is)
both_true false b is = absurd cc

-- Wherever these bytes stand before others, they read as these lexemes before those of the others.
pub record Stands (text : List ℕ) (adds : List Lexeme → List Lexeme) (others : List ℕ) : Type 0 where
  pub reads : (whole : List ℕ) (at : ℕ) (found : List Lexeme) → drop at whole ≡ text ++ others → IsRead whole (at + length text) others found → IsRead whole at (text ++ others) (adds found)

-- two texts, one before the other
pub behind : {one two : List ℕ} {first second : List Lexeme → List Lexeme} {others : List ℕ} → Stands two second others → Stands one first (two ++ others) → Stands (one ++ two) (λ found. first (second found)) others
behind {one} {two} {first} {second} {others} after before = record {
  reads = λ whole at found rest read.
      let joined = append_assoc one two others in
      let left : drop (at + length one) whole ≡ two ++ others = sym (drop-drop (length one) at whole) ∙ ap (drop (length one)) (rest ∙ joined) ∙ drop_at one (two ++ others) (length one) refl in
      let place : at + length (one ++ two) ≡ at + length one + length two = omega (arith, length-append one two) in
      subst (λ text. IsRead whole at text (first (second found))) (sym joined)
      (before.reads whole at (second found) (rest ∙ joined) (after.reads whole (at + length one) found left (subst (λ place. IsRead whole place others found) place read)));
}

pub one : (first : Lexeme) {others : List ℕ} → HasSpelling first → Ends first others → Stands (spelling first) (λ found. first ∷ found) others
one first {others} formed ends = record { reads = λ whole at found rest read. lexeme_read whole at first others found formed ends rest read }

pub gap : {others : List ℕ} → Stands (32 ∷ []) (λ found. found) others
gap {others} = record { reads = λ whole at found rest read. space_read whole at 32 others found refl rest read }

-- names, numbers and what may follow them
pub name_spelled : (name : List ℕ) → is_identifier name ≡ true → HasSpelling (Name name)
name_spelled name is = (written_all Step (Var name) [] is tt).0

decimal_digits : (n : ℕ) → n < 2 ^ 64 → list_all is_ascii_digit (decimal n) ≡ true
decimal_digits n fits = digits_tested (decimal n) ∙ digits_decimal (numerals_by_value (λ digits. all_ascii_digits digits ≡ true) tells_all_ascii_digits) n fits

number_spelled : (n : ℕ) → n < 2 ^ 64 → HasSpelling (Number (decimal n))
number_spelled n fits = (decimal_nonempty n fits, decimal_digits n fits)

digit_quiet : (byte : ℕ) → is_ascii_digit byte ≡ true → goes_on byte ≡ false
digit_quiet byte is = grind (arith, nat_tests)

letter_quiet : (byte : ℕ) → is_ascii_alphabetic byte ≡ true → goes_on byte ≡ false
letter_quiet byte is = grind (arith, nat_tests)

-- no symbol goes on with a digit, nor with the letter of a name
before_digits : (digits others : List ℕ) → 0 < length digits → list_all is_ascii_digit digits ≡ true → prefix_len goes_on (digits ++ others) ≡ 0
before_digits [] others some all = absurd (omega arith)
before_digits (digit ∷ digits) others some all = rw (digit_quiet digit (both_true (is_ascii_digit digit) (list_all is_ascii_digit digits) all).0) refl

before_number : (n : ℕ) (others : List ℕ) → n < 2 ^ 64 → prefix_len goes_on (decimal n ++ others) ≡ 0
before_number n others fits = before_digits (decimal n) others (decimal_nonempty n fits) (decimal_digits n fits)

before_name : (name others : List ℕ) → HasSpelling (Name name) → prefix_len goes_on (name ++ others) ≡ 0
before_name [] others formed = absurd formed.0
before_name (first ∷ name) others formed = rw (letter_quiet first formed.0.0) refl

index_small : (i : Index) → is_formed_index i ≡ true → (i.epoch < 2 ^ 64) × (i.place < 2 ^ 64)
index_small i is =
    let (epoch, place) = both_true (nat_le i.epoch greatest_place) (nat_le i.place greatest_place) is in
    let e : i.epoch ≤ greatest_place = leb-true i.epoch greatest_place epoch in
    let p : i.place ≤ greatest_place = leb-true i.place greatest_place place in
    (omega arith, omega arith)

word_stands : (name : List ℕ) {others : List ℕ} → HasSpelling (Name name) → SpaceOrEnd others → Stands name (λ found. Name name ∷ found) others
word_stands name {others} formed stops = one (Name name) formed (space_ends (Name name) others stops)

number_stands : (n : ℕ) {others : List ℕ} → n < 2 ^ 64 → SpaceOrEnd others → Stands (decimal n) (λ found. Number (decimal n) ∷ found) others
number_stands n {others} fits stops = one (Number (decimal n)) (number_spelled n fits) (space_ends (Number (decimal n)) others stops)

truth_stands : (b : Bool) {others : List ℕ} → SpaceOrEnd others → Stands (truth_text b) (λ found. written_truth b ∷ found) others
truth_stands true {others} stops = one (Reserved word.True) tt (space_ends (Reserved word.True) others stops)
truth_stands false {others} stops = one (Reserved word.False) tt (space_ends (Reserved word.False) others stops)

-- `-` before a number
minus_stands : (n : ℕ) {others : List ℕ} → n < 2 ^ 64 → SpaceOrEnd others → Stands (codes "-" ++ decimal n) (λ found. Symbol punctuator.Minus ∷ Number (decimal n) ∷ found) others
minus_stands n {others} fits stops = behind (number_stands n fits stops) (one (Symbol punctuator.Minus) tt (before_number n others fits))

value_stands : (v : Value) {others : List ℕ} → is_constant v ≡ true → SpaceOrEnd others → Stands (value_text v) (written_value v) others
value_stands value.Nil {others} is stops = one (Reserved word.Nil) tt (space_ends (Reserved word.Nil) others stops)
value_stands (value.Bool b) is stops = truth_stands b stops
value_stands (value.Int (pos n)) is stops = let small : n ≤ largest = leb-true n largest is in number_stands n (omega arith) stops
value_stands (value.Int (negsuc n)) is stops =
    let small : n ≤ largest = leb-true n largest (both_true (nat_le n largest) true is).0 in minus_stands (suc n) (omega arith) stops
value_stands (value.Text bytes) is stops = one (Text bytes) (written_all Step (Const (value.Text bytes)) [] is tt).0 tt

index_stands : (i : Index) {others : List ℕ} → is_formed_index i ≡ true → SpaceOrEnd others → Stands (index_text i) (written_index i) others
index_stands i {others} is stops =
    let (e, p) = index_small i is in
    behind (number_stands i.place p stops)
    (behind (one (Symbol punctuator.Dot) tt (before_number i.place others p))
    (behind (one (Number (decimal i.epoch)) (number_spelled i.epoch e) refl)
    (one (Symbol punctuator.Hash) tt (before_number i.epoch (codes "." ++ (decimal i.place ++ others)) e))))

-- words that the lines have, each with the space behind it
spaced : (name : List ℕ) {others : List ℕ} → HasSpelling (Name name) → Stands (name ++ codes " ") (λ found. Name name ∷ found) others
spaced name formed = behind gap (one (Name name) formed refl)

-- ` = `
equal_stands : {others : List ℕ} → Stands (codes " = ") (λ found. Symbol punctuator.Equal ∷ found) others
equal_stands = behind (behind gap (one (Symbol punctuator.Equal) tt refl)) gap

-- ` -> `
arrow_stands : {others : List ℕ} → Stands (codes " -> ") (λ found. Symbol punctuator.Arrow ∷ found) others
arrow_stands = behind (behind gap (one (Symbol punctuator.Arrow) tt refl)) gap

-- a tag before the `#` of an index
auxiliary_stands : (word rest : List ℕ) → HasSpelling (Name word) → Stands (codes "!" ++ word) (λ found. Symbol punctuator.Bang ∷ Name word ∷ found) (35 ∷ rest)
auxiliary_stands word rest formed = behind (one (Name word) formed refl) (one (Symbol punctuator.Bang) tt (before_name word (35 ∷ rest) formed))

abbrev is_named : Tag → Bool
is_named (tag.Op name) = is_identifier name
is_named _ = true

tag_stands : (what : Tag) (rest : List ℕ) → is_named what ≡ true → Stands (tag_text what) (written_tag what) (35 ∷ rest)
unfolding is_reserved reserved_words
tag_stands (tag.Op name) rest is = one (Name name) (name_spelled name is) refl
tag_stands tag.Choice rest is = auxiliary_stands (codes "choice") rest (name_spelled (codes "choice") refl)
tag_stands tag.Go rest is = auxiliary_stands (codes "go") rest (name_spelled (codes "go") refl)
tag_stands tag.Turn rest is = auxiliary_stands (codes "turn") rest (name_spelled (codes "turn") refl)
tag_stands tag.Begin rest is = auxiliary_stands (codes "begin") rest (name_spelled (codes "begin") refl)
tag_stands tag.End rest is = auxiliary_stands (codes "end") rest (name_spelled (codes "end") refl)
tag_stands tag.Out rest is = auxiliary_stands (codes "out") rest (name_spelled (codes "out") refl)

key_stands : (k : Key) {others : List ℕ} → is_formed_key k ≡ true → is_named k.tag ≡ true → SpaceOrEnd others → Stands (key_text k) (written_key k) others
key_stands k {others} is named stops =
    let (roles, index) = both_true (is_identifier k.from.0 && is_identifier k.to.0) (is_formed_index k.index) is in
    let (from, to) = both_true (is_identifier k.from.0) (is_identifier k.to.0) roles in
    behind (index_stands k.index index stops)
    (behind (tag_stands k.tag (decimal k.index.epoch ++ codes "." ++ decimal k.index.place ++ others) named)
    (behind gap
    (behind (one (Name k.to.0) (name_spelled k.to.0 to) refl)
    (behind arrow_stands
    (one (Name k.from.0) (name_spelled k.from.0 from) refl)))))

note_named : (what : Tag) (payload : Note) → note_fits what payload ≡ true → is_named what ≡ true
note_named (tag.Op name) (note.Val v) is = (both_true (is_identifier name) (is_constant v) is).0
note_named (tag.Op name) _ is = absurd cc
note_named tag.Choice payload is = refl
note_named tag.Go payload is = refl
note_named _ payload is = refl

variable_named : (what : Tag) (var : Option (List ℕ)) → variable_fits what var ≡ true → is_named what ≡ true
variable_named (tag.Op name) (Some x) is = (both_true (is_identifier name) (is_identifier x) is).0
variable_named (tag.Op name) None is = absurd cc
variable_named tag.Choice var is = refl
variable_named _ var is = refl

small_place : (n : ℕ) → nat_le n greatest_place ≡ true → n < 2 ^ 64
small_place n is = let small : n ≤ greatest_place = leb-true n greatest_place is in omega arith

part_stands : (n : ℕ) {others : List ℕ} → nat_le n greatest_place ≡ true → SpaceOrEnd others → Stands (codes "part " ++ decimal n) (λ found. Name (codes "part") ∷ Number (decimal n) ∷ found) others
unfolding is_reserved reserved_words
part_stands n is stops = behind (number_stands n (small_place n is) stops) (spaced (codes "part") (name_spelled (codes "part") refl))

note_stands : (what : Tag) (payload : Note) {others : List ℕ} → note_fits what payload ≡ true → SpaceOrEnd others → Stands (note_text payload) (written_note payload) others
unfolding is_reserved reserved_words
note_stands (tag.Op name) (note.Val v) is stops = value_stands v (both_true (is_identifier name) (is_constant v) is).1 stops
note_stands tag.Choice (note.Flag b) is stops = truth_stands b stops
note_stands tag.Go (note.Flag b) is stops = truth_stands b stops
note_stands tag.Turn note.Done is stops = word_stands (codes "done") (name_spelled (codes "done") refl) stops
note_stands tag.End note.Done is stops = word_stands (codes "done") (name_spelled (codes "done") refl) stops
note_stands tag.Out note.Done is stops = word_stands (codes "done") (name_spelled (codes "done") refl) stops
note_stands tag.Begin note.Keep is stops = word_stands (codes "keep") (name_spelled (codes "keep") refl) stops
note_stands tag.Begin (note.Part n) is stops = part_stands n is stops
note_stands _ _ is stops = absurd cc

choice_stands : (c : Chosen) {others : List ℕ} → is_formed_choice c ≡ true → SpaceOrEnd others → Stands (choice_text c) (written_choice c) others
unfolding is_reserved reserved_words
choice_stands chosen.Keep is stops = word_stands (codes "keep") (name_spelled (codes "keep") refl) stops
choice_stands (chosen.Rule name n) is stops =
    let (named, small) = both_true (is_identifier name) (nat_le n greatest_place) is in
    behind (number_stands n (small_place n small) stops)
    (behind (behind (spaced (codes "as") (name_spelled (codes "as") refl)) gap)
    (behind (one (Name name) (name_spelled name named) refl) (behind gap (one (Reserved word.Rule) tt refl))))

-- what stands behind the word of a line that sets a variable, up to its end
setting_stands : (word : List ℕ) (adds : List Lexeme → List Lexeme) (i : Index) (r : Role) (x : List ℕ) (v : Value) {others : List ℕ} →
    (is_formed_index i && is_formed_role r && is_identifier x && is_constant v) ≡ true → SpaceOrEnd others → ((more : List ℕ) → Stands word adds more) →
    Stands (word ++ x ++ codes "@" ++ r.0 ++ codes " " ++ index_text i ++ codes " = " ++ value_text v) (λ found. adds (written_setting i r x v found)) others
setting_stands word adds i r x v {others} is stops begins =
    let (front, constant) = both_true (is_formed_index i && is_formed_role r && is_identifier x) (is_constant v) is in
    let (placed, named) = both_true (is_formed_index i && is_formed_role r) (is_identifier x) front in
    let (index, owner) = both_true (is_formed_index i) (is_formed_role r) placed in
    behind (value_stands v constant stops)
    (behind equal_stands
    (behind (index_stands i index refl)
    (behind gap
    (behind (one (Name r.0) (name_spelled r.0 owner) refl)
    (behind (one (Symbol punctuator.At) tt (before_name r.0 (codes " " ++ (index_text i ++ (codes " = " ++ (value_text v ++ others)))) (name_spelled r.0 owner)))
    (behind (one (Name x) (name_spelled x named) refl) (begins _)))))))

variable_stands : (what : Tag) (var : Option (List ℕ)) {others : List ℕ} → variable_fits what var ≡ true → SpaceOrEnd others → Stands (variable_text var) (written_variable var) others
variable_stands what None {others} is stops = record { reads = λ whole at found rest read. subst (λ place. IsRead whole place others found) (add-zero at) read }
variable_stands (tag.Op name) (Some x) is stops = behind (word_stands x (name_spelled x (both_true (is_identifier name) (is_identifier x) is).1) stops) gap
variable_stands _ (Some x) is stops = absurd cc

variable_stops : (var : Option (List ℕ)) (others : List ℕ) → SpaceOrEnd others → SpaceOrEnd (variable_text var ++ others)
variable_stops None others stops = stops
variable_stops (Some x) others stops = refl

-- a line that is written
pub line_stands : (e : Entry) {others : List ℕ} → is_formed_entry e ≡ true → SpaceOrEnd others → Stands (line e) (written_line e) others
unfolding is_reserved reserved_words
line_stands (entry.Put k n) is stops =
    let (keyed, fits) = both_true (is_formed_key k) (note_fits k.tag n) is in
    behind (note_stands k.tag n fits stops) (behind equal_stands (behind (key_stands k keyed (note_named k.tag n fits) refl) (spaced (codes "put") (name_spelled (codes "put") refl))))
line_stands (entry.Take k x) {others} is stops =
    let (keyed, fits) = both_true (is_formed_key k) (variable_fits k.tag x) is in
    behind (variable_stands k.tag x fits stops) (behind (key_stands k keyed (variable_named k.tag x fits) (variable_stops x others stops)) (spaced (codes "take") (name_spelled (codes "take") refl)))
line_stands (entry.Set i r x v) is stops = setting_stands (codes "set ") (λ found. Name (codes "set") ∷ found) i r x v is stops (λ more. spaced (codes "set") (name_spelled (codes "set") refl))
line_stands (entry.Input i r x v) is stops = setting_stands (codes "input ") (λ found. Reserved word.Input ∷ found) i r x v is stops (λ more. behind gap (one (Reserved word.Input) tt refl))
line_stands (entry.Pick i r b) is stops =
    let (index, named) = both_true (is_formed_index i) (is_identifier r.0) is in
    behind (truth_stands b stops) (behind gap (behind (index_stands i index refl) (behind gap (behind (one (Name r.0) (name_spelled r.0 named) refl) (spaced (codes "pick") (name_spelled (codes "pick") refl))))))
line_stands (entry.Scope i r c) is stops =
    let (front, chosen) = both_true (is_formed_index i && is_identifier r.0) (is_formed_choice c) is in
    let (index, named) = both_true (is_formed_index i) (is_identifier r.0) front in
    behind (choice_stands c chosen stops) (behind gap (behind (index_stands i index refl) (behind gap (behind (one (Name r.0) (name_spelled r.0 named) refl) (behind gap (one (Reserved word.Scope) tt refl))))))
line_stands (entry.Add name) is stops = behind (word_stands name (name_spelled name is) stops) (spaced (codes "add") (name_spelled (codes "add") refl))
line_stands (entry.Drop name) is stops = behind (word_stands name (name_spelled name is) stops) (spaced (codes "drop") (name_spelled (codes "drop") refl))
line_stands (entry.Env key v) is stops =
    let (named, constant) = both_true (is_identifier key) (is_constant v) is in
    behind (value_stands v constant stops) (behind equal_stands (behind (one (Name key) (name_spelled key named) refl) (spaced (codes "env") (name_spelled (codes "env") refl))))

-- and a last line
pub last_stands : (end : Last) {others : List ℕ} → is_formed_last (Some end) ≡ true → SpaceOrEnd others → Stands (last_line end) (written_last end) others
unfolding is_reserved reserved_words
last_stands (last.Ended n) is stops =
    let small : n ≤ largest = leb-true n largest is in behind (number_stands n (omega arith) stops) (spaced (codes "ended") (name_spelled (codes "ended") refl))
last_stands (last.Stopped n) is stops =
    let small : n ≤ largest = leb-true n largest is in behind (number_stands n (omega arith) stops) (spaced (codes "stopped") (name_spelled (codes "stopped") refl))

-- the end of a line, and nothing
line_ends : {others : List ℕ} → Stands (line_end ∷ []) (λ found. found) others
line_ends {others} = record { reads = λ whole at found rest read. space_read whole at line_end others found refl rest read }

nothing_stands : {others : List ℕ} → Stands [] (λ found. found) others
nothing_stands {others} = record { reads = λ whole at found rest read. subst (λ place. IsRead whole place others found) (add-zero at) read }

-- the lines of entries
lines_stand : (entries : List Entry) {others : List ℕ} → list_all is_formed_entry entries ≡ true → Stands (lines false entries) (written_lines entries) others
lines_stand [] is = nothing_stands
lines_stand (e ∷ es) is =
    let (first, rest) = both_true (is_formed_entry e) (list_all is_formed_entry es) is in
    behind (lines_stand es rest) (behind line_ends (line_stands e first refl))

-- a whole text
whole_lexemes : (text : List ℕ) (adds : List Lexeme → List Lexeme) → Stands text adds [] → HasLexemes text (adds [])
whole_lexemes text adds stands =
    let ends : drop (0 + length text) text ≡ [] = drop_of_length-le text (omega arith) in
    let read = stands.reads text 0 [] (sym (append-nil text)) (nothing_read text (0 + length text) ends) in
    whole_read text (adds []) (subst (λ left. IsRead text 0 left (adds [])) (append-nil text) read)

pub line_lexemes : (e : Entry) → is_formed_entry e ≡ true → HasLexemes (line e) (written_line e [])
line_lexemes e is = whole_lexemes (line e) (written_line e) (line_stands e is tt)

pub run_lexemes : WrittenRunIsSpelled
run_lexemes aux entries end is last =
    whole_lexemes (run_text aux false entries end) (λ found. written_lines (shown_entries aux entries) (written_last end found))
    (behind line_ends (behind (last_stands end last refl) (lines_stand (shown_entries aux entries) is)))
