-- The texts that JSON writes of printable bytes, and of objects.
use Rattle.std.proofs.Common.{◌≡◌, ℕ, zero, suc, ◌<◌, ◌^◌, Bool, true, false, ◌&&◌, ◌||◌, nat_le, List, [], ◌∷◌, ◌++◌, length, get_or, flat_map, codes, decimal, refl, sym, ap, ◌∙◌, subst, arith, append_assoc, String, BTreeMap}
use Rattle.std.specs.declared.alloc.Global.{Global}
use Rattle.std.specs.Char.{is_ascii_digit}
use Rattle.std.specs.Str.{IsUtf8, all_ascii_digits}
use Rattle.std.specs.List.{list_all}
use Rattle.std.proofs.lemmas.Bool.Decides.{nat_tests}
use Rattle.std.proofs.lemmas.Str.{IsUtf8-from_ascii}
use Rattle.std.proofs.lemmas.Str.Parse.{tells_all_ascii_digits, numerals_by_value}
use Rattle.std.proofs.lemmas.Fmt.{digits_decimal}
use Rattle.std.proofs.lemmas.List.Folds.{list_all-append}
use Rattle.dioc_terms.specs.Names as names
use Rattle.aioc_tokens.specs.Tokens.{is_printable, escaped, quoted}
use Rattle.json.specs.Print.{escape_byte}
use Rattle.json.specs.Print as json
use Rattle.expr_syntax.proofs.ConstantFacts.{digits_tested}
use Rattle.serde_json.specs.Data.{Data, string, object, Members, no_members, member, put}
use Rattle.serde_json.specs.View.{view, members_view}
use Rattle.serde_json.specs.Written.{members_have_float, compact_text, members_text}
use Rattle.serde_json.specs.declared.value.Value.{Value, Object}
use Rattle.serde_json.proofs.Views.{view-Object}
use Rattle.trace_text.specs.Json as written
use Rattle.trace_text.specs.JsonValues.{IsJsonText, Puts}

both_true : (a b : Bool) → (a && b) ≡ true → (a ≡ true) × (b ≡ true)
both_true true b is = (refl, is)
both_true false b is = absurd cc

-- bytes that pass one test pass another
list_weaker : (one other : ℕ → Bool) → ((byte : ℕ) → one byte ≡ true → other byte ≡ true) → (bytes : List ℕ) → list_all one bytes ≡ true → list_all other bytes ≡ true
list_weaker one other weaker [] all = refl
list_weaker one other weaker (byte ∷ bytes) all =
    let (first, rest) = both_true (one byte) (list_all one bytes) all in λ i. weaker byte first i && list_weaker one other weaker bytes rest i

word_printable : (byte : ℕ) → names.is_word byte ≡ true → is_printable byte ≡ true
word_printable byte is = grind (arith, nat_tests)

letter_printable : (byte : ℕ) → names.is_letter byte ≡ true → is_printable byte ≡ true
letter_printable byte is = grind (arith, nat_tests)

digit_printable : (byte : ℕ) → is_ascii_digit byte ≡ true → is_printable byte ≡ true
digit_printable byte is = grind (arith, nat_tests)

pub name_printable : (name : List ℕ) → names.is_name name ≡ true → list_all is_printable name ≡ true
name_printable [] is = absurd cc
name_printable (first ∷ rest) is =
    let (front, short) = both_true (names.is_letter first && list_all names.is_word rest) (nat_le (length rest) 63) is in
    let (letter, words) = both_true (names.is_letter first) (list_all names.is_word rest) front in
    λ i. letter_printable first letter i && list_weaker names.is_word is_printable word_printable rest words i

pub decimal_printable : (n : ℕ) → n < 2 ^ 64 → list_all is_printable (decimal n) ≡ true
decimal_printable n fits =
    list_weaker is_ascii_digit is_printable digit_printable (decimal n)
    (digits_tested (decimal n) ∙ digits_decimal (numerals_by_value (λ digits. all_ascii_digits digits ≡ true) tells_all_ascii_digits) n fits)

printable_ascii : (bytes : List ℕ) → list_all is_printable bytes ≡ true → (i : ℕ) → get_or bytes i 0 < 128
printable_ascii [] all i = omega arith
printable_ascii (byte ∷ bytes) all zero = let (first, rest) = both_true (is_printable byte) (list_all is_printable bytes) all in below byte first
  where
    below : (byte : ℕ) → is_printable byte ≡ true → byte < 128
    below byte is = grind (arith, nat_tests)
printable_ascii (byte ∷ bytes) all (suc i) = let (first, rest) = both_true (is_printable byte) (list_all is_printable bytes) all in printable_ascii bytes rest i

pub printable_utf8 : (bytes : List ℕ) → list_all is_printable bytes ≡ true → IsUtf8 bytes
printable_utf8 bytes all = IsUtf8-from_ascii bytes (printable_ascii bytes all)

escaped_alike : (byte : ℕ) → is_printable byte ≡ true → escape_byte byte ≡ escaped byte
unfolding escape_byte
escaped_alike byte is = grind (arith, nat_tests)

escapes_alike : (bytes : List ℕ) → list_all is_printable bytes ≡ true → json.escape bytes ≡ flat_map escaped bytes
escapes_alike [] all = refl
escapes_alike (byte ∷ bytes) all =
    let (first, rest) = both_true (is_printable byte) (list_all is_printable bytes) all in λ i. escaped_alike byte first i ++ escapes_alike bytes rest i

pub quoted_alike : (bytes : List ℕ) → list_all is_printable bytes ≡ true → json.quoted bytes ≡ quoted bytes
quoted_alike bytes all = ap (λ inside. 34 ∷ (inside ++ 34 ∷ [])) (escapes_alike bytes all)

pub string_is : (bytes : List ℕ) → list_all is_printable bytes ≡ true → IsJsonText (string bytes) (quoted bytes)
string_is bytes all = record { no_float = refl; text_is = quoted_alike bytes all }

-- a key with its value, and the value's text
pub record Row : Type 0 where
  pub key : List ℕ
  pub plain : list_all is_printable key ≡ true
  pub value : Data
  pub text : List ℕ
  pub is : IsJsonText value text

-- the row of what was put
abbrev pub row : {old new : List (String Global × Value)} {key text : List ℕ} → Puts old new key text → list_all is_printable key ≡ true → Row
row {key = key} {text = text} puts plain = record { key = key; plain = plain; value = puts.value; text = text; is = puts.is }

abbrev pub adds : List Row → Members → Members
adds [] ms = ms
adds (r ∷ rows) ms = adds rows (put r.key r.value ms)

abbrev pub listed : List Row → Members
listed [] = no_members
listed (r ∷ rows) = member r.key r.value (listed rows)

abbrev pub row_texts : List Row → List (List ℕ)
row_texts [] = []
row_texts (r ∷ rows) = written.json_member r.key r.text ∷ row_texts rows

listed_no_float : (rows : List Row) → members_have_float (listed rows) ≡ false
listed_no_float [] = refl
listed_no_float (r ∷ rows) = λ i. r.is.no_float i || listed_no_float rows i

member_is : (r : Row) (rest : List ℕ) → json.quoted r.key ++ 58 ∷ (compact_text r.value ++ rest) ≡ written.json_member r.key r.text ++ rest
member_is r rest =
    (λ i. quoted_alike r.key r.plain i ++ 58 ∷ (r.is.text_is i ++ rest)) ∙ simp append_assoc

listed_tail : (rows : List Row) → members_text true (listed rows) ≡ written.tail_members (row_texts rows) ++ 125 ∷ []
listed_tail [] = refl
listed_tail (r ∷ rows) =
    ap (λ t. 44 ∷ t) (member_is r (members_text true (listed rows)) ∙ ap (λ t. written.json_member r.key r.text ++ t) (listed_tail rows)) ∙ simp append_assoc

listed_text : (rows : List Row) → compact_text (object (listed rows)) ≡ written.object (row_texts rows)
listed_text [] = refl
listed_text (r ∷ rows) =
    ap (λ t. 123 ∷ t) (member_is r (members_text true (listed rows)) ∙ ap (λ t. written.json_member r.key r.text ++ t) (listed_tail rows)) ∙ simp append_assoc

-- an object of these rows has this text
pub object_is : (rows : List Row) (ms : Members) → ms ≡ listed rows → IsJsonText (object ms) (written.object (row_texts rows))
object_is rows ms is = record { no_float = ap members_have_float is ∙ listed_no_float rows; text_is = ap (λ ms. compact_text (object ms)) is ∙ listed_text rows }

-- one member more
pub more : {old new : List (String Global × Value)} {key text : List ℕ} {ms : Members} (puts : Puts old new key text) → members_view old ≡ ms → members_view new ≡ put key puts.value ms
more {key = key} puts is = puts.members ∙ ap (put key puts.value) is

-- the value of members that are these rows
pub json_is : (m : BTreeMap (String Global) Value) (rows : List Row) → members_view m.entries ≡ listed rows → IsJsonText (view (Object m)) (written.object (row_texts rows))
json_is m rows is = subst (λ seen. IsJsonText seen (written.object (row_texts rows))) (sym (view-Object m)) (object_is rows (members_view m.entries) is)

-- pieces that are written one after another, the first of them first
pub two_pieces : (start first second one all : List ℕ) → start ≡ [] → one ≡ start ++ first → all ≡ one ++ second → all ≡ first ++ second
two_pieces start first second one all s e f = f ∙ ap (λ l. l ++ second) (e ∙ ap (λ l. l ++ first) s)

pub three_pieces : (start first second third one two all : List ℕ) → start ≡ [] → one ≡ start ++ first → two ≡ one ++ second → all ≡ two ++ third
    → all ≡ first ++ second ++ third
three_pieces start first second third one two all s e f g = g ∙ ap (λ l. l ++ third) (two_pieces start first second one two s e f)

-- an index, and the epoch of a part
pub index_printable : (epoch place : ℕ) → epoch < 2 ^ 64 → place < 2 ^ 64 → list_all is_printable (decimal epoch ++ codes "." ++ decimal place) ≡ true
index_printable epoch place fits fits2 =
    list_all-append is_printable (decimal epoch ++ codes ".") (decimal place)
    ∙ (λ i. list_all-append is_printable (decimal epoch) (codes ".") i && list_all is_printable (decimal place))
    ∙ (λ i. (decimal_printable epoch fits i && true) && decimal_printable place fits2 i)

pub part_printable : (epoch : ℕ) → epoch < 2 ^ 64 → list_all is_printable (codes "part " ++ decimal epoch) ≡ true
part_printable epoch fits = decimal_printable epoch fits
