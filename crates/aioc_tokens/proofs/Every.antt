-- A text has tokens, or a byte of it is in none.
use Rattle.std.proofs.Common.{◌≡◌, ◌⊎◌, ℕ, zero, suc, ◌+◌, ◌<◌, ◌≤◌, ◌==◌, Bool, true, false, List, [], ◌∷◌, length, get_or, take, drop, Option, Some, None, is_some, refl, ap, arith, inl, inr, ⊎_elim, length-drop, codes, bytes_eq}
use Rattle.std.specs.Char.{is_ascii_alphabetic, is_ascii_digit}
use Rattle.std.proofs.lemmas.Bool.{both_ways}
use Rattle.std.proofs.lemmas.Bool.Decides.{Decides-eqb, not_from_Decides}
use Rattle.std.proofs.lemmas.Slice.Eq.{bytes_eq-Decides}
use Rattle.std.proofs.str.Laws.{order}
use Rattle.aioc_tokens.specs.declared.kinds.Kind.{Kind}
use Rattle.aioc_tokens.specs.declared.kinds.Kind.TheVariants.{Text, Symbol}
use Rattle.aioc_tokens.specs.declared.kinds.Token.{Token}
use Rattle.aioc_tokens.specs.Words.{punctuator_of}
use Rattle.aioc_tokens.specs.Tokens.{is_space, line_length, IsFront, IsBlank, comment, IsLongestToken, BeginsComment}
use Rattle.aioc_tokens.specs.Lexing.{Lexes, ended, blank_first, token_first, Breaks, at_once, after_blank, after_token}
use Rattle.aioc_tokens.proofs.Firsts.{kind_by, symbol_by, no_other}
use Rattle.aioc_tokens.proofs.Blanks.{space_blank, no_blank, blank_size}
use Rattle.aioc_tokens.proofs.Runs.{name_longest, number_longest}
use Rattle.aioc_tokens.specs.Packed.{text_end}
use Rattle.aioc_tokens.proofs.Quotes.{text_longest, no_text}
use Rattle.aioc_tokens.proofs.Symbols.{symbol_found, symbol_in_table, two_longest, one_longest, no_symbol}
use Rattle.aioc_tokens.proofs.Walk.{token_size}

-- a symbol of so many bytes stands at the front, or none
symbol_or_not : (text : List ℕ) (count : ℕ) → IsFront text Symbol count ⊎ (IsFront text Symbol count → ⊥)
symbol_or_not text count = ⊎_elim (λ past. inr (λ front. absurd (omega (arith, front.within)))) (λ within. go within (is_some (punctuator_of (take count text))) refl) (order (length text) count)
  where
    go : count ≤ length text → (found : Bool) → is_some (punctuator_of (take count text)) ≡ found → IsFront text Symbol count ⊎ (IsFront text Symbol count → ⊥)
    go within true is = inl (symbol_found text count within is)
    go within false is = inr (λ front. both_ways _ is (symbol_in_table text count front))

-- what stands at the front where no comment begins: a token, or none
data TokenOrNone (text : List ℕ) : Type 0 where
  token : {kind : Kind} {count : ℕ} → IsLongestToken text kind count → TokenOrNone text
  none : ((kind : Kind) (count : ℕ) → IsFront text kind count → ⊥) → TokenOrNone text

symbol_or_none : (text : List ℕ) → kind_by (get_or text 0 0) ≡ Symbol → (¬ BeginsComment text) → TokenOrNone text
symbol_or_none text is no_comment =
    ⊎_elim (λ two. token (two_longest text two no_comment))
    (λ no_two. ⊎_elim (λ one. token (one_longest text one no_two no_comment)) (λ no_one. none (no_other text Symbol is (no_symbol text no_one no_two))) (symbol_or_not text 1))
    (symbol_or_not text 2)

text_or_none : (text : List ℕ) → get_or text 0 0 ≡ 34 → (end : Option ℕ) → text_end false (drop 1 text) ≡ end → TokenOrNone text
text_or_none text quote (Some count) ends = token (text_longest text count quote ends)
text_or_none text quote None ends = none (no_other text Text (ap kind_by quote) (no_text text ends))

token_or_none : (text : List ℕ) → (¬ BeginsComment text) → TokenOrNone text
token_or_none text no_comment = by_letter (is_ascii_alphabetic (get_or text 0 0)) refl
  where
    by_quote : (quote : Bool) → (get_or text 0 0 == 34) ≡ quote → is_ascii_alphabetic (get_or text 0 0) ≡ false → is_ascii_digit (get_or text 0 0) ≡ false → TokenOrNone text
    by_quote true is no_letter no_digit = text_or_none text ((Decides-eqb (get_or text 0 0) 34).0 is) (text_end false (drop 1 text)) refl
    by_quote false is no_letter no_digit = symbol_or_none text (symbol_by (get_or text 0 0) no_letter no_digit (not_from_Decides (get_or text 0 0 == 34) (Decides-eqb (get_or text 0 0) 34) is)) no_comment

    by_digit : (digit : Bool) → is_ascii_digit (get_or text 0 0) ≡ digit → is_ascii_alphabetic (get_or text 0 0) ≡ false → TokenOrNone text
    by_digit true is no_letter = token (number_longest text is)
    by_digit false is no_letter = by_quote (get_or text 0 0 == 34) refl no_letter is

    by_letter : (letter : Bool) → is_ascii_alphabetic (get_or text 0 0) ≡ letter → TokenOrNone text
    by_letter true is = token (name_longest text is)
    by_letter false is = by_digit (is_ascii_digit (get_or text 0 0)) refl is

-- what stands at the front
data FrontOf (text : List ℕ) : Type 0 where
  blank : {count : ℕ} → IsBlank text count → FrontOf text
  other : ((count : ℕ) → IsBlank text count → ⊥) → TokenOrNone text → FrontOf text

front_of : (text : List ℕ) → 0 < length text → FrontOf text
front_of text some = by_comment (bytes_eq (take 2 text) (codes "//")) refl
  where
    by_space : (is : Bool) → is_space (get_or text 0 0) ≡ is → (¬ BeginsComment text) → FrontOf text
    by_space true is no_comment = blank (space_blank text some is)
    by_space false is no_comment = other (no_blank text is no_comment) (token_or_none text no_comment)

    by_comment : (begins : Bool) → bytes_eq (take 2 text) (codes "//") ≡ begins → FrontOf text
    by_comment true is = blank (comment {text = text} {count = line_length text} ((bytes_eq-Decides (take 2 text) (codes "//")).0 is) refl)
    by_comment false is = by_space (is_space (get_or text 0 0)) refl (not_from_Decides _ (bytes_eq-Decides (take 2 text) (codes "//")) is)

-- tokens, or a byte that is in none
abbrev Ways : ℕ → List ℕ → Type 0
Ways at text = ((tokens : List Token) × Lexes at text tokens) ⊎ ((bad : ℕ) × Breaks at text bad)

past_blank : (at count : ℕ) (text : List ℕ) → IsBlank text count → Ways (at + count) (drop count text) → Ways at text
past_blank at count text is ways = ⊎_elim (λ found. inl (found.0, blank_first is found.1)) (λ broken. inr (broken.0, after_blank is broken.1)) ways

past_token : (at count : ℕ) (text : List ℕ) (kind : Kind) → IsLongestToken text kind count → Ways (at + count) (drop count text) → Ways at text
past_token at count text kind is ways =
    ⊎_elim (λ found. inl (record { kind = kind; start = at; end = at + count } ∷ found.0, token_first is found.1)) (λ broken. inr (broken.0, after_token is broken.1)) ways

every_below : (most at : ℕ) (text : List ℕ) → length text ≤ most → Ways at text
every_below most at [] short = inl ([], ended)
every_below zero at (byte ∷ others) short = absurd (omega arith)
every_below (suc most) at (byte ∷ others) short = go (front_of (byte ∷ others) (omega arith)) (λ (further : ℕ) (left : List ℕ). every_below most further left)
  where
    go : FrontOf (byte ∷ others) → ((further : ℕ) (left : List ℕ) → length left ≤ most → Ways further left) → Ways at (byte ∷ others)
    go (blank {count = count} is) rest =
        let size = blank_size (byte ∷ others) count is in
        past_blank at count (byte ∷ others) is (rest (at + count) (drop count (byte ∷ others)) (omega (arith, length-drop count (byte ∷ others), size.0, size.1)))
    go (other no_blanks (token {kind = kind} {count = count} is)) rest =
        let size = token_size (byte ∷ others) kind count is in
        past_token at count (byte ∷ others) kind is (rest (at + count) (drop count (byte ∷ others)) (omega (arith, length-drop count (byte ∷ others), size.0, size.1)))
    go (other no_blanks (none no_tokens)) rest = inr (at, at_once no_blanks no_tokens)

pub every_way : (text : List ℕ) → ((tokens : List Token) × Lexes 0 text tokens) ⊎ ((bad : ℕ) × Breaks 0 text bad)
every_way text = every_below (length text) 0 text (omega arith)
