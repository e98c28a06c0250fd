-- The code of each byte tells what begins with it: held against the definitions at each of the 256 bytes, by computing.
use Rattle.std.proofs.Common.{◌≡◌, ℕ, ◌+◌, ◌<◌, ◌≤◌, Bool, true, false, ◌&&◌, ◌||◌, not, ◌==◌, nat_lt, nat_le, [], ◌∷◌, length, get_or, Option, Some, None, refl, ap, sym, ◌∙◌, subst, arith}
use Rattle.std.specs.Char.{is_ascii_alphabetic, is_ascii_digit}
use Rattle.std.proofs.lemmas.Bool.{agree_below_at, and_parts, both_ways, not-true, eqb-true, ltb-true, le-leb, eq-eqb, ne_eqb}
use denote.Enum.Declared.{tag_of}
use Rattle.aioc_tokens.specs.contracts.words.Punctuator.{the_type as punctuator_type}
use Rattle.aioc_tokens.specs.declared.first_bytes.TheConstants.{CODES}
use Rattle.aioc_tokens.specs.declared.words.Punctuator.{Punctuator}
use Rattle.aioc_tokens.specs.declared.words.Punctuator.TheVariants.{LeftBrace, RightBrace}
use Rattle.aioc_tokens.specs.Words.{punctuator_spelling, punctuator_of}
use Rattle.aioc_tokens.specs.Tokens.{is_space, is_name_byte}
use Rattle.aioc_tokens.specs.SortBytes.{sort_at}
use Rattle.aioc_tokens.specs.FirstBytes.{IsLone, IsOther}
use Rattle.aioc_tokens.proofs.Spellings.{punctuator_of_spelled}
use Rattle.aioc_tokens.proofs.SortPlaces.{punctuator_at}

abbrev pub code : ℕ → ℕ
code byte = get_or CODES byte 0

-- a byte that a comment or some symbol of two bytes begins with
begins_longer : ℕ → Bool
begins_longer byte = byte == 47 || byte == 61 || byte == 33 || byte == 60 || byte == 62 || byte == 43 || byte == 45

-- each symbol has one byte, or begins so
lone_or_pair : (punctuator : Punctuator) → (nat_lt (length (punctuator_spelling punctuator)) 2 || begins_longer (get_or (punctuator_spelling punctuator) 0 0)) ≡ true
unfolding begins_longer
lone_or_pair LeftBrace = refl
lone_or_pair RightBrace = refl
lone_or_pair _ = refl

pair_begins : (punctuator : Punctuator) (byte second : ℕ) → byte ∷ second ∷ [] ≡ punctuator_spelling punctuator → begins_longer byte ≡ true
pair_begins punctuator byte second is =
    subst (λ word. (nat_lt (length word) 2 || begins_longer (get_or word 0 0)) ≡ true) (sym is) (lone_or_pair punctuator)

no_pair : (byte : ℕ) → begins_longer byte ≡ false → (second : ℕ) → punctuator_of (byte ∷ second ∷ []) ≡ None
no_pair byte none second = go (punctuator_of (byte ∷ second ∷ [])) refl
  where
    go : (found : Option Punctuator) → punctuator_of (byte ∷ second ∷ []) ≡ found → punctuator_of (byte ∷ second ∷ []) ≡ None
    go None is = is
    go (Some punctuator) is = let begins = pair_begins punctuator byte second (punctuator_of_spelled (byte ∷ second ∷ []) punctuator is) in absurd cc

-- the byte of a symbol's sort
mark_of : Option Punctuator → ℕ
mark_of None = 6
mark_of (Some punctuator) = 24 + tag_of punctuator_type punctuator

is_lone : ℕ → Bool
is_lone byte = mark_of (punctuator_of (byte ∷ [])) == code byte && not (begins_longer byte)

module _ (byte : ℕ) (below : byte < 256) where
  pub names : nat_lt (code byte) 3 ≡ is_name_byte byte
  names = agree_below_at (λ b. nat_lt (code b) 3) is_name_byte 256 byte refl below

  pub letters : (code byte == 0) ≡ is_ascii_alphabetic byte
  letters = agree_below_at (λ b. code b == 0) is_ascii_alphabetic 256 byte refl below

  pub digits : (code byte == 2) ≡ is_ascii_digit byte
  digits = agree_below_at (λ b. code b == 2) is_ascii_digit 256 byte refl below

  pub spaces : (code byte == 3) ≡ is_space byte
  spaces = agree_below_at (λ b. code b == 3) is_space 256 byte refl below

  pub quotes : (code byte == 4) ≡ (byte == 34)
  quotes = agree_below_at (λ b. code b == 4) (λ b. b == 34) 256 byte refl below

  small : nat_lt (code byte) 52 ≡ true
  small = agree_below_at (λ b. nat_lt (code b) 52) (λ _. true) 256 byte refl below

  lones : nat_le 24 (code byte) ≡ is_lone byte
  unfolding is_lone mark_of begins_longer punctuator_of
  lones = agree_below_at (λ b. nat_le 24 (code b)) is_lone 256 byte refl below

  pub code_small : code byte < 52
  code_small = ltb-true (code byte) 52 small

  -- a byte whose code is that of a sort is a symbol of that sort, and begins no longer one
  pub lone_byte : 24 ≤ code byte → IsLone byte (sort_at (code byte))
  unfolding is_lone mark_of begins_longer
  lone_byte sort = go (punctuator_of (byte ∷ [])) refl parts.0
    where
      parts : ((mark_of (punctuator_of (byte ∷ [])) == code byte) ≡ true) × (not (begins_longer byte) ≡ true)
      parts = and_parts (mark_of (punctuator_of (byte ∷ [])) == code byte) (not (begins_longer byte)) (sym lones ∙ le-leb 24 (code byte) sort)

      go : (found : Option Punctuator) → punctuator_of (byte ∷ []) ≡ found → (mark_of found == code byte) ≡ true → IsLone byte (sort_at (code byte))
      go None is same = absurd (omega (arith, eqb-true 6 (code byte) same))
      go (Some punctuator) is same = record {
        punctuator = punctuator;
        sort_is = ap sort_at (sym (eqb-true (mark_of (Some punctuator)) (code byte) same)) ∙ punctuator_at punctuator;
        known = is;
        no_slash = λ slash. both_ways _ (not-true (begins_longer byte) parts.1) (rw slash refl);
        no_pair = no_pair byte (not-true (begins_longer byte) parts.1);
      }

  pub other_byte : (code byte ≡ 0 → ⊥) → (code byte ≡ 2 → ⊥) → (code byte ≡ 3 → ⊥) → (code byte ≡ 4 → ⊥) → IsOther byte
  other_byte letter digit space quote = record {
    no_letter = sym letters ∙ ne_eqb (code byte) 0 letter;
    no_digit = sym digits ∙ ne_eqb (code byte) 2 digit;
    no_quote = λ is. quote (eqb-true (code byte) 4 (quotes ∙ eq-eqb byte 34 is));
    no_space = sym spaces ∙ ne_eqb (code byte) 3 space;
  }
