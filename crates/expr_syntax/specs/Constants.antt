-- The constants of the grammar.
use Rattle.std.specs.Prelude.{ℕ, ◌+◌, ◌<◌, ◌≤◌, ◌≡◌, List, ◌∷◌, drop, length, true, false, Option, Some, None, option_map, MatchOption, if◌then◌else◌, nat_le, pos, neg_ℤ}
use Rattle.std.specs.Str.Parse.{digits_value}
use Rattle.limits.specs.Limits.{largest}
use Rattle.dioc_terms.specs.declared.values.Value.{Value}
use Rattle.dioc_terms.specs.declared.values.Value.TheVariants as value
use Rattle.aioc_tokens.specs.declared.words.Word.TheVariants as word
use Rattle.aioc_tokens.specs.declared.words.Punctuator.TheVariants as punctuator
use Rattle.aioc_tokens.specs.Lexemes.{Lexeme, Number, Text, Reserved, Symbol}

-- the greatest number, and the greatest one directly after a `-`
abbrev pub greatest : ℕ
greatest = largest

abbrev pub greatest_negated : ℕ
greatest_negated = largest + 1

-- the number that the digits stand for, unless it is greater than this one; leading zeros don't
-- matter
abbrev pub number_up_to : ℕ → List ℕ → Option ℕ
number_up_to most digits =
    if nat_le (digits_value 10 digits) most then Some (digits_value 10 digits) else None

-- a number at the front
abbrev pub number : ℕ → List Lexeme → Option ℕ
number most (Number digits ∷ others) = number_up_to most digits
number most _ = None

abbrev pub positive : ℕ → Value
positive n = value.Int (pos n)

abbrev pub negative : ℕ → Value
negative n = value.Int (neg_ℤ (pos n))

-- a value with what is left behind it
abbrev pub before : List Lexeme → Value → Value × List Lexeme
before others found = (found, others)

-- A constant at the front, with what is left behind it:
--   value = "nil" | "true" | "false" | [ "-" ] number | text
abbrev pub constant : List Lexeme → Option (Value × List Lexeme)
constant (Reserved word.Nil ∷ others) = Some (before others value.Nil)
constant (Reserved word.True ∷ others) = Some (before others (value.Bool true))
constant (Reserved word.False ∷ others) = Some (before others (value.Bool false))
constant (Text bytes ∷ others) = Some (before others (value.Text bytes))
constant (Number digits ∷ others) =
    option_map (λ n. before others (positive n)) (number_up_to greatest digits)
constant (Symbol punctuator.Minus ∷ Number digits ∷ others) =
    option_map (λ n. before others (negative n)) (number_up_to greatest_negated digits)
constant _ = None

-- what a reader found is what stands at this place of the list, and the place behind it is a later
-- one within the list
abbrev pub ConstantAt : List Lexeme → ℕ → Option (Value × ℕ) → Type 0
ConstantAt text at found =
    (constant (drop at text)
    ≡ option_map (λ (read : Value × ℕ). before (drop read.1 text) read.0) found) ×
    MatchOption found (Unit {0}) (λ read. (at < read.1) × (read.1 ≤ length text))
