-- What a look at the first lexemes shows of a constant there.
use Rattle.std.proofs.Common.{◌≡◌, ℕ, ℤ, pos, neg_ℤ, w64, to_z, of_z, cond, nat_le, drop-drop, add_assoc, ◌+◌, ◌^◌, ◌<◌, ◌≤◌, Bool, true, false, ◌&&◌, IsTrue, List, [], ◌∷◌, length, drop, Some, None, Result, Err, refl, subst, ap, sym, ◌∙◌, arith, length-drop}
use Rattle.std.specs.Char.{is_ascii_digit}
use Rattle.std.specs.List.{list_all}
use Rattle.std.specs.Str.{all_ascii_digits, IsUtf8}
use Rattle.std.specs.Str.Parse.{digits_value, ParsesUnsigned}
use Rattle.std.specs.Result.{OkIff}
use Rattle.std.proofs.lemmas.Str.Parse.{tells_all_ascii_digits, numerals_by_value, parse_digits}
use Rattle.std.proofs.lemmas.Str.{IsUtf8-from_ascii}
use Rattle.std.proofs.lemmas.Fmt.{IsAscii-from_digits}
use Rattle.std.specs.Option.{option_map}
use Rattle.std.proofs.lemmas.Int.{to_z-of_z, to_z_pos}
use Rattle.std.proofs.lemmas.Bool.Decides.{nat_tests}
use borrow.Author.Tests.{leb-true}
use mir.Val.{SFits}
use Rattle.dioc_terms.specs.declared.values.Value.{Value}
use Rattle.dioc_terms.specs.declared.values.Value.TheVariants as value
use Rattle.aioc_tokens.specs.declared.words.Sort.TheVariants as sorts
use Rattle.aioc_tokens.specs.declared.words.Punctuator.TheVariants as punctuator
use Rattle.aioc_tokens.specs.Lexemes.{Lexeme, Long, Number, Symbol, sort_of}
use Rattle.aioc_tokens.proofs.Places.{number_at}
use Rattle.expr_syntax.specs.Constants.{greatest, greatest_negated, number_up_to, number, positive, negative, before, constant, ConstantAt}

pub digits_tested : (digits : List ℕ) → list_all is_ascii_digit digits ≡ all_ascii_digits digits
digits_tested [] = refl
digits_tested (digit ∷ others) = ap (λ tested. is_ascii_digit digit && tested) (digits_tested others)

pub great_number : (most : ℕ) (digits : List ℕ) → most < digits_value 10 digits → None ≡ number_up_to most digits
great_number most digits great = grind (arith, nat_tests)

-- one lexeme is a constant
pub one_taken : (text : List Lexeme) (at : ℕ) (first : Lexeme) (value : Value) → drop at text ≡ first ∷ drop (at + 1) text
    → constant (first ∷ drop (at + 1) text) ≡ Some (before (drop (at + 1) text) value) → at < length text → ConstantAt text at (Some (value, at + 1))
one_taken text at first value is found within = (ap constant is ∙ found, (omega arith, omega arith))

-- a number that is read is one of digits, and within its bound
pub record ReadNumber (most n : ℕ) (from : List Lexeme) : Type 0 where
  pub digits : List ℕ
  pub first : from ≡ Number digits ∷ drop 1 from
  pub value : Some n ≡ number_up_to most digits
  pub small : n ≤ most

bounded : (most n : ℕ) (digits : List ℕ) (fits : Bool) → fits ≡ nat_le (digits_value 10 digits) most → Some n ≡ cond fits (Some (digits_value 10 digits)) None → n ≤ most
bounded most n digits true is found = let same : n ≡ digits_value 10 digits = cc in omega (arith, leb-true (digits_value 10 digits) most (sym is))
bounded most n digits false is found = absurd cc

pub read_number : (most n : ℕ) (from : List Lexeme) → Some n ≡ number most from → ReadNumber most n from
read_number most n (Number digits ∷ others) found = record { digits = digits; first = refl; value = found; small = bounded most n digits (nat_le (digits_value 10 digits) most) refl found }
read_number most n [] found = absurd cc
read_number most n (Long ∷ others) found = absurd cc
read_number most n (_ ∷ others) found = absurd cc

pub drop_within : (text others : List Lexeme) (at : ℕ) (first : Lexeme) → drop at text ≡ first ∷ others → at < length text
drop_within text others at first is = omega (arith, ap length is, length-drop at text)

pub positive_taken : (text : List Lexeme) (at n : ℕ) → Some n ≡ number greatest (drop at text) → ConstantAt text at (Some (value.Int (to_z w64 n), at + 1))
positive_taken text at n found =
    let read = read_number greatest n (drop at text) found in
    let within = drop_within text (drop 1 (drop at text)) at (Number read.digits) read.first in
    rw (to_z_pos w64 n (omega (arith, read.small)))
    (one_taken text at (Number read.digits) (positive n) (read.first ∙ ap (λ others. Number read.digits ∷ others) (drop-drop 1 at text))
    (ap (option_map (λ n. before (drop (at + 1) text) (positive n))) (sym read.value)) within)

pub positive_none : (text : List Lexeme) (at : ℕ) → sorts.Number ≡ sort_of (drop at text) → None ≡ number greatest (drop at text) → ConstantAt text at None
positive_none text at sort none =
    let (digits, first) = number_at text at sort in
    (ap constant first ∙ ap (option_map (λ n. before (drop (at + 1) text) (positive n))) (sym (none ∙ ap (number greatest) first)), tt)

module _ (text : List Lexeme) (at : ℕ) (minus : drop at text ≡ Symbol punctuator.Minus ∷ drop (at + 1) text) where
  pub negative_taken : (n : ℕ) (z : ℤ) → z ≡ neg_ℤ (pos n) → SFits w64 z → Some n ≡ number greatest_negated (drop (at + 1) text) → ConstantAt text at (Some (value.Int (to_z w64 (of_z w64 z)), at + 2))
  negative_taken n z is fits found =
      let read = read_number greatest_negated n (drop (at + 1) text) found in
      let within = drop_within text (drop 1 (drop (at + 1) text)) (at + 1) (Number read.digits) read.first in
      let rest : drop (at + 1) text ≡ Number read.digits ∷ drop (at + 2) text = read.first ∙ ap (λ others. Number read.digits ∷ others) (drop-drop 1 (at + 1) text ∙ ap (λ place. drop place text) (add_assoc at 1 1)) in
      rw (to_z-of_z w64 z fits, is)
      (ap constant (minus ∙ ap (λ others. Symbol punctuator.Minus ∷ others) rest) ∙ ap (option_map (λ n. before (drop (at + 2) text) (negative n))) (sym read.value), (omega arith, omega arith))

  pub negative_none : None ≡ number greatest_negated (drop (at + 1) text) → ConstantAt text at None
  negative_none none = (ap constant minus ∙ go (drop (at + 1) text) none, tt)
    where
      go : (rest : List Lexeme) → None ≡ number greatest_negated rest → constant (Symbol punctuator.Minus ∷ rest) ≡ None
      go (Number digits ∷ others) found = ap (option_map (λ n. before others (negative n))) (sym found)
      go [] found = refl
      go (Long ∷ others) found = refl
      go (_ ∷ others) found = refl
