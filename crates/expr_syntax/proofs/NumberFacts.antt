-- The number that digits stand for, digit by digit.
use Rattle.std.proofs.Common.{◌≡◌, ℕ, ◌+◌, ◌-◌, ◌*◌, ◌^◌, ◌<◌, ◌≤◌, Bool, true, false, IsTrue, List, [], ◌∷◌, length, take, get_or, None, refl, sym, ◌∙◌, ap, subst, arith}
use Rattle.std.specs.Char.{is_ascii_digit, digit_value}
use Rattle.std.specs.List.{list_all}
use Rattle.std.specs.Str.Parse.{digits_value}
use Rattle.std.proofs.lemmas.Bool.Decides.{nat_tests}
use Rattle.std.proofs.lemmas.Int.Digits.{digits_value_more}
use Rattle.std.proofs.lemmas.List.Folds.{list_all_at}
use Rattle.std.proofs.lemmas.Str.{digit_value_digit}
use Rattle.std.proofs.lemmas.Str.Parse.{digits_value-take-le}
use Rattle.expr_syntax.specs.Constants.{number_up_to}
use Rattle.expr_syntax.proofs.ConstantFacts.{great_number}

-- a digit among digits
pub record IsDigitByte (byte : ℕ) : Type 0 where
  pub least : 48 ≤ byte
  pub value : digit_value byte ≡ byte - 48

digit_is : (byte : ℕ) → is_ascii_digit byte ≡ true → IsDigitByte byte
digit_is byte digit =
    let least : 48 ≤ byte = grind (arith, nat_tests) in
    let most : byte ≤ 57 = grind (arith, nat_tests) in
    record { least = least; value = omega (arith, digit_value_digit byte (least, most)) }

module _ (digits : List ℕ) (all : IsTrue (list_all is_ascii_digit digits)) (at : ℕ) (within : at < length digits) where
  pub is_digit : IsDigitByte (get_or digits at 0)
  is_digit = go (is_ascii_digit (get_or digits at 0)) refl
    where
      go : (tested : Bool) → is_ascii_digit (get_or digits at 0) ≡ tested → IsDigitByte (get_or digits at 0)
      go true digit = digit_is (get_or digits at 0) digit
      go false other = let none = list_all_at is_ascii_digit digits at 0 within other in absurd cc

  -- one digit more
  pub one_more : digits_value 10 (take (at + 1) digits) ≡ digits_value 10 (take at digits) * 10 + (get_or digits at 0 - 48)
  one_more = digits_value_more 10 digits at within ∙ ap (λ digit. digits_value 10 (take at digits) * 10 + digit) is_digit.value

  -- where the first digits pass the greatest number, so do all
  pub passes : (most : ℕ) → most < 2 ^ 64 → ((digits_value 10 (take at digits) * 10 + (get_or digits at 0 - 48)) < 2 ^ 64 → ⊥) → None ≡ number_up_to most digits
  passes most fits over =
      great_number most digits (omega (arith, one_more, digits_value-take-le 10 digits (at + 1) (omega arith)))
