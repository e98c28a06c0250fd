-- A value whose text lies elsewhere, as the value that it shows; and a number or a text that may be
-- missing.
use Rattle.std.specs.Prelude.{ℕ, List, Option, Some, None, ℤ, Bool, not}
use Rattle.dioc_terms.specs.declared.values.Value.{Value}
use Rattle.dioc_terms.specs.declared.values.Value.TheVariants as value
use Rattle.dioc_terms.specs.declared.expressions.Oper.{Oper}
use Rattle.dioc_terms.specs.declared.expressions.Oper.TheVariants.{Eq, Ne}
use Rattle.dioc_terms.specs.declared.borrowed.BorrowedValue.{BorrowedValue}
use Rattle.dioc_terms.specs.declared.borrowed.BorrowedValue.TheVariants as seen

abbrev pub borrowed_value : BorrowedValue → Value
borrowed_value seen.Nil = value.Nil
borrowed_value (seen.Bool b) = value.Bool b
borrowed_value (seen.Int z) = value.Int z
borrowed_value (seen.Text bytes) = value.Text bytes.now

-- the number, or Nil
abbrev pub number_or_nil : Option ℤ → Value
number_or_nil None = value.Nil
number_or_nil (Some z) = value.Int z

-- the text, or Nil
abbrev pub text_or_nil : Option (List ℕ) → Value
text_or_nil None = value.Nil
text_or_nil (Some text) = value.Text text

-- what an operator that joins no texts gives for two Nil, or for two values of different kinds
abbrev pub others_value : Oper → Bool → Value
others_value Eq are_nil = value.Bool are_nil
others_value Ne are_nil = value.Bool (not are_nil)
others_value _ are_nil = value.Nil
