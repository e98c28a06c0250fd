-- What a writer of a piece appends, and what it leaves where memory runs out.
use Rattle.std.specs.Prelude.{◌≡◌, ℕ, suc, Bool, true, false, List, ◌++◌, length, take, codes, decimal, ℤ, pos, negsuc}
use Rattle.dioc_terms.specs.declared.values.Value.{Value}
use Rattle.dioc_terms.specs.declared.values.Value.TheVariants as value
use Rattle.aioc_tokens.specs.Tokens.{quoted}
use Rattle.text_pieces.specs.declared.values.Minus.{Minus}
use Rattle.text_pieces.specs.declared.values.Minus.TheVariants.{Close, Apart}

-- the old bytes still stand in front
abbrev pub KeepsFront : List ℕ → List ℕ → Type 0
KeepsFront old new = take (length old) new ≡ old

abbrev pub truth_text : Bool → List ℕ
truth_text true = codes "true"
truth_text false = codes "false"

-- what stands before the digits of a negative number
abbrev pub minus_text : Minus → List ℕ
minus_text Close = codes "-"
minus_text Apart = codes "- "

-- decimal digits, behind a minus where the number is negative
abbrev pub integer_text : Minus → ℤ → List ℕ
integer_text minus (pos n) = decimal n
integer_text minus (negsuc n) = minus_text minus ++ decimal (suc n)

abbrev pub value_text : Minus → Value → List ℕ
value_text minus value.Nil = codes "nil"
value_text minus (value.Bool b) = truth_text b
value_text minus (value.Int z) = integer_text minus z
value_text minus (value.Text bytes) = quoted bytes
