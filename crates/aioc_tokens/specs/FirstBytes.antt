-- What a byte says of the token, space or comment that begins with it.
use Rattle.std.specs.Prelude.{◌≡◌, ℕ, true, false, [], ◌∷◌, Some, None}
use Rattle.std.specs.Char.{is_ascii_alphabetic, is_ascii_digit}
use Rattle.aioc_tokens.specs.declared.first_bytes.First.{First}
use Rattle.aioc_tokens.specs.declared.first_bytes.First.TheVariants as firsts
use Rattle.aioc_tokens.specs.declared.words.Punctuator.{Punctuator}
use Rattle.aioc_tokens.specs.declared.words.Sort.{Sort}
use Rattle.aioc_tokens.specs.declared.words.Sort.TheVariants as sorts
use Rattle.aioc_tokens.specs.Words.{punctuator_of}
use Rattle.aioc_tokens.specs.Tokens.{is_space}

-- a byte is a symbol of this sort, and neither a comment nor a symbol of two bytes begins with it
pub record IsLone (byte : ℕ) (sort : Sort) : Type 0 where
  pub punctuator : Punctuator
  pub sort_is : sort ≡ sorts.Symbol punctuator
  pub known : punctuator_of (byte ∷ []) ≡ Some punctuator
  pub no_slash : byte ≡ 47 → ⊥
  pub no_pair : (second : ℕ) → punctuator_of (byte ∷ second ∷ []) ≡ None

-- neither a name nor a number, a text or a space begins with this byte
pub record IsOther (byte : ℕ) : Type 0 where
  pub no_letter : is_ascii_alphabetic byte ≡ false
  pub no_digit : is_ascii_digit byte ≡ false
  pub no_quote : byte ≡ 34 → ⊥
  pub no_space : is_space byte ≡ false

-- this begins with the byte
abbrev pub BeginsWith : ℕ → First → Type 0
BeginsWith byte firsts.Name = is_ascii_alphabetic byte ≡ true
BeginsWith byte firsts.Space = is_space byte ≡ true
BeginsWith byte firsts.Number = is_ascii_digit byte ≡ true
BeginsWith byte firsts.Text = byte ≡ 34
BeginsWith byte (firsts.Lone sort) = IsLone byte sort
BeginsWith byte firsts.Rest = IsOther byte
