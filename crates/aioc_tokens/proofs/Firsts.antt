-- The first byte of a token tells its kind, and is no space.
use Rattle.std.proofs.Common.{◌≡◌, ℕ, zero, suc, ◌<◌, Bool, true, false, ◌&&◌, List, [], ◌∷◌, length, get_or, take, if◌then◌else◌, ◌==◌, refl, sym, ◌∙◌, subst, arith, get_or-take}
use Rattle.std.specs.Char.{is_ascii_alphabetic, is_ascii_digit}
use Rattle.std.proofs.lemmas.Bool.{both_ways}
use Rattle.std.proofs.lemmas.Bool.Decides.{nat_tests}
use Rattle.aioc_tokens.specs.declared.kinds.Kind.{Kind}
use Rattle.aioc_tokens.specs.declared.kinds.Kind.TheVariants.{Name, Number, Text, Symbol}
use Rattle.aioc_tokens.specs.declared.words.Punctuator.{Punctuator}
use Rattle.aioc_tokens.specs.declared.words.Punctuator.TheVariants.{LeftBrace, RightBrace}
use Rattle.aioc_tokens.specs.Words.{punctuator_spelling}
use Rattle.aioc_tokens.specs.Tokens.{is_space, Spells, IsFront, IsBlank, space, comment, IsLongestToken}

-- the kind of a token that begins with this byte
abbrev pub kind_by : ℕ → Kind
kind_by byte = if is_ascii_alphabetic byte then Name else (if is_ascii_digit byte then Number else (if byte == 34 then Text else Symbol))

-- what the first byte of a token says
pub record IsFirstOf (kind : Kind) (byte : ℕ) : Type 0 where
  pub kind_is : kind_by byte ≡ kind
  pub no_space : is_space byte ≡ false

pub letter_first : (byte : ℕ) → is_ascii_alphabetic byte ≡ true → IsFirstOf Name byte
letter_first byte letter = record { kind_is = rw letter refl; no_space = grind (arith, nat_tests) }

pub digit_first : (byte : ℕ) → is_ascii_digit byte ≡ true → IsFirstOf Number byte
digit_first byte digit = record { kind_is = grind (arith, nat_tests); no_space = grind (arith, nat_tests) }

pub symbol_by : (byte : ℕ) → is_ascii_alphabetic byte ≡ false → is_ascii_digit byte ≡ false → (byte ≡ 34 → ⊥) → kind_by byte ≡ Symbol
symbol_by byte letter digit no_quote = let quote : (byte == 34) ≡ false = grind (arith, nat_tests) in rw (letter, digit, quote) refl

pub punctuator_first : (punctuator : Punctuator) → IsFirstOf Symbol (get_or (punctuator_spelling punctuator) 0 0) × (0 < length (punctuator_spelling punctuator))
punctuator_first LeftBrace = (record { kind_is = refl; no_space = refl }, omega arith)
punctuator_first RightBrace = (record { kind_is = refl; no_space = refl }, omega arith)
punctuator_first _ = (record { kind_is = refl; no_space = refl }, omega arith)

-- a token has a byte, and the first one says so
pub spelling_first : (kind : Kind) (bytes : List ℕ) → Spells kind bytes → IsFirstOf kind (get_or bytes 0 0) × (0 < length bytes)
spelling_first Name [] spells = absurd spells
spelling_first Name (first ∷ others) spells = (letter_first first spells.0, omega arith)
spelling_first Number [] spells = absurd (omega (arith, spells.0))
spelling_first Number (first ∷ others) spells = (digit_first first (first_passes _ _ spells.1), omega arith)
  where
    first_passes : (a b : Bool) → (a && b) ≡ true → a ≡ true
    first_passes true b both = refl
    first_passes false b both = both
spelling_first Text bytes spells = subst (λ word. IsFirstOf Text (get_or word 0 0) × (0 < length word)) (sym spells.2) (record { kind_is = refl; no_space = refl }, omega arith)
spelling_first Symbol bytes spells = subst (λ word. IsFirstOf Symbol (get_or word 0 0) × (0 < length word)) (sym spells.1) (punctuator_first spells.0)

-- the same of a front
pub front_first : (text : List ℕ) (kind : Kind) (count : ℕ) → IsFront text kind count → IsFirstOf kind (get_or text 0 0) × (0 < count)
front_first text kind zero front = absurd (omega (arith, (spelling_first kind [] front.spells).1))
front_first text kind (suc count) front =
    let first = spelling_first kind (take (suc count) text) front.spells in
    (subst (IsFirstOf kind) (get_or-take (suc count) text 0 0 (omega arith)) first.0, omega arith)

-- two tokens at one place are of one kind
pub same_kind : (text : List ℕ) (kind other : Kind) (count more : ℕ) → IsFront text kind count → IsFront text other more → kind ≡ other
same_kind text kind other count more one two =
    let a = (front_first text kind count one).0 in
    let b = (front_first text other more two).0 in
    sym a.kind_is ∙ b.kind_is

-- where a space or a comment stands no token begins
pub blank_or_token : (text : List ℕ) (kind : Kind) (count more : ℕ) → IsBlank text more → IsLongestToken text kind count → ⊥
blank_or_token text kind count more (space {byte = byte} is) token = both_ways _ (front_first _ kind count token.front).0.no_space is
blank_or_token text kind count more (comment begins _) token = token.no_comment begins

-- where no token of the kind that the first byte tells begins, none does
pub no_other : (text : List ℕ) (kind : Kind) → kind_by (get_or text 0 0) ≡ kind → ((count : ℕ) → IsFront text kind count → ⊥) → (other : Kind) (count : ℕ) → IsFront text other count → ⊥
no_other text kind is none other count front =
    let that : kind ≡ other = sym is ∙ (front_first text other count front).0.kind_is in
    none count (subst (λ kind. IsFront text kind count) (sym that) front)
