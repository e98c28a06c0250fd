-- The lexemes of a text of which only the places and the sorts of the tokens are kept.
use Rattle.std.specs.Prelude.{◌≡◌, ℕ, suc, Bool, true, false, List, [], ◌∷◌, drop, take, map, Option, Some, None, if◌then◌else◌, ◌==◌}
use Rattle.std.specs.Char.{is_ascii_digit}
use Rattle.std.specs.List.{prefix_len}
use Rattle.std.specs.Option.{option_map_or}
use Rattle.aioc_tokens.specs.declared.kinds.Kind.{Kind}
use Rattle.aioc_tokens.specs.declared.kinds.Token.{Token}
use Rattle.aioc_tokens.specs.declared.packed.Front.{Front}
use Rattle.aioc_tokens.specs.declared.packed.Front.TheVariants as fronts
use Rattle.aioc_tokens.specs.declared.words.Punctuator.{Punctuator}
use Rattle.aioc_tokens.specs.declared.words.Sort.{Sort}
use Rattle.aioc_tokens.specs.declared.words.Sort.TheVariants as sorts
use Rattle.aioc_tokens.specs.declared.kinds.Kind.TheVariants as kinds
use Rattle.aioc_tokens.specs.Words.{punctuator_of}
use Rattle.aioc_tokens.specs.Tokens.{is_name_byte, is_printable, needs_pair, IsFront, IsBlank, IsLongestToken}
use Rattle.aioc_tokens.specs.Lexing.{Lexes}
use Rattle.aioc_tokens.specs.Lexemes.{Lexeme, Name, Long, Number, Text, Reserved, Symbol, lexeme, lexemes, sort_of, all_sorts, value_of, AreKnown}

-- one byte more
abbrev pub bump : Option ℕ → Option ℕ
bump None = None
bump (Some count) = Some (suc count)

-- How many bytes there are up to the quote that ends the text and with it; paired: directly behind
-- a `\`.
abbrev pub text_end : Bool → List ℕ → Option ℕ
text_end paired [] = None
text_end true (byte ∷ others) = if needs_pair byte then bump (text_end false others) else None
text_end false (byte ∷ others) =
    if byte == 34 then Some 1 else (if byte == 92 then bump (text_end true others)
    else (if is_printable byte then bump (text_end false others) else None))

-- the name, the number and the text in quotes at the front of these bytes
abbrev pub front_name : List ℕ → List ℕ
front_name from = take (prefix_len is_name_byte from) from

abbrev pub front_number : List ℕ → List ℕ
front_number from = take (prefix_len is_ascii_digit from) from

abbrev pub front_text : List ℕ → List ℕ
front_text from = option_map_or (λ count. take (suc count) from) (text_end false (drop 1 from)) []

-- the lexeme of this sort at the front of these bytes
abbrev pub shown : Sort → List ℕ → Lexeme
shown sorts.Name from = Name (front_name from)
shown sorts.Number from = Number (front_number from)
shown sorts.Text from = Text (value_of (front_text from))
shown (sorts.Reserved word) from = Reserved word
shown (sorts.Symbol punctuator) from = Symbol punctuator
shown _ from = Long

-- the lexemes of these sorts that begin at these places of a text
abbrev pub all_shown : List ℕ → List ℕ → List Sort → List Lexeme
all_shown text (start ∷ starts) (sort ∷ marks) =
    shown sort (drop start text) ∷ all_shown text starts marks
all_shown text _ _ = []

-- where the tokens begin
abbrev pub starts_of : List Token → List ℕ
starts_of tokens = map (λ token. token.start) tokens

-- a text has tokens, which begin at these places and have these sorts
pub record ArePacked (text starts : List ℕ) (marks : List Sort) : Type 0 where
  pub tokens : List Token
  pub lexes : Lexes 0 text tokens
  pub starts_are : starts ≡ starts_of tokens
  pub sorts_are : marks ≡ all_sorts (lexemes text tokens)

-- the longest token at the front of a text, with its sort
pub record IsSortedToken (text : List ℕ) (sort : Sort) (count : ℕ) : Type 0 where
  pub kind : Kind
  pub token : IsLongestToken text kind count
  pub sort_is : sort ≡ sort_of (lexeme kind (take count text) ∷ [])

-- the longest symbol at the front of a text
pub record IsSymbolAt (text : List ℕ) (punctuator : Punctuator) (count : ℕ) : Type 0 where
  pub token : IsLongestToken text kinds.Symbol count
  pub known : punctuator_of (take count text) ≡ Some punctuator

-- no token begins at the front of a text
abbrev pub HasNoToken : List ℕ → Type 0
HasNoToken text = (kind : Kind) (count : ℕ) → ¬ IsFront text kind count

-- this stands at the front of a text
abbrev pub StandsInFront : List ℕ → Front → Type 0
StandsInFront text (fronts.Blank count) = IsBlank text count
StandsInFront text (fronts.Token sort count) = IsSortedToken text sort count
StandsInFront text fronts.Other = ((count : ℕ) → ¬ IsBlank text count) × HasNoToken text

-- The lexemes of a text by what is kept of its tokens: places and sorts of them all, or the tokens
-- and the sorts of the first of them.
abbrev pub shown_by : List ℕ → List ℕ → List Sort → List Token → List Lexeme
shown_by text [] marks tokens = lexemes text tokens
shown_by text (start ∷ starts) marks tokens = all_shown text (start ∷ starts) marks

-- what is kept is that of the tokens of the text
abbrev pub IsSourceOf : List ℕ → List ℕ → List Sort → List Token → Type 0
IsSourceOf text [] marks tokens = Lexes 0 text tokens × AreKnown marks (lexemes text tokens)
IsSourceOf text (start ∷ starts) marks tokens =
    ArePacked text (start ∷ starts) marks × (tokens ≡ [])
