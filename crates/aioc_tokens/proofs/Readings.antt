-- What the lexemes of a text are like.
use Rattle.std.proofs.Common.{◌≡◌, ◌≢◌, ◌↔◌, ℕ, ◌≤◌, List, [], ◌∷◌, length, get_or, Some, None, ap, sym, ◌∙◌, arith, All}
use Rattle.std.proofs.lemmas.List.Elements.{All-map, All-same}
use Rattle.aioc_tokens.specs.declared.kinds.Token.{Token}
use Rattle.limits.specs.Limits.{most_name_bytes}
use Rattle.aioc_tokens.specs.declared.words.Word.{Word}
use Rattle.aioc_tokens.specs.declared.words.Punctuator.{Punctuator}
use Rattle.aioc_tokens.specs.Words.{word_spelling, word_of, punctuator_spelling, punctuator_of}
use Rattle.aioc_tokens.specs.Tokens.{IsNameSpelling}
use Rattle.aioc_tokens.specs.Lexing.{bytes_of}
use Rattle.aioc_tokens.specs.Lexemes.{Lexeme, Name, Long, lexeme, lexemes, HasLexemes, HasSpelling}
use Rattle.aioc_tokens.proofs.Unique.{one_lexing}
use Rattle.aioc_tokens.proofs.Looks.{token_at, lexeme_formed}
use Rattle.aioc_tokens.proofs.Spellings.{word_found, word_of_spelled, punctuator_found, punctuator_of_spelled}
use Rattle.aioc_tokens.proofs.Written.{spelled_lexemes}

pub one_reading : (text : List ℕ) (found others : List Lexeme) → HasLexemes text found → HasLexemes text others → found ≡ others
one_reading text found others one two = sym one.lexemes_are ∙ ap (lexemes text) (one_lexing 0 text one.tokens two.tokens one.lexes two.lexes) ∙ two.lexemes_are

pub read_spelling : (text : List ℕ) (found : List Lexeme) → HasLexemes text found → All (λ first. first ≢ Long → HasSpelling first) found
read_spelling text found has =
    let shown = λ (token : Token). lexeme token.kind (bytes_of text token) in
    All-same (λ first. first ≢ Long → HasSpelling first) found (lexemes text has.tokens) (sym has.lexemes_are)
    (All-map (λ first. first ≢ Long → HasSpelling first) shown has.tokens
    (λ at other inside. let token = get_or has.tokens at other in lexeme_formed token.kind (bytes_of text token) (token_at text has.tokens has.lexes at other inside).spells))

pub word_spelled : (bytes : List ℕ) (word : Word) → (word_of bytes ≡ Some word) ↔ (bytes ≡ word_spelling word)
word_spelled bytes word = (word_of_spelled bytes word, λ same. ap word_of same ∙ word_found word)

pub punctuator_spelled : (bytes : List ℕ) (punctuator : Punctuator) → (punctuator_of bytes ≡ Some punctuator) ↔ (bytes ≡ punctuator_spelling punctuator)
punctuator_spelled bytes punctuator = (punctuator_of_spelled bytes punctuator, λ same. ap punctuator_of same ∙ punctuator_found punctuator)

-- the text of a name that isn't reserved is read as the name
pub name_lexemes : (bytes : List ℕ) → IsNameSpelling bytes → length bytes ≤ most_name_bytes → word_of bytes ≡ None → HasLexemes bytes (Name bytes ∷ [])
name_lexemes bytes spells short free = spelled_lexemes (Name bytes ∷ []) ((spells, short, free), tt)

pub name_read_exactly : (bytes : List ℕ) → IsNameSpelling bytes → length bytes ≤ most_name_bytes → HasLexemes bytes (Name bytes ∷ []) ↔ (word_of bytes ≡ None)
name_read_exactly bytes spells short = (
  λ has. (read_spelling bytes (Name bytes ∷ []) has 0 Long (omega arith) (λ long. cc)).2,
  name_lexemes bytes spells short,
)
