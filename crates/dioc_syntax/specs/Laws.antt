-- What holds of every text of a choreography.
use Rattle.std.specs.Prelude.{◌≡◌, ℕ, ◌≤◌, ◌⊎◌, Bool, true, false, List, [], drop}
use Rattle.limits.specs.Limits.{most_brackets}
use Rattle.dioc_terms.specs.Terms.{Term, indexed}
use Rattle.dioc_terms.specs.Bundles.{has_formed_parts, names_no_roles, IsFormedTerm}
use Rattle.aioc_tokens.specs.declared.words.Punctuator.TheVariants as punctuator
use Rattle.aioc_tokens.specs.declared.words.Sort.{Sort}
use Rattle.aioc_tokens.specs.declared.words.Sort.TheVariants as sorts
use Rattle.aioc_tokens.specs.Lexemes.{Lexeme, sort_of, HasLexemes}
use Rattle.aioc_tokens.specs.Spelling.{spelled}
use Rattle.aioc_tokens.specs.Fronts.{Longest}
use Rattle.dioc_syntax.specs.Choreographies.{IsChoreography}
use Rattle.dioc_syntax.specs.Writing.{written}

-- a place has one longest choreography
abbrev pub OneChoreography : Type 0
OneChoreography = (version room : ℕ) (from to end : List Lexeme) (whole other : Term)
    → Longest (IsChoreography version room from) whole to
    → Longest (IsChoreography version room from) other end → (whole ≡ other) × (to ≡ end)

-- a choreography has the indices that its text gives it
abbrev pub ReadIsIndexed : Type 0
ReadIsIndexed = (version room : ℕ) (from to : List Lexeme) (whole : Term)
    → IsChoreography version room from whole to → whole ≡ indexed whole

-- version 2 alone names further roles of a scope
abbrev pub FitsVersion : ℕ → Term → Type 0
FitsVersion version whole = (version ≡ 2) ⊎ (names_no_roles whole ≡ true)

-- a choreography that is read of a text is formed and fits the version
abbrev pub ReadIsFormed : Type 0
ReadIsFormed = (bytes : List ℕ) (found : List Lexeme) (at version room : ℕ) (whole : Term)
    (to : List Lexeme) → HasLexemes bytes found
    → IsChoreography version room (drop at found) whole to
    → IsFormedTerm whole × FitsVersion version whole

-- what closes a choreography: the end, or a bracket
abbrev pub closes : Sort → Bool
closes sorts.End = true
closes (sorts.Symbol punctuator.RightBrace) = true
closes (sorts.Symbol punctuator.RightParen) = true
closes _ = false

-- the text that is written of a choreography has the lexemes that were written
abbrev pub WrittenIsSpelled : Type 0
WrittenIsSpelled = (whole : Term) → has_formed_parts whole ≡ true
    → HasLexemes (spelled (written whole [])) (written whole [])

-- they read as that choreography, whatever follows that closes it; 319 open brackets suffice
abbrev pub WrittenIsRead : Type 0
WrittenIsRead = (version : ℕ) (whole : Term) (room : ℕ) (others : List Lexeme)
    → IsFormedTerm whole → FitsVersion version whole → 319 ≤ room → closes (sort_of others) ≡ true
    → Longest (IsChoreography version room (written whole others)) whole others

-- so the text of a choreography that is written is read whole, as that choreography and as no other
abbrev pub WrittenTextIsRead : Type 0
WrittenTextIsRead = (version : ℕ) (whole : Term) (found : List Lexeme)
    → IsFormedTerm whole → FitsVersion version whole
    → HasLexemes (spelled (written whole [])) found
    → Longest (IsChoreography version most_brackets found) whole []
    × ((other : Term) (to : List Lexeme)
    → Longest (IsChoreography version most_brackets found) other to → other ≡ whole)
