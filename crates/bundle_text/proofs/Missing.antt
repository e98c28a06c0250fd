-- What is said of a place where none of some kind stands.
use Rattle.std.proofs.Common.{◌≡◌, ℕ, ◌<◌, List, [], ◌∷◌, length}
use Rattle.dioc_terms.specs.declared.bundles.Trace.{Trace}
use Rattle.dioc_terms.specs.Terms.{Term}
use Rattle.aioc_tokens.specs.Lexemes.{Lexeme}
use Rattle.dioc_syntax.specs.Choreographies.{IsChoreography}
use Rattle.bundle_text.specs.Many.{Many}
use Rattle.bundle_text.specs.Grammar.{Section, Aioc, Traced, inside_limit, closed_before, IsSection, Joined, joined_sections, IsOnly}

-- no items stand up to a `}`
abbrev pub NoItems : {A : Type 0} → (List Lexeme → A → List Lexeme → Type 0) → List Lexeme → Type 0
NoItems {A} Reads from =
    (items : List A) (to : List Lexeme) → Many Reads from items (closed_before to) → ⊥

-- such a section has stood before, and a bundle has one alone
abbrev pub IsSecond : Joined → Section → Type 0
IsSecond found (Aioc whole) = 0 < length found.choreos
IsSecond found (Traced other) = 0 < length found.traces
IsSecond found _ = ⊥

-- no section stands here that may stand behind the others
abbrev pub NoSection : ℕ → List Lexeme → Joined → Type 0
NoSection version from found =
    (section : Section) (to : List Lexeme) → IsSection version from section to →
    IsSecond found section

-- no choreography stands up to a `}`
abbrev pub NoChoreography : ℕ → List Lexeme → Type 0
NoChoreography version from = (whole : Term) (to : List Lexeme)
    → IsChoreography version inside_limit from whole (closed_before to) → ⊥

-- it isn't that of sections with one choreography and at most one trace
abbrev pub NoSections : ℕ → List Lexeme → Type 0
NoSections version from = (sections : List Section) (choreo : Term) (found : Trace)
    → Many (IsSection version) from sections [] → (joined_sections sections).choreos ≡ choreo ∷ []
    → IsOnly (joined_sections sections).traces found → ⊥
