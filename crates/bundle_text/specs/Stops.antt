-- Where the reading of a text ends that spells no bundle.
use Rattle.std.specs.Prelude.{◌≡◌, ◌≢◌, ℕ, ◌+◌, ◌<◌, ◌≤◌, List, [], ◌∷◌, length, drop, codes, Option, Some, None}
use Rattle.limits.specs.Limits.{most_bytes}
use Rattle.dioc_terms.specs.Terms.{Term}
use Rattle.aioc_tokens.specs.declared.kinds.Token.{Token}
use Rattle.aioc_tokens.specs.declared.words.Word.TheVariants as word
use Rattle.aioc_tokens.specs.declared.words.Punctuator.TheVariants as punctuator
use Rattle.aioc_tokens.specs.declared.words.Sort.TheVariants as sorts
use Rattle.aioc_tokens.specs.Lexing.{Lexes, Breaks, place_of}
use Rattle.aioc_tokens.specs.Lexemes.{Lexeme, Reserved, Symbol, sort_of, lexemes}
use Rattle.aioc_tokens.specs.Fronts.{Longest, NoFront}
use Rattle.wanted_tokens.specs.declared.goals.Goal.{Goal}
use Rattle.wanted_tokens.specs.declared.goals.Goal.TheVariants as goal
use Rattle.wanted_tokens.specs.Wanted.{unwanted}
use Rattle.dioc_syntax.specs.Choreographies.{IsChoreography}
use Rattle.rule_syntax.specs.Grammar.{IsRule}
use Rattle.bundle_text.specs.declared.stops.Stop.{Stop}
use Rattle.bundle_text.specs.declared.stops.Stop.TheVariants as stop
use Rattle.bundle_text.specs.Many.{Many}
use Rattle.bundle_text.specs.Grammar.{inside_limit, opened_by, IsBound, IsInput, IsTimed, Section, IsSection, Joined, joined_sections}
use Rattle.bundle_text.specs.Readers.{NoTrace, FindsVersion}

-- the place among the tokens at which a reader stopped
abbrev pub place_in : Stop → ℕ
place_in (stop.At place) = place
place_in stop.Memory = 0

-- Items stand from one place of the text up to the other, and there neither an item stands nor a
-- `}`.
pub record EndsAmong {A : Type 0} (Reads : List Lexeme → A → List Lexeme → Type 0)
    (text : List Lexeme) (at place : ℕ) : Type 0 where
  pub items : List A
  pub stand : Many Reads (drop at text) items (drop place text)
  pub none : NoFront (Reads (drop place text))
  pub no_close : sort_of (drop place text) ≢ sorts.Symbol punctuator.RightBrace

-- The reading of a choreography from one place of the text up to a `}` ends at the other: no
-- choreography stands there, or no `}` behind the longest one.
pub data EndsInChoreography (version : ℕ) (text : List Lexeme) (at place : ℕ) : Type 0 where
  missing : place ≡ at
      → NoFront (IsChoreography version inside_limit (drop at text))
      → EndsInChoreography version text at place
  unclosed : {whole : Term}
      → Longest (IsChoreography version inside_limit (drop at text)) whole (drop place text)
      → sort_of (drop place text) ≢ sorts.Symbol punctuator.RightBrace
      → EndsInChoreography version text at place

-- `aioc {` and what follows
abbrev pub aioc_before : List Lexeme → List Lexeme
aioc_before others = Reserved word.Aioc ∷ Symbol punctuator.LeftBrace ∷ others

-- a section's word and its `{`
pub data BeginsSection (from : List Lexeme) : Type 0 where
  begins_aioc : {inside : List Lexeme} → from ≡ aioc_before inside → BeginsSection from
  begins_rules : {inside : List Lexeme}
      → from ≡ opened_by (codes "rules") inside
      → BeginsSection from
  begins_environment : {inside : List Lexeme}
      → from ≡ opened_by (codes "env") inside
      → BeginsSection from
  begins_inputs : {inside : List Lexeme}
      → from ≡ opened_by (codes "inputs") inside
      → BeginsSection from
  begins_script : {inside : List Lexeme}
      → from ≡ opened_by (codes "script") inside
      → BeginsSection from
  begins_trace : {inside : List Lexeme}
      → from ≡ opened_by (codes "trace") inside
      → BeginsSection from

-- The reading of a section from one place of the text ends at the other, where the sections before
-- it have this.
pub data EndsInSection (version : ℕ) (text : List Lexeme) (at : ℕ) (found : Joined) (place : ℕ) :
    Type 0 where
  -- no section begins there
  no_word : place ≡ at
      → (BeginsSection (drop at text) → ⊥)
      → EndsInSection version text at found place
  -- a second choreography, or none, or one that no `}` follows
  second_choreography : place ≡ at
      → drop at text ≡ aioc_before (drop (at + 2) text)
      → 0 < length found.choreos
      → EndsInSection version text at found place
  in_choreography : drop at text ≡ aioc_before (drop (at + 2) text)
      → found.choreos ≡ []
      → EndsInChoreography version text (at + 2) place
      → EndsInSection version text at found place
  -- an item is none
  in_rules : drop at text ≡ opened_by (codes "rules") (drop (at + 2) text)
      → EndsAmong (IsRule version inside_limit) text (at + 2) place
      → EndsInSection version text at found place
  in_environment : drop at text ≡ opened_by (codes "env") (drop (at + 2) text)
      → EndsAmong IsBound text (at + 2) place
      → EndsInSection version text at found place
  in_inputs : drop at text ≡ opened_by (codes "inputs") (drop (at + 2) text)
      → EndsAmong IsInput text (at + 2) place
      → EndsInSection version text at found place
  in_script : drop at text ≡ opened_by (codes "script") (drop (at + 2) text)
      → EndsAmong (IsTimed version) text (at + 2) place
      → EndsInSection version text at found place
  -- a second trace, or lines that are none: then it is the place of the first of them
  second_trace : place ≡ at
      → drop at text ≡ opened_by (codes "trace") (drop (at + 2) text)
      → 0 < length found.traces
      → EndsInSection version text at found place
  in_trace : place ≡ at + 2
      → drop at text ≡ opened_by (codes "trace") (drop (at + 2) text)
      → found.traces ≡ []
      → NoTrace (drop (at + 2) text)
      → EndsInSection version text at found place

-- Sections stand from one place of the text up to a next one, and there the reading ends in a
-- section.
pub record EndsAmongSections (version : ℕ) (text : List Lexeme) (at place : ℕ) : Type 0 where
  pub sections : List Section
  pub next : ℕ
  pub stand : Many (IsSection version) (drop at text) sections (drop next text)
  pub inside : next < length text
  pub ends : EndsInSection version text next (joined_sections sections) place

-- The reading of a text of this version from one place on ends at the other: in a section, or at
-- the end of the text, where no section has a choreography.
pub data EndsBehind (version : ℕ) (text : List Lexeme) (at place : ℕ) : Type 0 where
  in_section : EndsAmongSections version text at place → EndsBehind version text at place
  over : {sections : List Section}
      → place ≡ length text
      → Many (IsSection version) (drop at text) sections []
      → (joined_sections sections).choreos ≡ []
      → EndsBehind version text at place

-- the reading of a list of lexemes ends at this place
pub record EndsAt (text : List Lexeme) (place : ℕ) : Type 0 where
  pub version : ℕ
  pub at : ℕ
  pub begins : FindsVersion text version at
  pub ends : EndsBehind version text at place

-- the place that was found, or else this one
abbrev pub found_or : Option ℕ → ℕ → ℕ
found_or (Some first) place = first
found_or None place = place

-- The token of a text that a fault names: the first one that may not stand there, or the end where
-- more is wanted. Where each token may stand, brackets or depths pass a limit, or there are too
-- many sessions; then it is the place at which the reading ended.
abbrev pub named_place : Goal → List Lexeme → ℕ → ℕ
named_place whole text place = found_or (unwanted whole text) place

-- A fault names this byte of a text that spells no bundle: that of the limit of a text which is too
-- long, the first that is in no token, or the first of a token, or the end of the text.
pub data EndsAtByte (bytes : List ℕ) (byte : ℕ) : Type 0 where
  too_long : most_bytes < length bytes → byte ≡ most_bytes → EndsAtByte bytes byte
  bad_byte : length bytes ≤ most_bytes → Breaks 0 bytes byte → EndsAtByte bytes byte
  at_token : {tokens : List Token} {place : ℕ}
      → length bytes ≤ most_bytes
      → Lexes 0 bytes tokens
      → EndsAt (lexemes bytes tokens) place
      → byte ≡ place_of bytes tokens (named_place goal.Bundle (lexemes bytes tokens) place)
      → EndsAtByte bytes byte
