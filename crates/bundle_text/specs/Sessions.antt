-- Sessions, each a bundle in brackets: which of them a text spells, and where the reading of one
-- ends that spells none.
use Rattle.std.specs.Prelude.{◌≡◌, ◌≢◌, ℕ, ◌+◌, ◌<◌, ◌≤◌, ◌⊎◌, List, [], length, drop, codes}
use Rattle.limits.specs.Limits.{most_bytes, most_sessions}
use Rattle.dioc_terms.specs.Plain.{PlainBundle}
use Rattle.aioc_tokens.specs.declared.kinds.Token.{Token}
use Rattle.aioc_tokens.specs.declared.words.Punctuator.TheVariants as punctuator
use Rattle.aioc_tokens.specs.declared.words.Sort.TheVariants as sorts
use Rattle.aioc_tokens.specs.Lexing.{Lexes, Breaks, place_of}
use Rattle.aioc_tokens.specs.Lexemes.{Lexeme, sort_of, lexemes, HasLexemes}
use Rattle.wanted_tokens.specs.declared.goals.Goal.TheVariants as goal
use Rattle.bundle_text.specs.Many.{Many}
use Rattle.bundle_text.specs.Grammar.{opened_by, closed_before, Section, IsSection, joined_sections, IsBundle}
use Rattle.bundle_text.specs.Readers.{FindsVersion}
use Rattle.bundle_text.specs.Stops.{EndsInSection, named_place}

-- `session {` and what follows
abbrev pub session_before : List Lexeme → List Lexeme
session_before others = opened_by (codes "session") others

-- From one list up to a rest of it stands this session; `session` is no reserved word. Its bundle
-- has a version of its own, and its bracket doesn't count among those that are open in it:
--   session = "session" "{" bundle "}"
pub record IsSession (from : List Lexeme) (b : PlainBundle) (to : List Lexeme) : Type 0 where
  pub inside : List Lexeme
  pub begins : from ≡ session_before inside
  pub bundle : IsBundle inside b (closed_before to)

-- the bytes spell the sessions, of which there is at least one:
--   sessions = session { session }
pub record SpellsSessions (bytes : List ℕ) (sessions : List PlainBundle) : Type 0 where
  pub small : length bytes ≤ most_bytes
  pub found : List Lexeme
  pub lexemes : HasLexemes bytes found
  pub stand : Many IsSession found sessions []
  pub some : 0 < length sessions
  pub few : length sessions ≤ most_sessions

abbrev pub SpellsNoSessions : List ℕ → Type 0
SpellsNoSessions bytes = (sessions : List PlainBundle) → SpellsSessions bytes sessions → ⊥

-- Sections stand from one place of the text up to a next one, at which no `}` stands, and there the
-- reading ends in a section.
pub record EndsBeforeClose (version : ℕ) (text : List Lexeme) (at place : ℕ) : Type 0 where
  pub sections : List Section
  pub next : ℕ
  pub stand : Many (IsSection version) (drop at text) sections (drop next text)
  pub no_close : sort_of (drop next text) ≢ sorts.Symbol punctuator.RightBrace
  pub ends : EndsInSection version text next (joined_sections sections) place

-- The reading of a bundle of this version from one place on up to a `}` ends at the other: in a
-- section, or at the `}`, where no section has a choreography.
pub data EndsInBrackets (version : ℕ) (text : List Lexeme) (at place : ℕ) : Type 0 where
  before_close : EndsBeforeClose version text at place → EndsInBrackets version text at place
  at_close : {sections : List Section}
      → Many (IsSection version) (drop at text) sections (drop place text)
      → sort_of (drop place text) ≡ sorts.Symbol punctuator.RightBrace
      → (joined_sections sections).choreos ≡ []
      → EndsInBrackets version text at place

-- the reading of a session from one place of the text on ends at the other: no session begins
-- there, or its bundle is none
pub data EndsInSession (text : List Lexeme) (at place : ℕ) : Type 0 where
  no_session : place ≡ at
      → ((inside : List Lexeme) → drop at text ≡ session_before inside → ⊥)
      → EndsInSession text at place
  in_bundle : {version skipped : ℕ}
      → drop at text ≡ session_before (drop (at + 2) text)
      → FindsVersion (drop (at + 2) text) version skipped
      → EndsInBrackets version text (at + 2 + skipped) place
      → EndsInSession text at place

-- Sessions stand from the front of the text up to a next place. There the text isn't over, or there
-- are none, and the reading ends in a session; or there are as many as may be.
pub record EndsAmongSessions (text : List Lexeme) (place : ℕ) : Type 0 where
  pub sessions : List PlainBundle
  pub next : ℕ
  pub stand : Many IsSession text sessions (drop next text)
  pub more : (next < length text) ⊎ (sessions ≡ [])
  pub ends : EndsInSession text next place ⊎ ((place ≡ next) × (most_sessions ≤ length sessions))

-- A fault names this byte of a text that spells no sessions: that of the limit of a text which is
-- too long, the first that is in no token, or the first of a token, or the end of the text.
pub data SessionsEndAtByte (bytes : List ℕ) (byte : ℕ) : Type 0 where
  too_long : most_bytes < length bytes → byte ≡ most_bytes → SessionsEndAtByte bytes byte
  bad_byte : length bytes ≤ most_bytes → Breaks 0 bytes byte → SessionsEndAtByte bytes byte
  at_token : {tokens : List Token} {place : ℕ}
      → length bytes ≤ most_bytes
      → Lexes 0 bytes tokens
      → EndsAmongSessions (lexemes bytes tokens) place
      → byte ≡ place_of bytes tokens (named_place goal.Sessions (lexemes bytes tokens) place)
      → SessionsEndAtByte bytes byte
