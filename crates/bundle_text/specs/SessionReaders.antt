-- What the readers of sessions answer.
use Rattle.std.specs.Prelude.{◌≡◌, ℕ, ◌<◌, ◌≤◌, List, length, map, drop}
use Rattle.dioc_terms.specs.Plain.{PlainBundle, plain}
use Rattle.aioc_tokens.specs.declared.words.Punctuator.TheVariants as punctuator
use Rattle.aioc_tokens.specs.declared.words.Sort.TheVariants as sorts
use Rattle.aioc_tokens.specs.Lexemes.{Lexeme, sort_of}
use Rattle.bundle_text.specs.declared.chunks.Chunk.{Chunk}
use Rattle.bundle_text.specs.Many.{Many}
use Rattle.bundle_text.specs.Grammar.{closed_before, Section, IsSection, Joined, joined_sections, IsMadeOf}
use Rattle.bundle_text.specs.Sessions.{IsSession}

-- sections stand from one place of the text up to the other, at which a `}` stands, and this is
-- what they have
pub record TakesClosed (version : ℕ) (text : List Lexeme) (at : ℕ) (found : Joined) (closes : ℕ) :
    Type 0 where
  pub sections : List Section
  pub stand : Many (IsSection version) (drop at text) sections (drop closes text)
  pub joins : found ≡ joined_sections sections
  pub closed : sort_of (drop closes text) ≡ sorts.Symbol punctuator.RightBrace
  pub after : at ≤ closes

-- the bundle is made of the sections from one place of the text up to a `}`, and the other is the
-- place behind that
pub record TakesBundle (version : ℕ) (text : List Lexeme) (at : ℕ) (b : PlainBundle) (next : ℕ) :
    Type 0 where
  pub sections : List Section
  pub stand : Many (IsSection version) (drop at text) sections (closed_before (drop next text))
  pub made : IsMadeOf (joined_sections sections) b
  pub same_version : b.version ≡ version
  pub after : at < next
  pub within : next ≤ length text

-- the bundle is that of the session at a place of the text, and the other is the place behind it
pub record TakesSession (text : List Lexeme) (at : ℕ) (b : PlainBundle) (next : ℕ) : Type 0 where
  pub stands : IsSession (drop at text) b (drop next text)
  pub after : at < next
  pub within : next ≤ length text

-- the sessions of a chunk stand between its places of the text
abbrev pub IsChunkIn : List Lexeme → Chunk → Type 0
IsChunkIn text chunk =
    Many IsSession (drop chunk.from text) (map plain chunk.sessions.items) (drop chunk.to text)
