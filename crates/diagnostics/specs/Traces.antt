-- What it means that the choreography plays the trace section of a bundle.
use Rattle.std.specs.Prelude.{◌≡◌, ℕ, ◌-◌, ◌<◌, List, Bool, true, false, not, Option, Some, None, length, drop, if◌then◌else◌}
use Rattle.std.specs.Option.{option_map_or}
use Rattle.aioc_tokens.specs.declared.kinds.Token.{Token}
use Rattle.aioc_tokens.specs.Lexemes.{Lexeme, lexemes}
use Rattle.aioc_tokens.specs.Lexing.{Lexes, place_of}
use Rattle.dioc_terms.specs.declared.bundles.Last.{Last}
use Rattle.dioc_terms.specs.declared.bundles.Last.TheVariants as last
use Rattle.dioc_terms.specs.declared.entries.Entry.{Entry}
use Rattle.dioc_terms.specs.Messages.{visible}
use Rattle.dioc_terms.specs.Plain.{PlainBundle, Setting, setting}
use Rattle.bundle_text.specs.Grammar.{Spells}
use Rattle.global_steps.specs.Follow.{State, follow, play, stray}
use Rattle.global_steps.specs.Running.{ended}
use Rattle.rule_checks.specs.Refusals.{IsAccepted}
use Rattle.trace_syntax.specs.Grammar.{IsClosedTrace}
use Rattle.diagnostics.specs.declared.traces.Judgement.{Judgement}
use Rattle.diagnostics.specs.declared.traces.Judgement.TheVariants as judgement

-- whether a last line says that the run has ended, where it hasn't
abbrev pub is_cut_short : Option Last → Bool → Bool
is_cut_short (Some (last.Ended count)) over = not over
is_cut_short _ over = false

-- whether the choreography has ended when it has played the entries
abbrev pub is_over : PlainBundle → List Entry → Bool
is_over b entries = option_map_or (λ (state : State). ended state.running) (play b entries) false

-- no entry of the section is one that the choreography doesn't play, auxiliary ones aside, and
-- where the section says that the run has ended, the choreography has
pub record IsPlayed (b : PlainBundle) : Type 0 where
  pub none_strays : stray b b.trace.entries ≡ None
  pub whole : is_cut_short b.trace.last (is_over b (visible b.trace.entries)) ≡ false

-- the bytes spell a bundle, it is accepted, and the choreography plays its trace section
pub record IsReplayed (bytes : List ℕ) : Type 0 where
  pub bundle : PlainBundle
  pub spells : Spells bytes bundle
  pub accepted : IsAccepted bundle
  pub played : IsPlayed bundle

-- how the section is judged
abbrev pub IsJudged : PlainBundle → Judgement → Type 0
IsJudged b judgement.Played = IsPlayed b
IsJudged b (judgement.Stray number) = stray b b.trace.entries ≡ Some number
IsJudged b judgement.Short =
    (stray b b.trace.entries ≡ None)
    × (is_cut_short b.trace.last (is_over b (visible b.trace.entries)) ≡ true)

-- the choreography stands behind the entries that it has played, with fewer than 2^64 - 1 of them
pub record IsBehind (b : PlainBundle) (before : List Entry) (s : Setting) (state : State) :
    Type 0 where
  pub same : s ≡ setting b
  pub played : play b (visible before) ≡ Some state
  pub few : state.entries < 18446744073709551615

-- the choreography may play the entry behind those before it
pub record MayCome (b : PlainBundle) (before : List Entry) (entry : Entry) : Type 0 where
  pub state : State
  pub played : play b (visible before) ≡ Some state
  pub next : State
  pub follows : follow (setting b) state entry ≡ Some next

-- at the place begin the lines of as many entries as these, up to the `}` behind them
pub record IsLineAt (text : List Lexeme) (left place : ℕ) : Type 0 where
  pub entries : List Entry
  pub end : Option Last
  pub to : List Lexeme
  pub lines : IsClosedTrace (drop place text) entries end to
  pub count : length entries ≡ left

-- The byte at which a line is told: one at which the lines of as many entries begin as these, or
-- the first of the text where the place isn't known.
pub data IsShownAt (bytes : List ℕ) (left : ℕ) : ℕ → Type 0 where
  known : {tokens : List Token} {place start : ℕ}
      → Lexes 0 bytes tokens
      → IsLineAt (lexemes bytes tokens) left place
      → start ≡ place_of bytes tokens place
      → IsShownAt bytes left start
  unknown : IsShownAt bytes left 0

-- how many entries stand before the first that isn't played, or all of them
abbrev pub played_count : PlainBundle → ℕ
played_count b =
    option_map_or (λ number. number - 1) (stray b b.trace.entries) (length b.trace.entries)

-- the byte is told of the line of the first entry that isn't played, or of the one behind all
-- entries
abbrev pub IsToldAt : List ℕ → PlainBundle → ℕ → Type 0
IsToldAt bytes b start = IsShownAt bytes (length b.trace.entries - played_count b) start

-- so it is of each bundle that the bytes spell, where it is accepted
abbrev pub IsStrayAt : List ℕ → ℕ → Type 0
IsStrayAt bytes start =
    (b : PlainBundle) → Spells bytes b → IsAccepted b → IsToldAt bytes b start
