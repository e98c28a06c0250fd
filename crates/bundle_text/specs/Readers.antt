-- What the readers of a bundle's parts answer.
use Rattle.std.specs.Prelude.{◌≡◌, ℕ, ◌<◌, ◌≤◌, List, [], ◌∷◌, ◌++◌, length, map, drop, Option, Some, None}
use Rattle.dioc_terms.specs.declared.values.Value.{Value}
use Rattle.dioc_terms.specs.declared.choreographies.Choreo.{Choreo}
use Rattle.dioc_terms.specs.declared.bundles.Trace.{Trace}
use Rattle.dioc_terms.specs.Terms.{Term, term}
use Rattle.dioc_terms.specs.Plain.{plain_rule}
use Rattle.aioc_tokens.specs.declared.words.Punctuator.TheVariants as punctuator
use Rattle.aioc_tokens.specs.Lexemes.{Lexeme, Symbol}
use Rattle.aioc_tokens.specs.Fronts.{NoFront}
use Rattle.dioc_syntax.specs.Choreographies.{IsChoreography}
use Rattle.rule_syntax.specs.Grammar.{PlainChange, Add, Drop, Env}
use Rattle.rule_syntax.specs.Readers.{StandsAt}
use Rattle.trace_syntax.specs.Grammar.{IsTrace}
use Rattle.bundle_text.specs.Many.{Many}
use Rattle.bundle_text.specs.Grammar.{AreValues, PlainTimed, IsTimed, Section, Aioc, Rules, Environment, Inputs, Script, Traced, inside_limit, closed_before, IsSection, Joined, joined_sections, HasVersion}
use Rattle.bundle_text.specs.declared.parts.KeptChange.{KeptChange}
use Rattle.bundle_text.specs.declared.parts.KeptChange.TheVariants as kept
use Rattle.bundle_text.specs.declared.parts.ReadTimed.{ReadTimed}
use Rattle.bundle_text.specs.declared.parts.Parts.{Parts}

-- Items stand at a place of the text up to a `}`; they were joined to a list, and this is the place
-- behind the `}`.
pub record TakesItems {A : Type 0} (Reads : List Lexeme → A → List Lexeme → Type 0)
    (text : List Lexeme) (at : ℕ) (old new : List A) (next : ℕ) : Type 0 where
  pub items : List A
  pub stand : Many Reads (drop at text) items (closed_before (drop next text))
  pub joins : new ≡ old ++ items
  pub after : at < next
  pub within : next ≤ length text

-- what a reader of one item answers
abbrev pub ItemAt : {A : Type 0} → (List Lexeme → A → List Lexeme → Type 0) → List Lexeme → ℕ →
    Option (A × ℕ) → Type 0
ItemAt Reads text at None = NoFront (Reads (drop at text))
ItemAt Reads text at (Some read) = StandsAt Reads text at read.0 read.1

-- the change that a program's value stands for
abbrev pub plain_kept : KeptChange → PlainChange
plain_kept (kept.Add rule) = Add (plain_rule rule.value)
plain_kept (kept.Drop name) = Drop name
plain_kept (kept.Env key value) = Env key value

abbrev pub plain_timed : ReadTimed → PlainTimed
plain_timed timed = record { after = timed.after; change = plain_kept timed.change }

abbrev pub TimedAt : ℕ → List Lexeme → ℕ → Option (ReadTimed × ℕ) → Type 0
TimedAt version text at None = NoFront (IsTimed version (drop at text))
TimedAt version text at (Some read) =
    StandsAt (IsTimed version) text at (plain_timed read.0) read.1

-- the values at a place with a `,` between two, and the place behind them: no others have a `;`
-- behind them
pub record FindsValues (text : List Lexeme) (at : ℕ) (values : List Value) (next : ℕ) :
    Type 0 where
  pub reads : AreValues (drop at text) values (drop next text)
  pub only : (other : List Value) (to : List Lexeme)
      → AreValues (drop at text) other (Symbol punctuator.Semicolon ∷ to)
      → (other ≡ values) × (Symbol punctuator.Semicolon ∷ to ≡ drop next text)
  pub after : at < next
  pub within : next ≤ length text

abbrev pub ValuesAt : List Lexeme → ℕ → Option (List Value × ℕ) → Type 0
ValuesAt text at None = (values : List Value) (to : List Lexeme)
    → AreValues (drop at text) values (Symbol punctuator.Semicolon ∷ to) → ⊥
ValuesAt text at (Some read) = FindsValues text at read.0 read.1

abbrev pub listed : Option Choreo → List Term
listed None = []
listed (Some choreo) = term choreo ∷ []

abbrev pub listed_trace : Option Trace → List Trace
listed_trace None = []
listed_trace (Some found) = found ∷ []

-- what the sections so far have
abbrev pub found_in : Parts → Joined
found_in parts = record {
  choreos = listed parts.choreo;
  rules = map plain_rule parts.rules.items;
  env = parts.env.items;
  inputs = parts.inputs.items;
  script = map plain_timed parts.script.items;
  traces = listed_trace parts.trace;
}

-- a section more, joined behind the others of its kind
abbrev pub with_last : Joined → Section → Joined
with_last others (Aioc whole) = record others { choreos = others.choreos ++ whole ∷ [] }
with_last others (Rules items) = record others { rules = others.rules ++ items }
with_last others (Environment items) = record others { env = others.env ++ items }
with_last others (Inputs items) = record others { inputs = others.inputs ++ items }
with_last others (Script items) = record others { script = others.script ++ items }
with_last others (Traced found) = record others { traces = others.traces ++ found ∷ [] }

-- a section stands at a place of the text, and was joined to those before it
pub record TakesSection (version : ℕ) (text : List Lexeme) (at : ℕ) (old new : Joined) (next : ℕ) :
    Type 0 where
  pub section : Section
  pub stands : IsSection version (drop at text) section (drop next text)
  pub joins : new ≡ with_last old section
  pub after : at < next
  pub within : next ≤ length text

-- the version at the front of a text, and the place behind it: no later one stands there, and no
-- other has a section behind it
pub record FindsVersion (text : List Lexeme) (version at : ℕ) : Type 0 where
  pub reads : HasVersion text version (drop at text)
  pub latest : (other : ℕ) (inside : List Lexeme) → HasVersion text other inside → other ≤ version
  pub only : (other : ℕ) (inside to : List Lexeme) (section : Section)
      → HasVersion text other inside → IsSection other inside section to
      → (other ≡ version) × (inside ≡ drop at text)
  pub within : at ≤ length text

-- a choreography stands at a place of the text up to a `}`, and this is the place behind that
pub record ChoreographyTaken (version : ℕ) (text : List Lexeme) (at : ℕ) (choreo : Choreo)
    (next : ℕ) : Type 0 where
  pub behind : List Lexeme
  pub stands : IsChoreography version inside_limit (drop at text) (term choreo) behind
  pub closes : behind ≡ closed_before (drop next text)
  pub after : at < next
  pub within : next ≤ length text

-- the lines of a trace stand at a place of the text up to a `}`, and this is the place behind that
pub record TraceTaken (text : List Lexeme) (at : ℕ) (found : Trace) (next : ℕ) : Type 0 where
  pub behind : List Lexeme
  pub stands : IsTrace (drop at text) found.entries found.last behind
  pub closes : behind ≡ closed_before (drop next text)
  pub after : at < next
  pub within : next ≤ length text

abbrev pub NoTrace : List Lexeme → Type 0
NoTrace from = (found : Trace) (to : List Lexeme)
    → IsTrace from found.entries found.last (closed_before to) → ⊥

-- the list is that of sections, and this is what they have
pub record TakesSections (version : ℕ) (from : List Lexeme) (found : Joined) : Type 0 where
  pub sections : List Section
  pub stand : Many (IsSection version) from sections []
  pub joins : found ≡ joined_sections sections
