-- The grammar of a bundle: which bundle a list of lexemes reads as.
use Rattle.std.specs.Prelude.{◌≡◌, ℕ, ◌+◌, ◌-◌, ◌≤◌, List, [], ◌∷◌, ◌++◌, length, codes, Some, None}
use Rattle.std.specs.Str.Parse.{digits_value}
use Rattle.dioc_terms.specs.declared.names.Role.{Role}
use Rattle.dioc_terms.specs.declared.values.Value.{Value}
use Rattle.dioc_terms.specs.declared.bundles.Change.{Change}
use Rattle.dioc_terms.specs.declared.bundles.Change.TheVariants as change
use Rattle.dioc_terms.specs.declared.bundles.Timed.{Timed}
use Rattle.dioc_terms.specs.declared.bundles.Trace.{Trace}
use Rattle.limits.specs.Limits.{most_bytes, most_brackets}
use Rattle.dioc_terms.specs.Terms.{Term, cast_of}
use Rattle.dioc_terms.specs.Plain.{PlainRule, PlainBundle}
use Rattle.aioc_tokens.specs.declared.words.Word.TheVariants as word
use Rattle.aioc_tokens.specs.declared.words.Punctuator.TheVariants as punctuator
use Rattle.aioc_tokens.specs.Lexemes.{Lexeme, Name, Number, Reserved, Symbol, HasLexemes}
use Rattle.expr_syntax.specs.Constants.{constant, before, greatest, number_up_to}
use Rattle.dioc_syntax.specs.Choreographies.{IsChoreography}
use Rattle.trace_syntax.specs.Grammar.{IsTrace}
use Rattle.rule_syntax.specs.Grammar.{PlainChange, Add, Drop, Env, IsRule, IsBinding, IsChange}
use Rattle.bundle_text.specs.Many.{Many}

-- how many brackets may be open at once inside a section, whose own is open too
abbrev pub inside_limit : ℕ
inside_limit = most_brackets - 1

-- a binding and the `;` behind it:
--   bind ";"
pub record IsBound (from : List Lexeme) (bound : List ℕ × Value) (to : List Lexeme) : Type 0 where
  pub behind : List Lexeme
  pub binding : IsBinding from bound behind
  pub ends : behind ≡ Symbol punctuator.Semicolon ∷ to

-- a further value of a list:
--   "," value
pub record IsNextValue (from : List Lexeme) (value : Value) (to : List Lexeme) : Type 0 where
  pub given : List Lexeme
  pub begins : from ≡ Symbol punctuator.Comma ∷ given
  pub reads : constant given ≡ Some (before to value)

-- values with a `,` between two:
--   value { "," value }
pub record AreValues (from : List Lexeme) (values : List Value) (to : List Lexeme) : Type 0 where
  pub first : Value
  pub more : List Lexeme
  pub reads : constant from ≡ Some (before more first)
  pub rest : List Value
  pub others : Many IsNextValue more rest to
  pub are : values ≡ first ∷ rest

-- the inputs of a role:
--   name ":" value { "," value } ";"
pub record IsInput (from : List Lexeme) (input : Role × List Value) (to : List Lexeme) :
    Type 0 where
  pub given : List Lexeme
  pub begins : from ≡ Name input.0.0 ∷ Symbol punctuator.Colon ∷ given
  pub behind : List Lexeme
  pub values : AreValues given input.1 behind
  pub ends : behind ≡ Symbol punctuator.Semicolon ∷ to

-- a change that may come once so many visible entries stand
pub record PlainTimed : Type 0 where
  pub after : ℕ
  pub change : PlainChange

-- a change of a script; `after` is no reserved word:
--   "after" number change
pub record IsTimed (version : ℕ) (from : List Lexeme) (timed : PlainTimed)
    (to : List Lexeme) : Type 0 where
  pub digits : List ℕ
  pub given : List Lexeme
  pub begins : from ≡ Name (codes "after") ∷ Number digits ∷ given
  pub after : number_up_to greatest digits ≡ Some timed.after
  pub change : IsChange version inside_limit given timed.change to

-- what one section has
pub data Section : Type 0 where
  Aioc : Term → Section
  Rules : List PlainRule → Section
  Environment : List (List ℕ × Value) → Section
  Inputs : List (Role × List Value) → Section
  Script : List PlainTimed → Section
  Traced : Trace → Section

-- a word and `{`, and what follows
abbrev pub opened_by : List ℕ → List Lexeme → List Lexeme
opened_by name others = Name name ∷ Symbol punctuator.LeftBrace ∷ others

-- `}` and what follows
abbrev pub closed_before : List Lexeme → List Lexeme
closed_before others = Symbol punctuator.RightBrace ∷ others

-- From one list up to a rest of it stands this section, in a bundle of that version. `rules`,
-- `env`, `inputs`, `script` and `trace` are no reserved words.
pub data IsSection (version : ℕ) : List Lexeme → Section → List Lexeme → Type 0 where
  -- section = "aioc" "{" choreo "}"
  aioc : {from inside behind to : List Lexeme} {whole : Term}
      → from ≡ Reserved word.Aioc ∷ Symbol punctuator.LeftBrace ∷ inside
      → IsChoreography version inside_limit inside whole behind
      → behind ≡ closed_before to
      → IsSection version from (Aioc whole) to
  --         | "rules" "{" { rule } "}"
  rules : {from inside behind to : List Lexeme} {items : List PlainRule}
      → from ≡ opened_by (codes "rules") inside
      → Many (IsRule version inside_limit) inside items behind
      → behind ≡ closed_before to
      → IsSection version from (Rules items) to
  --         | "env" "{" { bind ";" } "}"
  environment : {from inside behind to : List Lexeme} {items : List (List ℕ × Value)}
      → from ≡ opened_by (codes "env") inside
      → Many IsBound inside items behind
      → behind ≡ closed_before to
      → IsSection version from (Environment items) to
  --         | "inputs" "{" { name ":" value { "," value } ";" } "}"
  inputs : {from inside behind to : List Lexeme} {items : List (Role × List Value)}
      → from ≡ opened_by (codes "inputs") inside
      → Many IsInput inside items behind
      → behind ≡ closed_before to
      → IsSection version from (Inputs items) to
  --         | "script" "{" { "after" number change } "}"
  script : {from inside behind to : List Lexeme} {items : List PlainTimed}
      → from ≡ opened_by (codes "script") inside
      → Many (IsTimed version) inside items behind
      → behind ≡ closed_before to
      → IsSection version from (Script items) to
  --         | "trace" "{" { line } [ last ] "}"
  trace : {from inside behind to : List Lexeme} {found : Trace}
      → from ≡ opened_by (codes "trace") inside
      → IsTrace inside found.entries found.last behind
      → behind ≡ closed_before to
      → IsSection version from (Traced found) to

-- what the sections of a text have, those of one kind joined in their order
pub record Joined : Type 0 where
  pub choreos : List Term
  pub rules : List PlainRule
  pub env : List (List ℕ × Value)
  pub inputs : List (Role × List Value)
  pub script : List PlainTimed
  pub traces : List Trace

abbrev pub with_first : Section → Joined → Joined
with_first (Aioc whole) others = record others { choreos = whole ∷ others.choreos }
with_first (Rules items) others = record others { rules = items ++ others.rules }
with_first (Environment items) others = record others { env = items ++ others.env }
with_first (Inputs items) others = record others { inputs = items ++ others.inputs }
with_first (Script items) others = record others { script = items ++ others.script }
with_first (Traced found) others = record others { traces = found ∷ others.traces }

abbrev pub nothing_joined : Joined
nothing_joined =
    record { choreos = []; rules = []; env = []; inputs = []; script = []; traces = [] }

abbrev pub joined_sections : List Section → Joined
joined_sections [] = nothing_joined
joined_sections (first ∷ rest) = with_first first (joined_sections rest)

-- the rules that a script adds, in its order
abbrev pub with_added : PlainChange → List PlainRule → List PlainRule
with_added (Add rule) others = rule ∷ others
with_added _ others = others

abbrev pub added_rules : List PlainTimed → List PlainRule
added_rules [] = []
added_rules (first ∷ rest) = with_added first.change (added_rules rest)

-- how many rules a change adds
abbrev pub count_added : PlainChange → ℕ
count_added (Add rule) = 1
count_added _ = 0

-- a change as a bundle keeps it, where this is the number of the rule that it adds
abbrev pub numbered_change : ℕ → PlainChange → Change
numbered_change number (Add rule) = change.Add number
numbered_change number (Drop name) = change.Drop name
numbered_change number (Env key value) = change.Env key value

-- a script as a bundle keeps it: the rules that it adds have the numbers from this one on
abbrev pub numbered : ℕ → List PlainTimed → List Timed
numbered number [] = []
numbered number (first ∷ rest) =
    record { after = first.after; change = numbered_change number first.change }
    ∷ numbered (number + count_added first.change) rest

abbrev pub empty_trace : Trace
empty_trace = record { entries = []; last = None }

-- at most one trace, an empty one where none stands
abbrev pub IsOnly : List Trace → Trace → Type 0
IsOnly [] found = found ≡ empty_trace
IsOnly (only ∷ []) found = found ≡ only
IsOnly _ found = ⊥

-- The bundle has what the sections have: one choreography, and the rules of the script behind those
-- of the book's start.
pub record IsMadeOf (found : Joined) (b : PlainBundle) : Type 0 where
  pub choreo : found.choreos ≡ b.choreo ∷ []
  pub cast : b.cast ≡ cast_of b.choreo
  pub rules : b.rules ≡ found.rules ++ added_rules found.script
  pub opening : b.opening ≡ length found.rules
  pub env : b.env ≡ found.env
  pub inputs : b.inputs ≡ found.inputs
  pub script : b.script ≡ numbered (length found.rules) found.script
  pub trace : IsOnly found.traces b.trace

-- From one list up to a rest of it stands the version of a bundle, 1 where none is written. The
-- number that is written has the value 2; `version` is no reserved word:
--   [ "version" "2" ]
pub data HasVersion : List Lexeme → ℕ → List Lexeme → Type 0 where
  first_version : {to : List Lexeme} → HasVersion to 1 to
  second_version : {from to : List Lexeme} {digits : List ℕ}
      → from ≡ Name (codes "version") ∷ Number digits ∷ to
      → digits_value 10 digits ≡ 2
      → HasVersion from 2 to

-- From one list up to a rest of it stands this bundle:
--   bundle = [ "version" "2" ] section { section }
pub record IsBundle (from : List Lexeme) (b : PlainBundle) (to : List Lexeme) : Type 0 where
  pub inside : List Lexeme
  pub version : HasVersion from b.version inside
  pub sections : List Section
  pub stand : Many (IsSection b.version) inside sections to
  pub made : IsMadeOf (joined_sections sections) b

-- the bytes read as the bundle: their lexemes are those of the bundle
pub record ReadsAs (bytes : List ℕ) (b : PlainBundle) : Type 0 where
  pub found : List Lexeme
  pub lexemes : HasLexemes bytes found
  pub bundle : IsBundle found b []

-- the bytes spell the bundle: they read as it, and there are not too many of them
pub record Spells (bytes : List ℕ) (b : PlainBundle) : Type 0 where
  pub small : length bytes ≤ most_bytes
  pub reads : ReadsAs bytes b

-- the bytes spell no bundle
abbrev pub SpellsNone : List ℕ → Type 0
SpellsNone bytes = (b : PlainBundle) → Spells bytes b → ⊥
