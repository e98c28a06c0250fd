-- How a bundle is written.
use Rattle.std.specs.Prelude.{ℕ, List, [], ◌∷◌, ◌++◌, map, take, codes, decimal, Option, Some, None, slice_get, if◌then◌else◌, ◌==◌}
use Rattle.std.specs.List.{flat_map}
use Rattle.dioc_terms.specs.declared.names.Role.{Role}
use Rattle.dioc_terms.specs.declared.values.Value.{Value}
use Rattle.dioc_terms.specs.declared.entries.Entry.{Entry}
use Rattle.dioc_terms.specs.declared.bundles.Change.{Change}
use Rattle.dioc_terms.specs.declared.bundles.Change.TheVariants as change
use Rattle.dioc_terms.specs.declared.bundles.Timed.{Timed}
use Rattle.dioc_terms.specs.declared.bundles.Last.{Last}
use Rattle.dioc_terms.specs.Plain.{PlainRule, PlainBundle}
use Rattle.aioc_tokens.specs.declared.words.Word.TheVariants as word
use Rattle.aioc_tokens.specs.declared.words.Punctuator.TheVariants as punctuator
use Rattle.aioc_tokens.specs.Lexemes.{Lexeme, Name, Number, Reserved, Symbol}
use Rattle.aioc_tokens.specs.Spelling.{spelled}
use Rattle.expr_syntax.specs.Writing.{written_value}
use Rattle.dioc_syntax.specs.Writing.{written as written_choreography}
use Rattle.rule_syntax.specs.Grammar.{PlainChange, Add, Drop, Env}
use Rattle.rule_syntax.specs.Writing.{written as written_rule}
use Rattle.trace_text.specs.Lines.{line, last_line, line_end}
use Rattle.trace_text.specs.Written.{written_lines, written_last}
use Rattle.bundle_text.specs.Grammar.{PlainTimed, Section, Aioc, Rules, Environment, Inputs, Script, Traced, opened_by, closed_before}

-- the lexemes of items one after another, and those that follow
abbrev pub written_all : {A : Type 0} → (A → List Lexeme → List Lexeme) → List A → List Lexeme →
    List Lexeme
written_all write [] others = others
written_all write (first ∷ rest) others = write first (written_all write rest others)

-- the lexemes of a binding with its `;`
abbrev pub written_bound : List ℕ × Value → List Lexeme → List Lexeme
written_bound bound others =
    Name bound.0 ∷ Symbol punctuator.Equal
    ∷ written_value bound.1 (Symbol punctuator.Semicolon ∷ others)

-- the lexemes of values with a `,` between two
abbrev pub written_next_value : Value → List Lexeme → List Lexeme
written_next_value value others = Symbol punctuator.Comma ∷ written_value value others

abbrev pub written_values : List Value → List Lexeme → List Lexeme
written_values [] others = others
written_values (first ∷ rest) others =
    written_value first (written_all written_next_value rest others)

-- the lexemes of a role's inputs
abbrev pub written_input : Role × List Value → List Lexeme → List Lexeme
written_input input others =
    Name input.0.0 ∷ Symbol punctuator.Colon
    ∷ written_values input.1 (Symbol punctuator.Semicolon ∷ others)

-- the lexemes of a change of a script
abbrev pub written_change : PlainChange → List Lexeme → List Lexeme
written_change (Add rule) others = Name (codes "add") ∷ written_rule rule others
written_change (Drop name) others = Name (codes "drop") ∷ Name name ∷ others
written_change (Env key value) others =
    Name (codes "env") ∷ Name key ∷ Symbol punctuator.Equal ∷ written_value value others

abbrev pub written_timed : PlainTimed → List Lexeme → List Lexeme
written_timed timed others =
    Name (codes "after") ∷ Number (decimal timed.after) ∷ written_change timed.change others

-- the lexemes of a last line, where there is one
abbrev pub written_end : Option Last → List Lexeme → List Lexeme
written_end None others = others
written_end (Some end) others = written_last end others

-- the lexemes of a section, and those that follow
abbrev pub written_section : Section → List Lexeme → List Lexeme
written_section (Aioc whole) others =
    Reserved word.Aioc ∷ Symbol punctuator.LeftBrace
    ∷ written_choreography whole (closed_before others)
written_section (Rules items) others =
    opened_by (codes "rules") (written_all written_rule items (closed_before others))
written_section (Environment items) others =
    opened_by (codes "env") (written_all written_bound items (closed_before others))
written_section (Inputs items) others =
    opened_by (codes "inputs") (written_all written_input items (closed_before others))
written_section (Script items) others =
    opened_by (codes "script") (written_all written_timed items (closed_before others))
written_section (Traced trace) others =
    opened_by (codes "trace")
    (written_lines trace.entries (written_end trace.last (closed_before others)))

-- lexemes with one space between two, and a line end
abbrev pub text_line : List Lexeme → List ℕ
text_line found = spelled found ++ line_end ∷ []

-- the lines of a trace, each with its end
abbrev pub entry_text : Entry → List ℕ
entry_text entry = line entry ++ line_end ∷ []

abbrev pub end_text : Option Last → List ℕ
end_text None = []
end_text (Some end) = last_line end ++ line_end ∷ []

-- `}` and its line end
abbrev pub trace_end : List ℕ
trace_end = codes "}" ++ line_end ∷ []

-- The text of a section is a line; that of a trace has a line for each entry too.
abbrev pub section_text : Section → List ℕ
section_text (Traced trace) =
    codes "trace {" ++ line_end
    ∷ (flat_map entry_text trace.entries ++ (end_text trace.last ++ trace_end))
section_text section = text_line (written_section section [])

-- a change as it is written. `Add(n)` adds rule n; past the rules, as in no formed bundle, nothing
-- is written
abbrev pub added_by : Option PlainRule → List PlainChange
added_by None = []
added_by (Some rule) = Add rule ∷ []

abbrev pub changes_of : List PlainRule → Change → List PlainChange
changes_of rules (change.Add n) = added_by (slice_get rules n)
changes_of rules (change.Drop name) = Drop name ∷ []
changes_of rules (change.Env key value) = Env key value ∷ []

abbrev pub timed_of : List PlainRule → Timed → List PlainTimed
timed_of rules timed =
    map (λ found. record { after = timed.after; change = found }) (changes_of rules timed.change)

abbrev pub script_of : List PlainRule → List Timed → List PlainTimed
script_of rules script = flat_map (timed_of rules) script

-- a section of a list that isn't empty
abbrev pub some : {A : Type 0} → (List A → Section) → List A → List Section
some make [] = []
some make (first ∷ rest) = make (first ∷ rest) ∷ []

abbrev pub script_section : List PlainRule → List Timed → List Section
script_section rules [] = []
script_section rules (first ∷ rest) = Script (script_of rules (first ∷ rest)) ∷ []

abbrev pub traced : List Entry → Option Last → List Section
traced [] None = []
traced entries end = Traced (record { entries = entries; last = end }) ∷ []

-- the sections of a bundle that are written, in their order
abbrev pub sections_of : PlainBundle → List Section
sections_of b =
    Aioc b.choreo ∷ (some Rules (take b.opening b.rules) ++ (some Environment b.env ++
    (some Inputs b.inputs ++ (script_section b.rules b.script
    ++ traced b.trace.entries b.trace.last))))

-- the version, where it is 2
abbrev pub version_text : ℕ → List ℕ
version_text version =
    if version == 2 then text_line (Name (codes "version") ∷ Number (codes "2") ∷ []) else []

abbrev pub bundle_text : PlainBundle → List ℕ
bundle_text b = version_text b.version ++ flat_map section_text (sections_of b)
