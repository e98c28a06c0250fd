-- The text of a bundle, byte by byte.
use Rattle.std.specs.Prelude.{ℕ, List, [], ◌∷◌, ◌++◌, take, codes, decimal, Option, Some, None, slice_get}
use Rattle.std.specs.List.{flat_map}
use Rattle.dioc_terms.specs.declared.names.Role.{Role}
use Rattle.dioc_terms.specs.declared.values.Value.{Value}
use Rattle.dioc_terms.specs.declared.bundles.Change.{Change}
use Rattle.dioc_terms.specs.declared.bundles.Change.TheVariants as change
use Rattle.dioc_terms.specs.declared.bundles.Timed.{Timed}
use Rattle.dioc_terms.specs.declared.bundles.Trace.{Trace}
use Rattle.dioc_terms.specs.Terms.{Term}
use Rattle.dioc_terms.specs.Plain.{PlainBundle, PlainRule}
use Rattle.aioc_tokens.specs.Spelling.{spelled}
use Rattle.dioc_syntax.specs.Pieces.{value_text}
use Rattle.dioc_syntax.specs.Writing.{written as written_choreography}
use Rattle.rule_syntax.specs.Writing.{written as written_rule}
use Rattle.bundle_text.specs.Writing.{version_text, section_text, traced}

-- ` }` and the line end behind a section
abbrev pub closing_text : List ℕ
closing_text = codes " }" ++ 10 ∷ []

abbrev pub choreography_text : Term → List ℕ
choreography_text whole =
    codes "aioc { " ++ spelled (written_choreography whole []) ++ closing_text

-- a section of items, none where there are none
abbrev pub items_text : {A : Type 0} → List ℕ → (A → List ℕ) → List A → List ℕ
items_text opening text [] = []
items_text opening text (first ∷ rest) = opening ++ flat_map text (first ∷ rest) ++ closing_text

-- each item has a space before it
abbrev pub rule_text : PlainRule → List ℕ
rule_text rule = codes " " ++ spelled (written_rule rule [])

abbrev pub bound_text : List ℕ × Value → List ℕ
bound_text bound = codes " " ++ bound.0 ++ codes " = " ++ value_text bound.1 ++ codes " ;"

abbrev pub next_value_text : Value → List ℕ
next_value_text next = codes " , " ++ value_text next

abbrev pub values_text : List Value → List ℕ
values_text [] = []
values_text (first ∷ rest) = codes " " ++ value_text first ++ flat_map next_value_text rest

abbrev pub input_text : Role × List Value → List ℕ
input_text input = codes " " ++ input.0.0 ++ codes " :" ++ values_text input.1 ++ codes " ;"

abbrev pub after_text : ℕ → List ℕ → List ℕ
after_text after word = codes " after " ++ decimal after ++ word

abbrev pub added_text : ℕ → PlainRule → List ℕ
added_text after rule = after_text after (codes " add ") ++ spelled (written_rule rule [])

abbrev pub found_text : ℕ → Option PlainRule → List ℕ
found_text after None = []
found_text after (Some rule) = added_text after rule

abbrev pub change_text : List PlainRule → ℕ → Change → List ℕ
change_text rules after (change.Add n) = found_text after (slice_get rules n)
change_text rules after (change.Drop name) = after_text after (codes " drop ") ++ name
change_text rules after (change.Env key value) =
    after_text after (codes " env ") ++ key ++ codes " = " ++ value_text value

abbrev pub timed_text : List PlainRule → Timed → List ℕ
timed_text rules timed = change_text rules timed.after timed.change

abbrev pub trace_text : Trace → List ℕ
trace_text trace = flat_map section_text (traced trace.entries trace.last)

-- the sections of items
abbrev pub sections_text : PlainBundle → List ℕ
sections_text b =
    items_text (codes "rules {") rule_text (take b.opening b.rules)
    ++ items_text (codes "env {") bound_text b.env
    ++ items_text (codes "inputs {") input_text b.inputs
    ++ items_text (codes "script {") (timed_text b.rules) b.script

abbrev pub pieces_text : PlainBundle → List ℕ
pieces_text b =
    version_text b.version ++ choreography_text b.choreo ++ sections_text b
    ++ trace_text b.trace
