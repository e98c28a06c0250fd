-- The bytes of a bundle are the text of its sections.
use Rattle.std.proofs.Common.{◌≡◌, ℕ, ◌<◌, List, [], ◌∷◌, ◌++◌, length, map, min, take, Option, Some, None, codes, decimal, refl, ap, sym, ◌∙◌, append_assoc, append-nil}
use Rattle.std.specs.List.{flat_map}
use Rattle.std.specs.Prelude.{slice_get}
use Rattle.std.proofs.lemmas.Grind.{flat_map-append}
use Rattle.std.proofs.lemmas.List.{take-map, take_min}
use Rattle.dioc_terms.specs.declared.names.Role.{Role}
use Rattle.dioc_terms.specs.declared.values.Value.{Value}
use Rattle.dioc_terms.specs.declared.bundles.Change.{Change}
use Rattle.dioc_terms.specs.declared.bundles.Change.TheVariants as change
use Rattle.dioc_terms.specs.declared.bundles.Timed.{Timed}
use Rattle.dioc_terms.specs.declared.bundles.Rule.{Rule}
use Rattle.dioc_terms.specs.Expressions.{Const}
use Rattle.dioc_terms.specs.Terms.{Term}
use Rattle.dioc_terms.specs.Plain.{PlainBundle, PlainRule, plain_rule}
use Rattle.aioc_tokens.specs.declared.words.Punctuator.TheVariants as punctuator
use Rattle.aioc_tokens.specs.Lexemes.{Lexeme, Name, Symbol}
use Rattle.aioc_tokens.specs.Spelling.{spelling, spelled}
use Rattle.expr_syntax.specs.Writing.{written_value}
use Rattle.expr_syntax.proofs.Spells.{behind, spelled_first, behind_some}
use Rattle.expr_syntax.proofs.Spells.{spelled_before as expression_before}
use Rattle.expr_syntax.proofs.Spells.{written_some as expression_some}
use Rattle.dioc_syntax.specs.Pieces.{value_text}
use Rattle.dioc_syntax.specs.Writing.{written as written_choreography}
use Rattle.dioc_syntax.proofs.Spells.{spelled_before as choreography_before}
use Rattle.dioc_syntax.proofs.Spells.{written_some as choreography_some}
use Rattle.rule_syntax.specs.Grammar.{PlainChange, Add, Drop, Env}
use Rattle.rule_syntax.specs.Writing.{written as written_rule}
use Rattle.rule_syntax.proofs.Spells.{spelled_before as rule_before}
use Rattle.bundle_text.specs.Grammar.{PlainTimed, Section, Aioc, Rules, Environment, Inputs, Script, opened_by, closed_before}
use Rattle.bundle_text.specs.Writing.{written_all, written_bound, written_next_value, written_values, written_input, written_timed, text_line, section_text, added_by, changes_of, timed_of, script_of, some, script_section, traced, version_text, bundle_text}
use Rattle.bundle_text.specs.Pieces.{closing_text, choreography_text, items_text, rule_text, bound_text, next_value_text, values_text, input_text, after_text, added_text, found_text, change_text, timed_text, sections_text, pieces_text}

-- a lexeme that others follow
spelled_on : (first : Lexeme) (others : List Lexeme) → 0 < length others → spelled (first ∷ others) ≡ spelling first ++ 32 ∷ spelled others
spelled_on first others some = spelled_first first others ∙ ap (λ rest. spelling first ++ rest) (behind_some others some)

-- a value
value_before : (value : Value) (others : List Lexeme) → spelled (written_value value others) ≡ value_text value ++ behind others
value_before value others = expression_before (Const value) others

value_behind : (value : Value) (others : List Lexeme) → behind (written_value value others) ≡ 32 ∷ (value_text value ++ behind others)
value_behind value others = behind_some (written_value value others) (expression_some (Const value) others) ∙ ap (λ rest. 32 ∷ rest) (value_before value others)

-- what some items are behind others
abbrev Behind : {A B : Type 0} → (A → B) → (B → List Lexeme → List Lexeme) → (A → List ℕ) → Type 0
Behind {A} seen write text = (item : A) (others : List Lexeme) → behind (write (seen item) others) ≡ text item ++ behind others

all_behind : {A B : Type 0} (seen : A → B) (write : B → List Lexeme → List Lexeme) (text : A → List ℕ) → Behind seen write text → (items : List A) (others : List Lexeme)
    → behind (written_all write (map seen items) others) ≡ flat_map text items ++ behind others
all_behind seen write text each [] others = refl
all_behind seen write text each (first ∷ rest) others =
    each first (written_all write (map seen rest) others) ∙ ap (λ more. text first ++ more) (all_behind seen write text each rest others) ∙ sym (append_assoc (text first) (flat_map text rest) (behind others))

rule_behind : Behind (λ (rule : PlainRule). rule) written_rule rule_text
rule_behind rule others = ap (λ rest. 32 ∷ rest) (rule_before rule others)

bound_behind : Behind (λ (bound : List ℕ × Value). bound) written_bound bound_text
bound_behind bound others =
    ap (λ rest. 32 ∷ (bound.0 ++ 32 ∷ rest)) (spelled_first (Symbol punctuator.Equal) (written_value bound.1 (Symbol punctuator.Semicolon ∷ others)) ∙ ap (λ rest. 61 ∷ rest) (value_behind bound.1 (Symbol punctuator.Semicolon ∷ others)))
    ∙ ap (λ rest. 32 ∷ (bound.0 ++ (codes " = " ++ (value_text bound.1 ++ 32 ∷ rest)))) (spelled_first (Symbol punctuator.Semicolon) others)
    ∙ regrouped bound.0 (value_text bound.1) (behind others)
  where
    regrouped : (name value rest : List ℕ) → codes " " ++ (name ++ (codes " = " ++ (value ++ (codes " ;" ++ rest)))) ≡ (codes " " ++ name ++ codes " = " ++ value ++ codes " ;") ++ rest
    regrouped name value rest = simp append_assoc

next_value_behind : (value : Value) (others : List Lexeme) → behind (written_next_value value others) ≡ next_value_text value ++ behind others
next_value_behind value others = ap (λ rest. 32 ∷ rest) (spelled_first (Symbol punctuator.Comma) (written_value value others) ∙ ap (λ rest. 44 ∷ rest) (value_behind value others))

next_values_behind : (values : List Value) (others : List Lexeme) → behind (written_all written_next_value values others) ≡ flat_map next_value_text values ++ behind others
next_values_behind [] others = refl
next_values_behind (first ∷ rest) others =
    next_value_behind first (written_all written_next_value rest others) ∙ ap (λ more. next_value_text first ++ more) (next_values_behind rest others)
    ∙ sym (append_assoc (next_value_text first) (flat_map next_value_text rest) (behind others))

values_behind : (values : List Value) (others : List Lexeme) → behind (written_values values others) ≡ values_text values ++ behind others
values_behind [] others = refl
values_behind (first ∷ rest) others =
    value_behind first (written_all written_next_value rest others) ∙ ap (λ more. 32 ∷ (value_text first ++ more)) (next_values_behind rest others)
    ∙ ap (λ more. 32 ∷ more) (sym (append_assoc (value_text first) (flat_map next_value_text rest) (behind others)))

input_behind : Behind (λ (input : Role × List Value). input) written_input input_text
input_behind input others =
    ap (λ rest. 32 ∷ (input.0.0 ++ 32 ∷ rest)) (spelled_first (Symbol punctuator.Colon) (written_values input.1 (Symbol punctuator.Semicolon ∷ others)) ∙ ap (λ rest. 58 ∷ rest) (values_behind input.1 (Symbol punctuator.Semicolon ∷ others)))
    ∙ ap (λ rest. 32 ∷ (input.0.0 ++ (codes " :" ++ (values_text input.1 ++ 32 ∷ rest)))) (spelled_first (Symbol punctuator.Semicolon) others)
    ∙ regrouped input.0.0 (values_text input.1) (behind others)
  where
    regrouped : (name values rest : List ℕ) → codes " " ++ (name ++ (codes " :" ++ (values ++ (codes " ;" ++ rest)))) ≡ (codes " " ++ name ++ codes " :" ++ values ++ codes " ;") ++ rest
    regrouped name values rest = simp append_assoc

-- a change of a script
module _ (after : ℕ) where
  added_behind : (rule : PlainRule) (others : List Lexeme) → behind (written_timed (record { after = after; change = Add rule }) others) ≡ added_text after rule ++ behind others
  added_behind rule others =
      let text = spelled (written_rule rule []) in
      ap (λ rest. codes " after " ++ (decimal after ++ (codes " add " ++ rest))) (rule_before rule others) ∙ regrouped (decimal after) text (behind others)
    where
      regrouped : (digits text rest : List ℕ) → codes " after " ++ (digits ++ (codes " add " ++ (text ++ rest))) ≡ ((codes " after " ++ (digits ++ codes " add ")) ++ text) ++ rest
      regrouped digits text rest = simp append_assoc

  dropped_behind : (name : List ℕ) (others : List Lexeme) → behind (written_timed (record { after = after; change = Drop name }) others) ≡ (after_text after (codes " drop ") ++ name) ++ behind others
  dropped_behind name others = ap (λ rest. codes " after " ++ (decimal after ++ (codes " drop " ++ rest))) (spelled_first (Name name) others) ∙ regrouped (decimal after) name (behind others)
    where
      regrouped : (digits text rest : List ℕ) → codes " after " ++ (digits ++ (codes " drop " ++ (text ++ rest))) ≡ ((codes " after " ++ (digits ++ codes " drop ")) ++ text) ++ rest
      regrouped digits text rest = simp append_assoc

  set_behind : (key : List ℕ) (value : Value) (others : List Lexeme) → behind (written_timed (record { after = after; change = Env key value }) others) ≡ (after_text after (codes " env ") ++ key ++ codes " = " ++ value_text value) ++ behind others
  set_behind key value others =
      ap (λ rest. codes " after " ++ (decimal after ++ (codes " env " ++ (key ++ 32 ∷ rest)))) (spelled_first (Symbol punctuator.Equal) (written_value value others) ∙ ap (λ rest. 61 ∷ rest) (value_behind value others))
      ∙ regrouped (decimal after) key (value_text value) (behind others)
    where
      regrouped : (digits name text rest : List ℕ) → codes " after " ++ (digits ++ (codes " env " ++ (name ++ (codes " = " ++ (text ++ rest))))) ≡ ((codes " after " ++ digits ++ codes " env ") ++ name ++ codes " = " ++ text) ++ rest
      regrouped digits name text rest = simp append_assoc

timed_behind : (rules : List PlainRule) (timed : Timed) (others : List Lexeme) → behind (written_all written_timed (timed_of rules timed) others) ≡ timed_text rules timed ++ behind others
timed_behind rules timed others = by_change timed.change
  where
    made : List PlainChange → List PlainTimed
    made changes = map (λ (found : PlainChange). record { after = timed.after; change = found }) changes

    by_rule : (found : Option PlainRule) → behind (written_all written_timed (made (added_by found)) others) ≡ found_text timed.after found ++ behind others
    by_rule None = refl
    by_rule (Some rule) = added_behind timed.after rule others

    by_change : (found : Change) → behind (written_all written_timed (made (changes_of rules found)) others) ≡ change_text rules timed.after found ++ behind others
    by_change (change.Add n) = by_rule (slice_get rules n)
    by_change (change.Drop name) = dropped_behind timed.after name others
    by_change (change.Env key value) = set_behind timed.after key value others

written_all-append : {A : Type 0} (write : A → List Lexeme → List Lexeme) (items more : List A) (others : List Lexeme) → written_all write (items ++ more) others ≡ written_all write items (written_all write more others)
written_all-append write [] more others = refl
written_all-append write (first ∷ rest) more others = ap (write first) (written_all-append write rest more others)

script_behind : (rules : List PlainRule) (script : List Timed) (others : List Lexeme) → behind (written_all written_timed (script_of rules script) others) ≡ flat_map (timed_text rules) script ++ behind others
script_behind rules [] others = refl
script_behind rules (first ∷ rest) others =
    ap behind (written_all-append written_timed (timed_of rules first) (script_of rules rest) others)
    ∙ timed_behind rules first (written_all written_timed (script_of rules rest) others) ∙ ap (λ more. timed_text rules first ++ more) (script_behind rules rest others)
    ∙ sym (append_assoc (timed_text rules first) (flat_map (timed_text rules) rest) (behind others))

-- the line of a section
line_of : (name : List ℕ) (inside : List Lexeme) (text : List ℕ) → behind inside ≡ text ++ codes " }" → text_line (opened_by name inside) ≡ ((name ++ codes " {") ++ text) ++ closing_text
line_of name inside text is =
    ap (λ rest. (name ++ 32 ∷ rest) ++ 10 ∷ []) (spelled_first (Symbol punctuator.LeftBrace) inside ∙ ap (λ rest. 123 ∷ rest) is)
    ∙ regrouped name text
  where
    regrouped : (name text : List ℕ) → (name ++ (codes " {" ++ (text ++ codes " }"))) ++ 10 ∷ [] ≡ ((name ++ codes " {") ++ text) ++ (codes " }" ++ 10 ∷ [])
    regrouped name text = simp append_assoc

-- a section of items is written as such, and none where there are none
items_are : {A B : Type 0} (make : List B → Section) (seen : A → B) (write : B → List Lexeme → List Lexeme) (name : List ℕ) (text : A → List ℕ)
    → ((items : List B) → section_text (make items) ≡ text_line (opened_by name (written_all write items (closed_before [])))) → Behind seen write text → (items : List A)
    → items_text (name ++ codes " {") text items ≡ flat_map section_text (some make (map seen items))
items_are make seen write name text written each [] = refl
items_are make seen write name text written each (first ∷ rest) =
    sym (append-nil (section_text (make (map seen (first ∷ rest)))) ∙ written (map seen (first ∷ rest))
    ∙ line_of name (written_all write (map seen (first ∷ rest)) (closed_before [])) (flat_map text (first ∷ rest)) (all_behind seen write text each (first ∷ rest) (closed_before [])))

map_same : {A : Type 0} (items : List A) → map (λ item. item) items ≡ items
map_same [] = refl
map_same (first ∷ rest) = ap (λ list. first ∷ list) (map_same rest)

script_are : (rules : List PlainRule) (script : List Timed) → items_text (codes "script {") (timed_text rules) script ≡ flat_map section_text (script_section rules script)
script_are rules [] = refl
script_are rules (first ∷ rest) =
    sym (append-nil (section_text (Script (script_of rules (first ∷ rest))))
    ∙ line_of (codes "script") (written_all written_timed (script_of rules (first ∷ rest)) (closed_before [])) (flat_map (timed_text rules) (first ∷ rest)) (script_behind rules (first ∷ rest) (closed_before [])))

choreography_is : (whole : Term) → choreography_text whole ≡ section_text (Aioc whole)
choreography_is whole =
    sym (ap (λ rest. (codes "aioc " ++ rest) ++ 10 ∷ []) (spelled_on (Symbol punctuator.LeftBrace) (written_choreography whole (closed_before [])) (choreography_some whole (closed_before [])))
    ∙ ap (λ rest. (codes "aioc { " ++ rest) ++ 10 ∷ []) (choreography_before whole (closed_before []))
    ∙ regrouped (spelled (written_choreography whole [])))
  where
    regrouped : (text : List ℕ) → (codes "aioc { " ++ (text ++ codes " }")) ++ 10 ∷ [] ≡ codes "aioc { " ++ (text ++ (codes " }" ++ 10 ∷ []))
    regrouped text = simp append_assoc

pub text_is : (b : PlainBundle) → pieces_text b ≡ bundle_text b
text_is b =
    let opening = some Rules (take b.opening b.rules) in
    let env = some Environment b.env in
    let inputs = some Inputs b.inputs in
    let script = script_section b.rules b.script in
    let last = traced b.trace.entries b.trace.last in
    let opening_is : items_text (codes "rules {") rule_text (take b.opening b.rules) ≡ flat_map section_text opening =
    items_are Rules (λ item. item) written_rule (codes "rules") rule_text (λ items. refl) rule_behind (take b.opening b.rules) ∙ ap (λ list. flat_map section_text (some Rules list)) (map_same (take b.opening b.rules)) in
    let env_is : items_text (codes "env {") bound_text b.env ≡ flat_map section_text env =
    items_are Environment (λ item. item) written_bound (codes "env") bound_text (λ items. refl) bound_behind b.env ∙ ap (λ list. flat_map section_text (some Environment list)) (map_same b.env) in
    let inputs_is : items_text (codes "inputs {") input_text b.inputs ≡ flat_map section_text inputs =
    items_are Inputs (λ item. item) written_input (codes "inputs") input_text (λ items. refl) input_behind b.inputs ∙ ap (λ list. flat_map section_text (some Inputs list)) (map_same b.inputs) in
    let script_is = script_are b.rules b.script in
    let f = λ (sections : List Section). flat_map section_text sections in
    let all : f (opening ++ (env ++ (inputs ++ (script ++ last)))) ≡ f opening ++ (f env ++ (f inputs ++ (f script ++ f last))) =
    flat_map-append section_text opening (env ++ (inputs ++ (script ++ last)))
    ∙ ap (λ more. f opening ++ more) (flat_map-append section_text env (inputs ++ (script ++ last))
    ∙ ap (λ more. f env ++ more) (flat_map-append section_text inputs (script ++ last)
    ∙ ap (λ more. f inputs ++ more) (flat_map-append section_text script last))) in
    let pieces : sections_text b ++ f last ≡ f opening ++ (f env ++ (f inputs ++ (f script ++ f last))) =
    (λ j. (opening_is j ++ env_is j ++ inputs_is j ++ script_is j) ++ f last)
    ∙ regrouped (f opening) (f env) (f inputs) (f script) (f last) in
    four (version_text b.version) (choreography_text b.choreo) (sections_text b) (f last)
    ∙ ap (λ more. version_text b.version ++ (choreography_text b.choreo ++ more)) (pieces ∙ sym all)
    ∙ ap (λ first. version_text b.version ++ (first ++ f (opening ++ (env ++ (inputs ++ (script ++ last)))))) (choreography_is b.choreo)
  where
    four : (a b c d : List ℕ) → a ++ b ++ c ++ d ≡ a ++ (b ++ (c ++ d))
    four a b c d = simp append_assoc

    regrouped : (a b c d e : List ℕ) → (a ++ b ++ c ++ d) ++ e ≡ a ++ (b ++ (c ++ (d ++ e)))
    regrouped a b c d e = simp append_assoc

-- the rules that are written
pub opening_rules : (opening : ℕ) (rules : List Rule) → map plain_rule (take (min opening (length rules)) rules) ≡ take opening (map plain_rule rules)
opening_rules opening rules = ap (map plain_rule) (take_min opening rules) ∙ sym (take-map plain_rule opening rules)
