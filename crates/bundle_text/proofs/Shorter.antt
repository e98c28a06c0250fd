-- Each part of a bundle takes tokens.
use Rattle.std.proofs.Common.{◌≡◌, ℕ, ◌+◌, ◌<◌, ◌≤◌, List, [], ◌∷◌, length, ap, arith, length-append}
use Rattle.dioc_terms.specs.declared.names.Role.{Role}
use Rattle.dioc_terms.specs.declared.values.Value.{Value}
use Rattle.dioc_terms.specs.Plain.{PlainRule}
use Rattle.aioc_tokens.specs.Lexemes.{Lexeme}
use Rattle.expr_syntax.proofs.LeafFacts.{constant_shorter}
use Rattle.dioc_syntax.proofs.Shorter.{stands_shorter}
use Rattle.rule_syntax.specs.Grammar.{IsRule}
use Rattle.rule_syntax.proofs.Shorter.{rule_shorter, binding_shorter, change_shorter}
use Rattle.bundle_text.specs.Many.{Many, no_more, one_more}
use Rattle.bundle_text.specs.Grammar.{inside_limit, IsBound, IsNextValue, IsInput, PlainTimed, IsTimed, Section, Aioc, Rules, Environment, Inputs, Script, Traced, IsSection, aioc, rules, environment, inputs, script, trace, joined_sections}
use Rattle.bundle_text.proofs.TraceShorter.{trace_shorter}
use Rattle.bundle_text.proofs.Repeated.{many_shorter}

rule_less : {version : ℕ} (from to : List Lexeme) (rule : PlainRule) → IsRule version inside_limit from rule to → length to < length from
rule_less from to rule is = rule_shorter is

bound_less : (from to : List Lexeme) (bound : List ℕ × Value) → IsBound from bound to → length to < length from
bound_less from to bound is = let less = binding_shorter is.binding in omega (arith, ap length is.ends)

value_less : (from to : List Lexeme) (value : Value) → IsNextValue from value to → length to < length from
value_less from to value is = let less = constant_shorter is.given to value is.reads in omega (arith, ap length is.begins)

input_less : (from to : List Lexeme) (input : Role × List Value) → IsInput from input to → length to < length from
input_less from to input is =
    let first = constant_shorter is.given is.values.more is.values.first is.values.reads in
    let rest = many_shorter value_less is.values.others in
    omega (arith, ap length is.begins, ap length is.ends)

timed_less : {version : ℕ} (from to : List Lexeme) (timed : PlainTimed) → IsTimed version from timed to → length to < length from
timed_less from to timed is = let less = change_shorter is.change in omega (arith, ap length is.begins)

-- so many rules and changes have a token each
section_few : {version : ℕ} {from to : List Lexeme} {section : Section} → IsSection version from section to → (length (joined_sections (section ∷ [])).rules + length (joined_sections (section ∷ [])).script + length to ≤ length from) × (length to < length from)
section_few (aioc begins is closes) = let less = stands_shorter is.stands in (omega (arith, ap length begins, ap length closes), omega (arith, ap length begins, ap length closes))
section_few (rules {items = items} begins stand closes) =
    let less = many_shorter rule_less stand in
    (omega (arith, ap length begins, ap length closes, length-append items []), omega (arith, ap length begins, ap length closes))
section_few (environment begins stand closes) = let less = many_shorter bound_less stand in (omega (arith, ap length begins, ap length closes), omega (arith, ap length begins, ap length closes))
section_few (inputs begins stand closes) = let less = many_shorter input_less stand in (omega (arith, ap length begins, ap length closes), omega (arith, ap length begins, ap length closes))
section_few (script {items = items} begins stand closes) =
    let less = many_shorter timed_less stand in
    (omega (arith, ap length begins, ap length closes, length-append items []), omega (arith, ap length begins, ap length closes))
section_few (trace begins stand closes) = let less = trace_shorter stand in (omega (arith, ap length begins, ap length closes), omega (arith, ap length begins, ap length closes))

-- and those of a section in front of others
joined_few : (section : Section) (others : List Section) → (length (joined_sections (section ∷ others)).rules + length (joined_sections (section ∷ others)).script) ≡ length (joined_sections (section ∷ [])).rules + length (joined_sections (section ∷ [])).script + (length (joined_sections others).rules + length (joined_sections others).script)
joined_few (Aioc whole) others = omega arith
joined_few (Rules items) others = omega (arith, length-append items (joined_sections others).rules, length-append items [])
joined_few (Environment items) others = omega arith
joined_few (Inputs items) others = omega arith
joined_few (Script items) others = omega (arith, length-append items (joined_sections others).script, length-append items [])
joined_few (Traced found) others = omega arith

pub sections_few : {version : ℕ} {from to : List Lexeme} {sections : List Section} → Many (IsSection version) from sections to → length (joined_sections sections).rules + length (joined_sections sections).script + length to ≤ length from
sections_few no_more = omega arith
sections_few (one_more {first = first} {rest = rest} r s) = let few = (section_few r).0 in let more = sections_few s in omega (arith, joined_few first rest)
