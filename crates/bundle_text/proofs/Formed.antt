-- What a text spells is formed.
use Rattle.std.proofs.Common.{◌≡◌, ℕ, suc, ◌+◌, ◌-◌, ◌≤◌, ◌⊎◌, inl, inr, Bool, true, false, ◌&&◌, cond, nat_le, nat_lt, List, [], ◌∷◌, length, Some, None, pos, refl, ap, sym, ◌∙◌, subst, arith, length-append}
use Rattle.std.specs.List.{list_all, AllByRecursion}
use Rattle.std.specs.Ordering.{int_eq}
use Rattle.std.specs.Str.Parse.{digits_value}
use Rattle.std.proofs.lemmas.List.Elements.{All-from_recursion}
use Rattle.std.proofs.lemmas.Bool.Decides.{nat_tests}
use borrow.Author.Tests.{leb-true, le-leb}
use Rattle.dioc_terms.specs.declared.values.Value.{Value}
use Rattle.dioc_terms.specs.declared.bundles.Trace.{Trace}
use Rattle.limits.specs.Limits.{largest}
use Rattle.dioc_terms.specs.Terms.{Term}
use Rattle.dioc_terms.specs.Plain.{PlainRule, PlainBundle}
use Rattle.dioc_terms.specs.Bundles.{is_identifier, is_constant, is_formed_binding, is_formed_inputs, is_formed_timed, is_formed_change, adds, numbers_from, has_no_priority, IsOfVersion, IsFormed, IsFormedTerm, IsFormedRule}
use Rattle.aioc_tokens.specs.Lexemes.{Lexeme, HasLexemes}
use Rattle.expr_syntax.specs.Constants.{number_up_to}
use Rattle.expr_syntax.proofs.ReadFormed.{CanBeWritten, identifier_valid, constant_valid, all_valid}
use Rattle.dioc_syntax.specs.Choreographies.{IsChoreography}
use Rattle.dioc_syntax.specs.Laws.{FitsVersion as BodyFits}
use Rattle.dioc_syntax.proofs.Marks.{stands_marked}
use Rattle.dioc_syntax.proofs.FormedTerms.{stands_valid, stands_fits}
use Rattle.rule_syntax.specs.Grammar.{PlainChange, Add, Drop, Env, IsRule, IsBinding, IsChange, adds as adds_rule, drops, sets}
use Rattle.rule_syntax.specs.Laws.{FitsVersion}
use Rattle.rule_syntax.proofs.Formed.{rule_valid}
use Rattle.trace_syntax.proofs.ReadFormed.{trace_formed}
use Rattle.bundle_text.specs.Many.{Many, no_more, one_more}
use Rattle.bundle_text.specs.Grammar.{inside_limit, IsBound, IsNextValue, IsInput, PlainTimed, IsTimed, Section, Aioc, Rules, Environment, Inputs, Script, Traced, IsSection, aioc, rules, environment, inputs, script, trace, Joined, joined_sections, added_rules, count_added, numbered_change, numbered, IsOnly, HasVersion, first_version, second_version, IsBundle, Spells}
use Rattle.bundle_text.proofs.FormedParts.{IsRuleOf, IsFormedChange, IsFormedTimed, IsFormedTrace, IsFormedSection, all_both, all_mapped, to_test}

-- each lexeme can be written
abbrev pub AllWritten : List Lexeme → Type 0
AllWritten from = AllByRecursion CanBeWritten from

-- what is read is of some form, and each lexeme behind it can be written
abbrev pub Forms : {A : Type 0} → (List Lexeme → A → List Lexeme → Type 0) → (A → Type 0) → Type 0
Forms {A} Reads Fits = (from to : List Lexeme) (item : A) → Reads from item to → AllWritten from → Fits item × AllWritten to

pub many_formed : {A : Type 0} {Reads : List Lexeme → A → List Lexeme → Type 0} {from to : List Lexeme} {items : List A} (Fits : A → Type 0) → Forms Reads Fits → Many Reads from items to → AllWritten from → AllByRecursion Fits items × AllWritten to
many_formed Fits each no_more valid = (tt, valid)
many_formed Fits each (one_more {from = from} {middle = middle} {first = first} r s) valid =
    let one = each from middle first r valid in
    let rest = many_formed Fits each s one.1 in
    ((one.0, rest.0), rest.1)

rule_formed : (version : ℕ) → Forms (IsRule version inside_limit) (IsRuleOf version)
rule_formed version from to rule is valid = let all = rule_valid is valid in (record { formed = all.0; fits = all.1 }, all.2)

binding_formed : {from to : List Lexeme} {bound : List ℕ × Value} → IsBinding from bound to → AllWritten from → (is_formed_binding bound ≡ true) × AllWritten to
binding_formed {to = to} {bound = bound} is valid =
    let head = subst AllWritten is.begins valid in
    let value = constant_valid is.given bound.1 to head.1.1 is.value in
    let name = identifier_valid bound.0 (head.0 (λ e. cc)) in
    let constant = value.0 in
    (λ j. name j && constant j, value.1)

bound_formed : Forms IsBound (λ bound. is_formed_binding bound ≡ true)
bound_formed from to bound is valid = let both = binding_formed is.binding valid in (both.0, (subst AllWritten is.ends both.1).1)

next_value_formed : Forms IsNextValue (λ value. is_constant value ≡ true)
next_value_formed from to value is valid = constant_valid is.given value to (subst AllWritten is.begins valid).1 is.reads

inputs_are : (name : List ℕ) (first : Value) (rest : List Value) → is_identifier name ≡ true → is_constant first ≡ true → list_all is_constant rest ≡ true → is_formed_inputs (record { 0 = name }, first ∷ rest) ≡ true
inputs_are name first rest named one more =
    let some : nat_lt 0 (suc (length rest)) ≡ true = grind (arith, nat_tests) in
    λ j. named j && some j && (one j && more j)

input_formed : Forms IsInput (λ input. is_formed_inputs input ≡ true)
input_formed from to input is valid =
    let head = subst AllWritten is.begins valid in
    let name = identifier_valid input.0.0 (head.0 (λ e. cc)) in
    let first = constant_valid is.given is.values.first is.values.more head.1.1 is.values.reads in
    let rest = many_formed (λ value. is_constant value ≡ true) next_value_formed is.values.others first.1 in
    let all = inputs_are input.0.0 is.values.first is.values.rest name first.0 (to_test is_constant is.values.rest rest.0) in
    (subst (λ values. is_formed_inputs (input.0, values) ≡ true) (sym is.values.are) all, (subst AllWritten is.ends rest.1).1)

change_formed : {version : ℕ} {from to : List Lexeme} {change : PlainChange} → IsChange version inside_limit from change to → AllWritten from → IsFormedChange version change × AllWritten to
change_formed {version} {to = to} (adds_rule {given = given} {rule = rule} begins is) valid = rule_formed version given to rule is (subst AllWritten begins valid).1
change_formed (drops {name = name} begins) valid = let head = subst AllWritten begins valid in (identifier_valid name (head.1.0 (λ e. cc)), head.1.1)
change_formed (sets begins is) valid = binding_formed is (subst AllWritten begins valid).1

bounded : (most n : ℕ) (digits : List ℕ) → number_up_to most digits ≡ Some n → n ≤ most
bounded most n digits found = go (nat_le (digits_value 10 digits) most) refl found
  where
    go : (fits : Bool) → nat_le (digits_value 10 digits) most ≡ fits → cond fits (Some (digits_value 10 digits)) None ≡ Some n → n ≤ most
    go true is found = let same : digits_value 10 digits ≡ n = cc in let small = leb-true (digits_value 10 digits) most is in omega arith
    go false is found = absurd cc

timed_formed : (version : ℕ) → Forms (IsTimed version) (IsFormedTimed version)
timed_formed version from to timed is valid =
    let change = change_formed is.change (subst AllWritten is.begins valid).1.1 in
    (record { after = bounded largest timed.after is.digits is.after; change = change.0 }, change.1)

term_formed : {version : ℕ} {from to : List Lexeme} {whole : Term} → IsChoreography version inside_limit from whole to → AllWritten from → (IsFormedTerm whole × BodyFits version whole) × AllWritten to
term_formed is valid =
    let parts = stands_valid is.stands valid in
    ((record { indices = stands_marked is.stands; parts = parts.0; depth = is.shallow }, stands_fits is.stands), parts.1)

pub section_formed : {version : ℕ} {from to : List Lexeme} {section : Section} → IsSection version from section to → AllWritten from → IsFormedSection version section × AllWritten to
section_formed (aioc begins is closes) valid =
    let all = term_formed is (subst AllWritten begins valid).1.1 in (all.0, (subst AllWritten closes all.1).1)
section_formed {version} (rules begins stand closes) valid =
    let all = many_formed (IsRuleOf version) (rule_formed version) stand (subst AllWritten begins valid).1.1 in (all.0, (subst AllWritten closes all.1).1)
section_formed (environment begins stand closes) valid =
    let all = many_formed (λ bound. is_formed_binding bound ≡ true) bound_formed stand (subst AllWritten begins valid).1.1 in (all.0, (subst AllWritten closes all.1).1)
section_formed (inputs begins stand closes) valid =
    let all = many_formed (λ input. is_formed_inputs input ≡ true) input_formed stand (subst AllWritten begins valid).1.1 in (all.0, (subst AllWritten closes all.1).1)
section_formed {version} (script begins stand closes) valid =
    let all = many_formed (IsFormedTimed version) (timed_formed version) stand (subst AllWritten begins valid).1.1 in (all.0, (subst AllWritten closes all.1).1)
section_formed (trace begins stand closes) valid =
    let all = trace_formed (subst AllWritten begins valid).1.1 stand in ((all.0, all.1), (subst AllWritten closes all.2).1)

-- what sections have that are formed
record IsFormedJoined (version : ℕ) (found : Joined) : Type 0 where
  choreos : AllByRecursion (λ whole. IsFormedTerm whole × BodyFits version whole) found.choreos
  rules : AllByRecursion (IsRuleOf version) found.rules
  env : AllByRecursion (λ bound. is_formed_binding bound ≡ true) found.env
  inputs : AllByRecursion (λ input. is_formed_inputs input ≡ true) found.inputs
  script : AllByRecursion (IsFormedTimed version) found.script
  traces : AllByRecursion IsFormedTrace found.traces

with_formed : (version : ℕ) (section : Section) (others : List Section) → IsFormedSection version section → IsFormedJoined version (joined_sections others) → IsFormedJoined version (joined_sections (section ∷ others))
with_formed version (Aioc whole) others one more = record { choreos = (one, more.choreos); rules = more.rules; env = more.env; inputs = more.inputs; script = more.script; traces = more.traces }
with_formed version (Rules items) others one more = record {
  choreos = more.choreos;
  rules = all_both (IsRuleOf version) items (joined_sections others).rules one more.rules;
  env = more.env;
  inputs = more.inputs;
  script = more.script;
  traces = more.traces;
}
with_formed version (Environment items) others one more = record {
  choreos = more.choreos;
  rules = more.rules;
  env = all_both (λ bound. is_formed_binding bound ≡ true) items (joined_sections others).env one more.env;
  inputs = more.inputs;
  script = more.script;
  traces = more.traces;
}
with_formed version (Inputs items) others one more = record {
  choreos = more.choreos;
  rules = more.rules;
  env = more.env;
  inputs = all_both (λ input. is_formed_inputs input ≡ true) items (joined_sections others).inputs one more.inputs;
  script = more.script;
  traces = more.traces;
}
with_formed version (Script items) others one more = record {
  choreos = more.choreos;
  rules = more.rules;
  env = more.env;
  inputs = more.inputs;
  script = all_both (IsFormedTimed version) items (joined_sections others).script one more.script;
  traces = more.traces;
}
with_formed version (Traced found) others one more = record { choreos = more.choreos; rules = more.rules; env = more.env; inputs = more.inputs; script = more.script; traces = (one, more.traces) }

joined_formed : {version : ℕ} {from to : List Lexeme} {sections : List Section} → Many (IsSection version) from sections to → AllWritten from → IsFormedJoined version (joined_sections sections)
joined_formed no_more valid = record { choreos = tt; rules = tt; env = tt; inputs = tt; script = tt; traces = tt }
joined_formed {version} (one_more {first = first} {rest = rest} r s) valid =
    let one = section_formed r valid in with_formed version first rest one.0 (joined_formed s one.1)

-- the rules that a script adds, and their numbers
rules_added : (version : ℕ) (script : List PlainTimed) → AllByRecursion (IsFormedTimed version) script → AllByRecursion (IsRuleOf version) (added_rules script)
rules_added version [] all = tt
rules_added version (first ∷ rest) all = by_change first.change all.0.change (rules_added version rest all.1)
  where
    by_change : (change : PlainChange) → IsFormedChange version change → AllByRecursion (IsRuleOf version) (added_rules rest) → AllByRecursion (IsRuleOf version) (added_rules (record { after = first.after; change = change } ∷ rest))
    by_change (Add rule) one more = (one, more)
    by_change (Drop name) one more = more
    by_change (Env key value) one more = more

pub numbers_added : (number : ℕ) (script : List PlainTimed) → adds (numbered number script) ≡ numbers_from number (length (added_rules script))
numbers_added number [] = refl
numbers_added number (first ∷ rest) = by_change (λ n. numbers_added n rest) first.change
  where
    by_change : ((n : ℕ) → adds (numbered n rest) ≡ numbers_from n (length (added_rules rest))) → (change : PlainChange)
        → adds (numbered number (record { after = first.after; change = change } ∷ rest)) ≡ numbers_from number (length (added_rules (record { after = first.after; change = change } ∷ rest)))
    by_change more (Add rule) = let next : number + 1 ≡ suc number = omega arith in ap (λ numbers. number ∷ numbers) (more (number + 1) ∙ ap (λ n. numbers_from n (length (added_rules rest))) next)
    by_change more (Drop name) = let same : number + 0 ≡ number = omega arith in more (number + 0) ∙ ap (λ n. numbers_from n (length (added_rules rest))) same
    by_change more (Env key value) = let same : number + 0 ≡ number = omega arith in more (number + 0) ∙ ap (λ n. numbers_from n (length (added_rules rest))) same

script_formed : (version number : ℕ) (script : List PlainTimed) → AllByRecursion (IsFormedTimed version) script → list_all is_formed_timed (numbered number script) ≡ true
script_formed version number [] all = refl
script_formed version number (first ∷ rest) all =
    let small = le-leb first.after largest all.0.after in
    let one = by_change first.change all.0.change in
    let more = script_formed version (number + count_added first.change) rest all.1 in
    λ j. (small j && one j) && more j
  where
    by_change : (change : PlainChange) → IsFormedChange version change → is_formed_change (numbered_change number change) ≡ true
    by_change (Add rule) one = refl
    by_change (Drop name) one = one
    by_change (Env key value) one = one

-- the version
first_of : {version : ℕ} {test : Bool} → version ≡ 1 → (version ≡ 2) ⊎ (test ≡ true) → test ≡ true
first_of one (inl two) = absurd (omega arith)
first_of one (inr is) = is

no_rank : {version : ℕ} (rule : PlainRule) → version ≡ 1 → FitsVersion version rule → has_no_priority rule ≡ true
no_rank rule one (inl two) = absurd (omega arith)
no_rank rule one (inr fits) = let rank = ap (λ z. int_eq z (pos 0)) fits.0 in let body = fits.1 in λ j. rank j && body j

version_formed : {from to : List Lexeme} {version : ℕ} (b : PlainBundle) → HasVersion from version to → BodyFits version b.choreo → AllByRecursion (IsRuleOf version) b.rules → IsOfVersion version b
version_formed b first_version choreo all =
    inl (refl, first_of refl choreo, to_test has_no_priority b.rules (all_mapped (IsRuleOf 1) (λ rule. has_no_priority rule ≡ true) (λ rule is. no_rank rule refl is.fits) b.rules all))
version_formed b (second_version begins two) choreo all = inr refl

-- the one trace, or the empty one
only_formed : (traces : List Trace) (found : Trace) → AllByRecursion IsFormedTrace traces → IsOnly traces found → IsFormedTrace found
only_formed [] found all is = subst IsFormedTrace (sym is) (refl, refl)
only_formed (only ∷ []) found all is = subst IsFormedTrace (sym is) all.0
only_formed (first ∷ second ∷ rest) found all is = absurd is

pub bundle_formed : (from to : List Lexeme) (b : PlainBundle) → IsBundle from b to → AllWritten from → IsFormed b
bundle_formed from to b is valid =
    let inside = version_left is.version valid in
    let all = joined_formed is.stand inside in
    let found = joined_sections is.sections in
    let choreo = (subst (AllByRecursion (λ whole. IsFormedTerm whole × BodyFits b.version whole)) is.made.choreo all.choreos).0 in
    let rules = subst (AllByRecursion (IsRuleOf b.version)) (sym is.made.rules) (all_both (IsRuleOf b.version) found.rules (added_rules found.script) all.rules (rules_added b.version found.script all.script)) in
    let counts = ap length is.made.rules ∙ length-append found.rules (added_rules found.script) in
    let opening = is.made.opening in
    let last = only_formed found.traces b.trace all.traces is.made.trace in
    record {
      version = version_formed b is.version choreo.1 rules;
      cast = is.made.cast;
      choreo = choreo.0;
      rules = All-from_recursion IsFormedRule b.rules (all_mapped (IsRuleOf b.version) IsFormedRule (λ rule is. is.formed) b.rules rules);
      opening = omega arith;
      added = ap adds is.made.script ∙ numbers_added (length found.rules) found.script ∙ ap (λ n. numbers_from n (length (added_rules found.script))) (sym opening) ∙ ap (numbers_from b.opening) (let left : length (added_rules found.script) ≡ length b.rules - b.opening = omega arith in left);
      env = subst (λ env. list_all is_formed_binding env ≡ true) (sym is.made.env) (to_test is_formed_binding found.env all.env);
      inputs = subst (λ given. list_all is_formed_inputs given ≡ true) (sym is.made.inputs) (to_test is_formed_inputs found.inputs all.inputs);
      script = subst (λ script. list_all is_formed_timed script ≡ true) (sym is.made.script) (script_formed b.version (length found.rules) found.script all.script);
      trace = last.0;
      last = last.1;
    }
  where
    version_left : {from to : List Lexeme} {version : ℕ} → HasVersion from version to → AllWritten from → AllWritten to
    version_left first_version valid = valid
    version_left (second_version begins two) valid = (subst AllWritten begins valid).1.1

pub spelled_formed : (bytes : List ℕ) (b : PlainBundle) → Spells bytes b → IsFormed b
spelled_formed bytes b is = bundle_formed is.reads.found [] b is.reads.bundle (all_valid bytes is.reads.found is.reads.lexemes)

pub read_formed : (bytes : List ℕ) (found : List Lexeme) (b : PlainBundle) → HasLexemes bytes found → IsBundle found b [] → IsFormed b
read_formed bytes found b lexemes is = bundle_formed found [] b is (all_valid bytes found lexemes)
