-- At most one of each part of a bundle stands at a place, and a text spells at most one bundle.
use Rattle.std.proofs.Common.{◌≡◌, ◌≢◌, ℕ, List, [], ◌∷◌, length, drop, get_or, codes, refl, ap, sym, ◌∙◌, subst, arith}
use Rattle.dioc_terms.specs.declared.names.Role.{Role}
use Rattle.dioc_terms.specs.declared.values.Value.{Value}
use Rattle.dioc_terms.specs.declared.bundles.Trace.{Trace}
use Rattle.dioc_terms.specs.Terms.{Term, cast_of}
use Rattle.dioc_terms.specs.Plain.{PlainRule, PlainBundle}
use Rattle.aioc_tokens.specs.declared.words.Punctuator.TheVariants as punctuator
use Rattle.aioc_tokens.specs.declared.words.Sort.TheVariants as sorts
use Rattle.aioc_tokens.specs.Lexemes.{Lexeme, Name, Number, Symbol, sort_of}
use Rattle.aioc_tokens.proofs.Readings.{one_reading}
use Rattle.expr_syntax.specs.Constants.{number_up_to}
use Rattle.dioc_syntax.specs.Choreographies.{IsChoreography}
use Rattle.dioc_syntax.proofs.Tables.{choreography_goes}
use Rattle.dioc_syntax.proofs.Compare.{settle, compare, constant_same}
use Rattle.rule_syntax.specs.Grammar.{IsRule}
use Rattle.rule_syntax.proofs.Unique.{some_same, rules_same, bindings_same, changes_same}
use Rattle.trace_syntax.specs.Grammar.{IsTrace}
use Rattle.trace_syntax.proofs.TraceLaws.{one_trace}
use Rattle.bundle_text.specs.Many.{Many, no_more, one_more}
use Rattle.bundle_text.specs.Grammar.{inside_limit, IsBound, IsNextValue, AreValues, IsInput, PlainTimed, IsTimed, Section, Aioc, Rules, Environment, Inputs, Script, closed_before, IsSection, aioc, rules, environment, inputs, script, trace, Joined, joined_sections, IsOnly, IsMadeOf, HasVersion, first_version, second_version, IsBundle, Spells, Traced}
use Rattle.bundle_text.proofs.Repeated.{OneEach, NoneAt, many_same}

pub rules_each : {version : ℕ} → OneEach (IsRule version inside_limit)
rules_each from from2 to end rule other froms is is2 = rules_same froms is is2

pub bounds_each : OneEach IsBound
bounds_each from from2 to end bound other froms is is2 =
    let both = bindings_same froms is.binding is2.binding in
    (both.0, ap (drop 1) (sym is.ends ∙ both.1 ∙ is2.ends))

pub values_each : OneEach IsNextValue
values_each from from2 to end value other froms is is2 = constant_same (ap (drop 1) (sym is.begins ∙ froms ∙ is2.begins)) is.reads is2.reads

-- no value goes on at a `;`
pub no_value : {from to : List Lexeme} → from ≡ Symbol punctuator.Semicolon ∷ to → NoneAt IsNextValue from
no_value ends from2 is value to reads = let s = ap sort_of (sym reads.begins ∙ is ∙ ends) in cc

pub values_same : {from from2 to to2 behind behind2 : List Lexeme} {values others : List Value} → from ≡ from2 → behind ≡ Symbol punctuator.Semicolon ∷ to → behind2 ≡ Symbol punctuator.Semicolon ∷ to2 → AreValues from values behind → AreValues from2 others behind2
    → (values ≡ others) × (behind ≡ behind2)
values_same froms ends ends2 is is2 =
    let first = constant_same froms is.reads is2.reads in
    let rest = many_same values_each (no_value ends) (no_value ends2) first.1 is.others is2.others in
    (is.are ∙ (λ j. first.0 j ∷ rest.0 j) ∙ sym is2.are, rest.1)

pub inputs_each : OneEach IsInput
inputs_each from from2 to end input other froms is is2 =
    let heads : Name input.0.0 ∷ Symbol punctuator.Colon ∷ is.given ≡ Name other.0.0 ∷ Symbol punctuator.Colon ∷ is2.given = sym is.begins ∙ froms ∙ is2.begins in
    let name : input.0.0 ≡ other.0.0 = cc in
    let given : is.given ≡ is2.given = cc in
    let values = values_same given is.ends is2.ends is.values is2.values in
    (λ j. (record { 0 = name j }, values.0 j), ap (drop 1) (sym is.ends ∙ values.1 ∙ is2.ends))

pub timed_each : {version : ℕ} → OneEach (IsTimed version)
timed_each from from2 to end timed other froms is is2 =
    let heads : Name (codes "after") ∷ Number is.digits ∷ is.given ≡ Name (codes "after") ∷ Number is2.digits ∷ is2.given = sym is.begins ∙ froms ∙ is2.begins in
    let digits : is.digits ≡ is2.digits = cc in
    let given : is.given ≡ is2.given = cc in
    let after : timed.after ≡ other.after = some_same (sym is.after ∙ ap (number_up_to 9223372036854775807) digits ∙ is2.after) in
    let changes = changes_same given is.change is2.change in
    (λ j. record { after = after j; change = changes.0 j }, changes.1)

-- nothing stands at a `}`
pub rule_never : {version : ℕ} (from : List Lexeme) (rule : PlainRule) (to : List Lexeme) → IsRule version inside_limit from rule to → sort_of from ≢ sorts.Symbol punctuator.RightBrace
rule_never from rule to is closes = let s = ap sort_of is.begins in cc

pub bound_never : (from : List Lexeme) (bound : List ℕ × Value) (to : List Lexeme) → IsBound from bound to → sort_of from ≢ sorts.Symbol punctuator.RightBrace
bound_never from bound to is closes = let s = ap sort_of is.binding.begins in cc

pub input_never : (from : List Lexeme) (input : Role × List Value) (to : List Lexeme) → IsInput from input to → sort_of from ≢ sorts.Symbol punctuator.RightBrace
input_never from input to is closes = let s = ap sort_of is.begins in cc

pub timed_never : {version : ℕ} (from : List Lexeme) (timed : PlainTimed) (to : List Lexeme) → IsTimed version from timed to → sort_of from ≢ sorts.Symbol punctuator.RightBrace
timed_never from timed to is closes = let s = ap sort_of is.begins in cc

none_closed : {A : Type 0} {Reads : List Lexeme → A → List Lexeme → Type 0} {behind to : List Lexeme} → ((from : List Lexeme) (item : A) (to : List Lexeme) → Reads from item to → sort_of from ≢ sorts.Symbol punctuator.RightBrace) → behind ≡ closed_before to
    → NoneAt Reads behind
none_closed never closes from is item to reads = never from item to reads (ap sort_of (is ∙ closes))

items_same : {A : Type 0} {Reads : List Lexeme → A → List Lexeme → Type 0} {first second : Lexeme} {from from2 inside inside2 behind behind2 to end : List Lexeme} {items others : List A} → OneEach Reads
    → ((from : List Lexeme) (item : A) (to : List Lexeme) → Reads from item to → sort_of from ≢ sorts.Symbol punctuator.RightBrace) → from ≡ from2 → from ≡ first ∷ second ∷ inside → from2 ≡ first ∷ second ∷ inside2
    → Many Reads inside items behind → Many Reads inside2 others behind2 → behind ≡ closed_before to → behind2 ≡ closed_before end → (items ≡ others) × (to ≡ end)
items_same one never froms begins begins2 stand stand2 closes closes2 =
    let both = many_same one (none_closed never closes) (none_closed never closes2) (ap (drop 2) (sym begins ∙ froms ∙ begins2)) stand stand2 in
    (both.0, ap (drop 1) (sym closes ∙ both.1 ∙ closes2))

-- a choreography in brackets
pub choreographies_same : {version : ℕ} {from from2 behind behind2 to end : List Lexeme} {whole other : Term} → from ≡ from2 → IsChoreography version inside_limit from whole behind → IsChoreography version inside_limit from2 other behind2
    → behind ≡ closed_before to → behind2 ≡ closed_before end → (whole ≡ other) × (to ≡ end)
choreographies_same {from2 = from2} {behind2 = behind2} {other = other} froms is is2 closes closes2 =
    let both = settle (compare is.stands inside_limit 0 from2 behind2 other refl refl froms is2.stands) (ap (λ l. choreography_goes (sort_of l)) closes) (ap (λ l. choreography_goes (sort_of l)) closes2) in
    (both.0, ap (drop 1) (sym closes ∙ both.1 ∙ closes2))

-- the lines of a trace in brackets
traces_same : {from from2 behind behind2 to end : List Lexeme} {found other : Trace} → from ≡ from2 → IsTrace from found.entries found.last behind → IsTrace from2 other.entries other.last behind2 → behind ≡ closed_before to → behind2 ≡ closed_before end
    → (found ≡ other) × (to ≡ end)
traces_same {from} {from2} {behind} {behind2} {found = found} {other = other} froms is is2 closes closes2 =
    let same = one_trace from2 behind behind2 found.entries other.entries found.last other.last (record { lines = subst (λ list. IsTrace list found.entries found.last behind) froms is; closes = ap sort_of closes }) (record { lines = is2; closes = ap sort_of closes2 }) in
    (λ j. record { entries = same.0 j; last = same.1 j }, ap (drop 1) (sym closes ∙ same.2 ∙ closes2))

-- the first letter of a section's word, which tells its kind; that of `aioc` is a reserved word and counts as 0
abbrev pub letter_of : Section → ℕ
letter_of (Aioc whole) = 0
letter_of (Rules items) = 114
letter_of (Environment items) = 101
letter_of (Inputs items) = 105
letter_of (Script items) = 115
letter_of (Traced found) = 116

-- the first letter of a name at the front
abbrev pub letter : List Lexeme → ℕ
letter (Name name ∷ others) = get_or name 0 0
letter _ = 0

pub section_letter : {version : ℕ} {from to : List Lexeme} {section : Section} → IsSection version from section to → letter from ≡ letter_of section
section_letter (aioc begins is closes) = ap letter begins
section_letter (rules begins stand closes) = ap letter begins
section_letter (environment begins stand closes) = ap letter begins
section_letter (inputs begins stand closes) = ap letter begins
section_letter (script begins stand closes) = ap letter begins
section_letter (trace begins stand closes) = ap letter begins

pub sections_same : {version : ℕ} {from from2 to end : List Lexeme} {section other : Section} → letter_of section ≡ letter_of other → from ≡ from2 → IsSection version from section to → IsSection version from2 other end → (section ≡ other) × (to ≡ end)
sections_same letters froms (aioc begins is closes) (aioc begins2 is2 closes2) =
    let both = choreographies_same (ap (drop 2) (sym begins ∙ froms ∙ begins2)) is is2 closes closes2 in (ap Aioc both.0, both.1)
sections_same letters froms (rules begins stand closes) (rules begins2 stand2 closes2) =
    let both = items_same rules_each rule_never froms begins begins2 stand stand2 closes closes2 in (ap Rules both.0, both.1)
sections_same letters froms (environment begins stand closes) (environment begins2 stand2 closes2) =
    let both = items_same bounds_each bound_never froms begins begins2 stand stand2 closes closes2 in (ap Environment both.0, both.1)
sections_same letters froms (inputs begins stand closes) (inputs begins2 stand2 closes2) =
    let both = items_same inputs_each input_never froms begins begins2 stand stand2 closes closes2 in (ap Inputs both.0, both.1)
sections_same letters froms (script begins stand closes) (script begins2 stand2 closes2) =
    let both = items_same timed_each timed_never froms begins begins2 stand stand2 closes closes2 in (ap Script both.0, both.1)
sections_same letters froms (trace begins stand closes) (trace begins2 stand2 closes2) =
    let both = traces_same (ap (drop 2) (sym begins ∙ froms ∙ begins2)) stand stand2 closes closes2 in (ap Traced both.0, both.1)
sections_same letters froms (aioc begins stand closes) (rules begins2 stand2 closes2) = absurd (omega arith)
sections_same letters froms (aioc begins stand closes) (environment begins2 stand2 closes2) = absurd (omega arith)
sections_same letters froms (aioc begins stand closes) (inputs begins2 stand2 closes2) = absurd (omega arith)
sections_same letters froms (aioc begins stand closes) (script begins2 stand2 closes2) = absurd (omega arith)
sections_same letters froms (rules begins stand closes) (aioc begins2 stand2 closes2) = absurd (omega arith)
sections_same letters froms (rules begins stand closes) (environment begins2 stand2 closes2) = absurd (omega arith)
sections_same letters froms (rules begins stand closes) (inputs begins2 stand2 closes2) = absurd (omega arith)
sections_same letters froms (rules begins stand closes) (script begins2 stand2 closes2) = absurd (omega arith)
sections_same letters froms (environment begins stand closes) (aioc begins2 stand2 closes2) = absurd (omega arith)
sections_same letters froms (environment begins stand closes) (rules begins2 stand2 closes2) = absurd (omega arith)
sections_same letters froms (environment begins stand closes) (inputs begins2 stand2 closes2) = absurd (omega arith)
sections_same letters froms (environment begins stand closes) (script begins2 stand2 closes2) = absurd (omega arith)
sections_same letters froms (inputs begins stand closes) (aioc begins2 stand2 closes2) = absurd (omega arith)
sections_same letters froms (inputs begins stand closes) (rules begins2 stand2 closes2) = absurd (omega arith)
sections_same letters froms (inputs begins stand closes) (environment begins2 stand2 closes2) = absurd (omega arith)
sections_same letters froms (inputs begins stand closes) (script begins2 stand2 closes2) = absurd (omega arith)
sections_same letters froms (script begins stand closes) (aioc begins2 stand2 closes2) = absurd (omega arith)
sections_same letters froms (script begins stand closes) (rules begins2 stand2 closes2) = absurd (omega arith)
sections_same letters froms (script begins stand closes) (environment begins2 stand2 closes2) = absurd (omega arith)
sections_same letters froms (script begins stand closes) (inputs begins2 stand2 closes2) = absurd (omega arith)
sections_same letters froms (aioc begins stand closes) (trace begins2 stand2 closes2) = absurd (omega arith)
sections_same letters froms (trace begins stand closes) (aioc begins2 stand2 closes2) = absurd (omega arith)
sections_same letters froms (rules begins stand closes) (trace begins2 stand2 closes2) = absurd (omega arith)
sections_same letters froms (trace begins stand closes) (rules begins2 stand2 closes2) = absurd (omega arith)
sections_same letters froms (environment begins stand closes) (trace begins2 stand2 closes2) = absurd (omega arith)
sections_same letters froms (trace begins stand closes) (environment begins2 stand2 closes2) = absurd (omega arith)
sections_same letters froms (inputs begins stand closes) (trace begins2 stand2 closes2) = absurd (omega arith)
sections_same letters froms (trace begins stand closes) (inputs begins2 stand2 closes2) = absurd (omega arith)
sections_same letters froms (script begins stand closes) (trace begins2 stand2 closes2) = absurd (omega arith)
sections_same letters froms (trace begins stand closes) (script begins2 stand2 closes2) = absurd (omega arith)

pub sections_each : {version : ℕ} → OneEach (IsSection version)
sections_each from from2 to end section other froms is is2 = sections_same (sym (section_letter is) ∙ ap letter froms ∙ section_letter is2) froms is is2

-- a section has a token
pub no_section : {version : ℕ} → NoneAt (IsSection version) []
no_section from is section to reads = go is reads
  where
    go : {version : ℕ} {from to : List Lexeme} {section : Section} → from ≡ [] → IsSection version from section to → ⊥
    go none (aioc begins is closes) = let s = ap sort_of (sym none ∙ begins) in cc
    go none (rules begins stand closes) = let s = ap sort_of (sym none ∙ begins) in cc
    go none (environment begins stand closes) = let s = ap sort_of (sym none ∙ begins) in cc
    go none (inputs begins stand closes) = let s = ap sort_of (sym none ∙ begins) in cc
    go none (script begins stand closes) = let s = ap sort_of (sym none ∙ begins) in cc
    go none (trace begins stand closes) = let s = ap sort_of (sym none ∙ begins) in cc

-- `version` begins no section
pub version_apart : {version : ℕ} {from rest to : List Lexeme} {section : Section} → from ≡ Name (codes "version") ∷ rest → IsSection version from section to → ⊥
version_apart {section = section} begins is = go section (sym (ap letter begins) ∙ section_letter is)
  where
    go : (section : Section) → ◌≡◌ {A = ℕ} 118 (letter_of section) → ⊥
    go (Aioc whole) same = omega arith
    go (Rules items) same = omega arith
    go (Environment items) same = omega arith
    go (Inputs items) same = omega arith
    go (Script items) same = omega arith
    go (Traced found) same = omega arith

-- the version, where a section follows it
pub one_version : {version version2 : ℕ} {from from2 inside inside2 to to2 : List Lexeme} {section section2 : Section} → from ≡ from2 → HasVersion from version inside → HasVersion from2 version2 inside2 → IsSection version inside section to
    → IsSection version2 inside2 section2 to2 → (version ≡ version2) × (inside ≡ inside2)
one_version froms first_version first_version is is2 = (refl, froms)
one_version froms first_version (second_version begins2 two2) is is2 = absurd (version_apart (froms ∙ begins2) is)
one_version froms (second_version begins two) first_version is is2 = absurd (version_apart (sym froms ∙ begins) is2)
one_version froms (second_version begins two) (second_version begins2 two2) is is2 = (refl, ap (drop 2) (sym begins ∙ froms ∙ begins2))

-- what a bundle is made of is one
only_same : (traces : List Trace) (found other : Trace) → IsOnly traces found → IsOnly traces other → found ≡ other
only_same [] found other is is2 = is ∙ sym is2
only_same (only ∷ []) found other is is2 = is ∙ sym is2
only_same (first ∷ second ∷ rest) found other is is2 = absurd is

pub made_same : (found : Joined) (b other : PlainBundle) → b.version ≡ other.version → IsMadeOf found b → IsMadeOf found other → b ≡ other
made_same found b other version is is2 =
    let terms : b.choreo ∷ [] ≡ other.choreo ∷ [] = sym is.choreo ∙ is2.choreo in
    let choreo : b.choreo ≡ other.choreo = cc in
    let cast = is.cast ∙ ap cast_of choreo ∙ sym is2.cast in
    let rule_lists = is.rules ∙ sym is2.rules in
    let opening = is.opening ∙ sym is2.opening in
    let env = is.env ∙ sym is2.env in
    let input_lists = is.inputs ∙ sym is2.inputs in
    let scripts = is.script ∙ sym is2.script in
    let last = only_same found.traces b.trace other.trace is.trace is2.trace in
    λ j. record {
      version = version j;
      cast = cast j;
      choreo = choreo j;
      rules = rule_lists j;
      opening = opening j;
      env = env j;
      inputs = input_lists j;
      script = scripts j;
      trace = last j;
    }

-- the first section of a bundle
pub record FirstSection (version : ℕ) (from : List Lexeme) : Type 0 where
  pub section : Section
  pub to : List Lexeme
  pub reads : IsSection version from section to

pub first_section : {version : ℕ} {from to : List Lexeme} {sections : List Section} {choreo : Term} → Many (IsSection version) from sections to → (joined_sections sections).choreos ≡ choreo ∷ [] → FirstSection version from
first_section no_more made = absurd (let lengths = ap length made in omega arith)
first_section (one_more {middle = middle} {first = first} r s) made = record { section = first; to = middle; reads = r }

pub one_bundle_at : (from : List Lexeme) (b other : PlainBundle) → IsBundle from b [] → IsBundle from other [] → b ≡ other
one_bundle_at from b other is is2 =
    let first = first_section is.stand is.made.choreo in
    let second = first_section is2.stand is2.made.choreo in
    let begins = one_version refl is.version is2.version first.reads second.reads in
    let stand = subst (λ n. Many (IsSection n) is.inside is.sections []) begins.0 is.stand in
    let all = many_same sections_each no_section no_section begins.1 stand is2.stand in
    made_same (joined_sections is2.sections) b other begins.0 (subst (λ sections. IsMadeOf (joined_sections sections) b) all.0 is.made) is2.made

pub one_bundle : (bytes : List ℕ) (b other : PlainBundle) → Spells bytes b → Spells bytes other → b ≡ other
one_bundle bytes b other is is2 =
    let found = one_reading bytes is.reads.found is2.reads.found is.reads.lexemes is2.reads.lexemes in
    one_bundle_at is2.reads.found b other (subst (λ list. IsBundle list b []) found is.reads.bundle) is2.reads.bundle
