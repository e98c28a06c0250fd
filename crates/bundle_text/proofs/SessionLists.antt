-- At most one list of sessions is spelled by a text, each bundle is formed, and none is spelled where a
-- reader stopped.
use Rattle.std.proofs.Common.{◌≡◌, ℕ, ◌+◌, ◌<◌, ◌≤◌, ◌⊎◌, inl, inr, List, [], ◌∷◌, ◌++◌, length, map, drop, refl, ap, sym, ◌∙◌, subst, arith, length-drop, length-append, drop-drop, All}
use Rattle.std.specs.List.{AllByRecursion}
use Rattle.std.proofs.lemmas.List.Elements.{All-from_recursion}
use Rattle.limits.specs.Limits.{most_sessions}
use Rattle.dioc_terms.specs.declared.bundles.Bundle.{Bundle}
use Rattle.dioc_terms.specs.declared.bundles.Trace.{Trace}
use Rattle.dioc_terms.specs.Bundles.{IsFormed}
use Rattle.dioc_terms.specs.Plain.{PlainBundle, plain}
use Rattle.dioc_terms.specs.Terms.{Term}
use Rattle.aioc_tokens.specs.declared.words.Punctuator.TheVariants as punctuator
use Rattle.aioc_tokens.specs.declared.words.Sort.TheVariants as sorts
use Rattle.aioc_tokens.specs.Lexing.{Breaks}
use Rattle.aioc_tokens.specs.Lexemes.{Lexeme, sort_of, lexemes, HasLexemes}
use Rattle.aioc_tokens.proofs.Readings.{one_reading}
use Rattle.aioc_tokens.proofs.Unique.{tokens_or_bad_byte}
use Rattle.expr_syntax.proofs.ReadFormed.{all_valid}
use Rattle.bundle_text.specs.Many.{Many, one_more}
use Rattle.bundle_text.specs.Grammar.{closed_before, Section, IsSection, aioc, rules, environment, inputs, script, trace, joined_sections, IsOnly, IsMadeOf, HasVersion, first_version, second_version, IsBundle}
use Rattle.bundle_text.specs.Sessions.{IsSession, SpellsSessions, SpellsNoSessions, EndsInBrackets, before_close, at_close, EndsInSession, no_session, in_bundle, EndsAmongSessions, SessionsEndAtByte, too_long, bad_byte, at_token}
use Rattle.bundle_text.proofs.FormedParts.{IsFormedSection}
use Rattle.bundle_text.proofs.Formed.{AllWritten, Forms, many_formed, section_formed, bundle_formed}
use Rattle.bundle_text.proofs.Repeated.{OneEach, NoneAt, Behind, many_behind, many_same, ended}
use Rattle.bundle_text.proofs.Unique.{sections_each, first_section, one_version, made_same}
use Rattle.bundle_text.proofs.Found.{section_none}
use Rattle.bundle_text.proofs.Joins.{no_second}

-- no section begins at a `}`
closed_section : {version : ℕ} {from : List Lexeme} → sort_of from ≡ sorts.Symbol punctuator.RightBrace → NoneAt (IsSection version) from
closed_section closes from2 is section to reads = go (ap sort_of is ∙ closes) reads
  where
    go : {version : ℕ} {from to : List Lexeme} {section : Section} → sort_of from ≡ sorts.Symbol punctuator.RightBrace → IsSection version from section to → ⊥
    go closes (aioc begins is end) = let s = sym (ap sort_of begins) ∙ closes in cc
    go closes (rules begins stand end) = let s = sym (ap sort_of begins) ∙ closes in cc
    go closes (environment begins stand end) = let s = sym (ap sort_of begins) ∙ closes in cc
    go closes (inputs begins stand end) = let s = sym (ap sort_of begins) ∙ closes in cc
    go closes (script begins stand end) = let s = sym (ap sort_of begins) ∙ closes in cc
    go closes (trace begins stand end) = let s = sym (ap sort_of begins) ∙ closes in cc

-- a bundle in brackets
bundles_same : (from : List Lexeme) (b other : PlainBundle) (to end : List Lexeme) → IsBundle from b (closed_before to) → IsBundle from other (closed_before end) → (b ≡ other) × (to ≡ end)
bundles_same from b other to end is is2 =
    let first = first_section is.stand is.made.choreo in
    let second = first_section is2.stand is2.made.choreo in
    let begins = one_version refl is.version is2.version first.reads second.reads in
    let stand = subst (λ n. Many (IsSection n) is.inside is.sections (closed_before to)) begins.0 is.stand in
    let all = many_same sections_each (closed_section refl) (closed_section refl) begins.1 stand is2.stand in
    (made_same (joined_sections is2.sections) b other begins.0 (subst (λ sections. IsMadeOf (joined_sections sections) b) all.0 is.made) is2.made, ap (drop 1) all.1)

sessions_each : OneEach IsSession
sessions_each from from2 to end b other froms is is2 =
    let inside : is.inside ≡ is2.inside = ap (drop 2) (sym is.begins ∙ froms ∙ is2.begins) in
    bundles_same is2.inside b other to end (subst (λ l. IsBundle l b (closed_before to)) inside is.bundle) is2.bundle

-- a session has a token
over : NoneAt IsSession []
over from is b to reads = let s = ap sort_of (sym is ∙ reads.begins) in cc

pub one_list : (bytes : List ℕ) (sessions others : List PlainBundle) → SpellsSessions bytes sessions → SpellsSessions bytes others → sessions ≡ others
one_list bytes sessions others is is2 = (many_same sessions_each over over (one_reading bytes is.found is2.found is.lexemes is2.lexemes) is.stand is2.stand).0

-- each bundle of the sessions is formed
version_left : {from to : List Lexeme} {version : ℕ} → HasVersion from version to → AllWritten from → AllWritten to
version_left first_version valid = valid
version_left (second_version begins two) valid = (subst AllWritten begins valid).1.1

session_formed : Forms IsSession IsFormed
session_formed from to b is valid =
    let inside = (subst AllWritten is.begins valid).1.1 in
    let left = many_formed (IsFormedSection b.version) (λ f t section r v. section_formed r v) is.bundle.stand (version_left is.bundle.version inside) in
    (bundle_formed is.inside (closed_before to) b is.bundle inside, left.1.1)

of_plain : (bundles : List Bundle) → AllByRecursion IsFormed (map plain bundles) → AllByRecursion (λ b. IsFormed (plain b)) bundles
of_plain [] all = tt
of_plain (first ∷ rest) all = (all.0, of_plain rest all.1)

pub sessions_formed : (bytes : List ℕ) (found : List Lexeme) (bundles : List Bundle) → HasLexemes bytes found → Many IsSession found (map plain bundles) [] → All (λ b. IsFormed (plain b)) bundles
sessions_formed bytes found bundles lexemes stand =
    All-from_recursion (λ b. IsFormed (plain b)) bundles (of_plain bundles (many_formed IsFormed session_formed stand (all_valid bytes found lexemes)).0)

-- where the reading of a bundle in brackets ends, none stands
no_sections : {version : ℕ} {text : List Lexeme} {at place : ℕ} → EndsInBrackets version text at place → (sections : List Section) (choreo : Term) (only : Trace) (to : List Lexeme) → Many (IsSection version) (drop at text) sections (closed_before to)
    → (joined_sections sections).choreos ≡ choreo ∷ [] → IsOnly (joined_sections sections).traces only → ⊥
no_sections {version} {text} {at} {place} (before_close e) sections choreo only to stand one last = by_rest more.rest more.are more.stand
  where
    more : Behind (IsSection version) e.sections sections (drop e.next text) (closed_before to)
    more = many_behind sections_each (closed_section refl) refl e.stand stand

    by_rest : (rest : List Section) → sections ≡ e.sections ++ rest → Many (IsSection version) (drop e.next text) rest (closed_before to) → ⊥
    by_rest [] are s = e.no_close (ap sort_of (ended s refl))
    by_rest (first ∷ rest) are (one_more {middle = middle} r s) =
        no_second first e.sections rest choreo only (section_none version text e.next (joined_sections e.sections) place e.ends first middle r) (sym (ap (λ all. (joined_sections all).choreos) are) ∙ one)
        (subst (λ all. IsOnly (joined_sections all).traces only) are last)
no_sections (at_close stand closed none) sections choreo only to stand2 one last =
    let all = many_same sections_each (closed_section closed) (closed_section refl) refl stand stand2 in
    let same : [] ≡ choreo ∷ [] = sym none ∙ ap (λ list. (joined_sections list).choreos) all.0 ∙ one in
    cc

session_none : {text : List Lexeme} {at place : ℕ} → EndsInSession text at place → (b : PlainBundle) (to : List Lexeme) → IsSession (drop at text) b to → ⊥
session_none (no_session here none) b to is = none is.inside is.begins
session_none {text} {at} {place} (in_bundle {version = version} {skipped = skipped} begins finds ends) b to is =
    let inside : is.inside ≡ drop (at + 2) text = ap (drop 2) (sym is.begins ∙ begins) in
    let bundle : IsBundle (drop (at + 2) text) b (closed_before to) = subst (λ l. IsBundle l b (closed_before to)) inside is.bundle in
    let first = first_section bundle.stand bundle.made.choreo in
    let same = finds.only b.version bundle.inside first.to first.section bundle.version first.reads in
    let stand = subst (λ n. Many (IsSection n) bundle.inside bundle.sections (closed_before to)) same.0 bundle.stand in
    no_sections ends bundle.sections b.choreo b.trace to (subst (λ l. Many (IsSection version) l bundle.sections (closed_before to)) (same.1 ∙ drop-drop skipped (at + 2) text) stand) bundle.made.choreo bundle.made.trace

sessions_none : (text : List Lexeme) (place : ℕ) → EndsAmongSessions text place → (others : List PlainBundle) → Many IsSession text others [] → 0 < length others → length others ≤ most_sessions → ⊥
sessions_none text place e others stand some few = by_rest more.rest more.are more.stand
  where
    more : Behind IsSession e.sessions others (drop e.next text) []
    more = many_behind sessions_each over refl e.stand stand

    at_end : (e.next < length text) ⊎ (e.sessions ≡ []) → drop e.next text ≡ [] → length others ≡ length e.sessions → ⊥
    at_end (inl inside) none same = omega (arith, length-drop e.next text, ap length none)
    at_end (inr none) nothing same = omega (arith, ap length none)

    further_one : EndsInSession text e.next place ⊎ ((place ≡ e.next) × (most_sessions ≤ length e.sessions)) → (first : PlainBundle) (rest : List PlainBundle) (middle : List Lexeme) → IsSession (drop e.next text) first middle → length others ≡ length e.sessions + length (first ∷ rest) → ⊥
    further_one (inl ends) first rest middle r counts = session_none ends first middle r
    further_one (inr full) first rest middle r counts = let many = full.1 in omega arith

    by_rest : (rest : List PlainBundle) → others ≡ e.sessions ++ rest → Many IsSession (drop e.next text) rest [] → ⊥
    by_rest [] are s = at_end e.more (ended s refl) (omega (arith, ap length are, length-append e.sessions []))
    by_rest (first ∷ rest) are (one_more {middle = middle} r s) = further_one e.ends first rest middle r (ap length are ∙ length-append e.sessions (first ∷ rest))

pub bad_byte_no_sessions : (bytes : List ℕ) (at : ℕ) → Breaks 0 bytes at → SpellsNoSessions bytes
bad_byte_no_sessions bytes at breaks sessions is = tokens_or_bad_byte 0 bytes is.lexemes.tokens at is.lexemes.lexes breaks

-- where the reading of bytes ends, they spell no sessions
pub byte_no_sessions : (bytes : List ℕ) (byte : ℕ) → SessionsEndAtByte bytes byte → SpellsNoSessions bytes
byte_no_sessions bytes byte (too_long long here) = λ sessions is. let small = is.small in omega arith
byte_no_sessions bytes byte (bad_byte small breaks) = bad_byte_no_sessions bytes byte breaks
byte_no_sessions bytes byte (at_token {tokens = tokens} {place = place} small lexes ends here) = λ sessions is.
    sessions_none (lexemes bytes tokens) place ends sessions
    (subst (λ list. Many IsSession list sessions []) (one_reading bytes is.found (lexemes bytes tokens) is.lexemes (record { tokens = tokens; lexes = lexes; lexemes_are = refl })) is.stand) is.some is.few
