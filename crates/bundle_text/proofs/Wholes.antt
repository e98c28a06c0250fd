-- Which lists of lexemes are a bundle, by what the readers of its parts found.
use Rattle.std.proofs.Common.{◌≡◌, ℕ, ◌+◌, ◌≤◌, List, [], ◌∷◌, length, drop, refl, ap, sym, ◌∙◌, subst, arith, length-drop}
use Rattle.dioc_terms.specs.Plain.{PlainBundle}
use Rattle.aioc_tokens.specs.declared.kinds.Token.{Token}
use Rattle.aioc_tokens.specs.Lexing.{Lexes, Breaks}
use Rattle.aioc_tokens.specs.Lexemes.{Lexeme, lexemes}
use Rattle.aioc_tokens.proofs.Readings.{one_reading}
use Rattle.aioc_tokens.proofs.Unique.{tokens_or_bad_byte}
use Rattle.bundle_text.specs.Many.{Many}
use Rattle.bundle_text.specs.Grammar.{IsSection, Joined, joined_sections, IsBundle, SpellsNone}
use Rattle.bundle_text.specs.Readers.{FindsVersion, TakesSections}
use Rattle.bundle_text.specs.Stops.{EndsBehind, in_section, over, EndsAt, EndsAtByte, too_long, bad_byte, at_token}
use Rattle.bundle_text.proofs.Missing.{NoSections}
use Rattle.bundle_text.proofs.Repeated.{many_same}
use Rattle.bundle_text.proofs.SectionSteps.{sections_none}
use Rattle.bundle_text.proofs.Shorter.{sections_few}
use Rattle.bundle_text.proofs.Unique.{sections_each, no_section, first_section}

module _ (text : List Lexeme) (version at : ℕ) where
  pub few_rules : (found : Joined) → TakesSections version (drop at text) found → length found.rules + length found.script ≤ length text
  few_rules found taken =
      let few = sections_few taken.stand in
      omega (arith, ap (λ (joins : Joined). length joins.rules) taken.joins, ap (λ (joins : Joined). length joins.script) taken.joins, length-drop at text)

  pub no_whole : FindsVersion text version at → NoSections version (drop at text) → (b : PlainBundle) → IsBundle text b [] → ⊥
  no_whole front none b is =
      let first = first_section is.stand is.made.choreo in
      let begins = front.only b.version is.inside first.to first.section is.version first.reads in
      let stand = subst (λ n. Many (IsSection n) is.inside is.sections []) begins.0 is.stand in
      none is.sections b.choreo b.trace (subst (λ from. Many (IsSection version) from is.sections []) begins.1 stand) is.made.choreo is.made.trace

  pub no_choreography : (found : Joined) → TakesSections version (drop at text) found → found.choreos ≡ [] → NoSections version (drop at text)
  no_choreography found taken none sections choreo only stand one last =
      let all = many_same sections_each no_section no_section refl taken.stand stand in
      let same : [] ≡ choreo ∷ [] = sym none ∙ ap (λ found. found.choreos) taken.joins ∙ ap (λ list. (joined_sections list).choreos) all.0 ∙ one in
      cc

-- where the reading ends, no bundle stands
behind_none : {version : ℕ} {text : List Lexeme} {at place : ℕ} → EndsBehind version text at place → NoSections version (drop at text)
behind_none {version} {text} {at} {place} (in_section ends) = sections_none version text at place ends
behind_none {version} {text} {at} (over {sections = sections} here stand none) = no_choreography text version at (joined_sections sections) (record { sections = sections; stand = stand; joins = refl }) none

pub none_whole : (text : List Lexeme) (place : ℕ) → EndsAt text place → (b : PlainBundle) → IsBundle text b [] → ⊥
none_whole text place ends = no_whole text ends.version ends.at ends.begins (behind_none ends.ends)

-- bytes with a bad byte have no lexemes
pub bad_byte_none : (bytes : List ℕ) (at : ℕ) → Breaks 0 bytes at → SpellsNone bytes
bad_byte_none bytes at breaks b is = tokens_or_bad_byte 0 bytes is.reads.lexemes.tokens at is.reads.lexemes.lexes breaks

-- bytes whose lexemes are no bundle spell none
pub spells_none : (bytes : List ℕ) (tokens : List Token) → Lexes 0 bytes tokens → ((b : PlainBundle) → IsBundle (lexemes bytes tokens) b [] → ⊥) → SpellsNone bytes
spells_none bytes tokens lexes none b is =
    none b (subst (λ list. IsBundle list b []) (one_reading bytes is.reads.found (lexemes bytes tokens) is.reads.lexemes (record { tokens = tokens; lexes = lexes; lexemes_are = refl })) is.reads.bundle)

-- where the reading of bytes ends, they spell none
pub byte_none : (bytes : List ℕ) (byte : ℕ) → EndsAtByte bytes byte → SpellsNone bytes
byte_none bytes byte (too_long long here) = λ b is. let small = is.small in omega arith
byte_none bytes byte (bad_byte small breaks) = bad_byte_none bytes byte breaks
byte_none bytes byte (at_token {tokens = tokens} {place = place} small lexes ends here) = spells_none bytes tokens lexes (none_whole (lexemes bytes tokens) place ends)
