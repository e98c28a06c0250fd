-- The sections of a text, one after another.
use Rattle.std.proofs.Common.{◌≡◌, ℕ, ◌<◌, ◌≤◌, List, [], ◌∷◌, ◌++◌, length, drop, true, false, Option, Some, None, refl, ap, sym, ◌∙◌, subst, arith, length-drop, drop_of_length-le}
use Rattle.std.specs.Option.{is_some}
use Rattle.dioc_terms.specs.declared.choreographies.Choreo.{Choreo}
use Rattle.dioc_terms.specs.declared.bundles.Trace.{Trace}
use Rattle.dioc_terms.specs.Terms.{term}
use Rattle.aioc_tokens.specs.Lexemes.{Lexeme}
use Rattle.bundle_text.specs.Many.{Many, no_more, one_more}
use Rattle.bundle_text.specs.Grammar.{Section, Aioc, Traced, IsSection, Joined, nothing_joined, joined_sections, IsOnly}
use Rattle.bundle_text.specs.Readers.{listed, listed_trace, with_last, TakesSection, TakesSections}
use Rattle.bundle_text.specs.Stops.{EndsInSection, EndsAmongSections}
use Rattle.bundle_text.proofs.Missing.{NoSections}
use Rattle.bundle_text.proofs.Repeated.{many_last, Behind, many_behind, ended}
use Rattle.bundle_text.proofs.Unique.{sections_each, no_section}
use Rattle.bundle_text.proofs.Found.{section_none}
use Rattle.bundle_text.proofs.Joins.{joined_last, no_second}

-- the sections that a reader has joined so far
pub record SectionsSoFar (version : ℕ) (text : List Lexeme) (at : ℕ) (found : Joined) (next : ℕ) : Type 0 where
  pub sections : List Section
  pub stand : Many (IsSection version) (drop at text) sections (drop next text)
  pub joins : found ≡ joined_sections sections

module _ (version : ℕ) (text : List Lexeme) (at : ℕ) where
  pub no_section_yet : (found : Joined) → found ≡ nothing_joined → SectionsSoFar version text at found at
  no_section_yet found none = record { sections = []; stand = no_more; joins = none }

  pub section_further : (old new : Joined) (next behind : ℕ) → SectionsSoFar version text at old next → TakesSection version text next old new behind → SectionsSoFar version text at new behind
  section_further old new next behind so_far taken = record {
    sections = so_far.sections ++ taken.section ∷ [];
    stand = many_last so_far.stand taken.stands;
    joins = taken.joins ∙ ap (λ found. with_last found taken.section) so_far.joins ∙ sym (joined_last so_far.sections taken.section);
  }

  pub sections_taken : (found : Joined) (next : ℕ) → SectionsSoFar version text at found next → length text ≤ next → TakesSections version (drop at text) found
  sections_taken found next so_far past = record {
    sections = so_far.sections;
    stand = subst (Many (IsSection version) (drop at text) so_far.sections) (drop_of_length-le text past) so_far.stand;
    joins = so_far.joins;
  }

  pub sections_ended : (found : Joined) (next place : ℕ) → SectionsSoFar version text at found next → next < length text → EndsInSection version text next found place → EndsAmongSections version text at place
  sections_ended found next place so_far inside ends = record { sections = so_far.sections; next = next; stand = so_far.stand; inside = inside; ends = subst (λ joins. EndsInSection version text next joins place) so_far.joins ends }

  pub sections_none : (place : ℕ) → EndsAmongSections version text at place → NoSections version (drop at text)
  sections_none place ended_there sections choreo only stand one last = by_rest more.rest more.are more.stand
    where
      next : ℕ
      next = ended_there.next

      more : Behind (IsSection version) ended_there.sections sections (drop next text) []
      more = many_behind sections_each no_section refl ended_there.stand stand

      by_rest : (rest : List Section) → sections ≡ ended_there.sections ++ rest → Many (IsSection version) (drop next text) rest [] → ⊥
      by_rest [] are s = let inside = ended_there.inside in omega (arith, length-drop next text, ap length (ended s refl))
      by_rest (first ∷ rest) are (one_more {middle = middle} r s) =
          no_second first ended_there.sections rest choreo only (section_none version text next (joined_sections ended_there.sections) place ended_there.ends first middle r) (sym (ap (λ all. (joined_sections all).choreos) are) ∙ one)
          (subst (λ all. IsOnly (joined_sections all).traces only) are last)

-- a choreography that was read before
pub listed_some : (choreo : Option Choreo) → is_some choreo ≡ true → 0 < length (listed choreo)
listed_some None is = absurd cc
listed_some (Some choreo) is = omega arith

pub listed_none : (choreo : Option Choreo) → is_some choreo ≡ false → listed choreo ≡ []
listed_none None is = refl
listed_none (Some choreo) is = absurd cc

-- the choreography that was read, joined to the other sections
pub filled : (old : Joined) (slot before : Option Choreo) (choreo : Choreo) → slot ≡ Some choreo → is_some before ≡ false → old.choreos ≡ listed before → record old { choreos = listed slot } ≡ with_last old (Aioc (term choreo))
filled old slot before choreo is none are =
    ap (λ list. record old { choreos = list }) (ap listed is ∙ sym (ap (λ list. list ++ term choreo ∷ []) (are ∙ listed_none before none)))

-- a trace that was read before, and the one that was read
pub traced_some : (found : Option Trace) → is_some found ≡ true → 0 < length (listed_trace found)
traced_some None is = absurd cc
traced_some (Some found) is = omega arith

pub traced_none : (found : Option Trace) → is_some found ≡ false → listed_trace found ≡ []
traced_none None is = refl
traced_none (Some found) is = absurd cc

pub trace_filled : (old : Joined) (slot before : Option Trace) (found : Trace) → slot ≡ Some found → is_some before ≡ false → old.traces ≡ listed_trace before → record old { traces = listed_trace slot } ≡ with_last old (Traced found)
trace_filled old slot before found is none are =
    ap (λ list. record old { traces = list }) (ap listed_trace is ∙ sym (ap (λ list. list ++ found ∷ []) (are ∙ traced_none before none)))
