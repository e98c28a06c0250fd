-- What the readers of sessions found.
use Rattle.std.proofs.Common.{◌≡◌, ◌≢◌, ℕ, ◌+◌, ◌≤◌, List, [], ◌∷◌, ◌++◌, length, map, drop, codes, refl, ap, sym, ◌∙◌, subst, arith, length-drop, drop-drop, drop_of_length-le}
use Rattle.std.proofs.lemmas.List.{map-append}
use Rattle.dioc_terms.specs.declared.bundles.Bundle.{Bundle}
use Rattle.dioc_terms.specs.Plain.{PlainBundle, plain}
use Rattle.aioc_tokens.specs.declared.words.Punctuator.TheVariants as punctuator
use Rattle.aioc_tokens.specs.declared.words.Sort.TheVariants as sorts
use Rattle.aioc_tokens.specs.Lexemes.{Lexeme, Name, sort_of}
use Rattle.dioc_syntax.proofs.HeadSorts.{further, symbol_here, within_here}
use Rattle.bundle_text.specs.Many.{Many}
use Rattle.bundle_text.specs.Grammar.{closed_before, IsSection, Joined, IsMadeOf, HasVersion}
use Rattle.bundle_text.specs.Readers.{FindsVersion}
use Rattle.bundle_text.specs.Stops.{BeginsSection, begins_aioc, begins_rules, begins_environment, begins_inputs, begins_script, begins_trace, EndsInSection, no_word}
use Rattle.bundle_text.specs.Sessions.{session_before, IsSession, EndsBeforeClose, EndsInBrackets, at_close}
use Rattle.bundle_text.specs.SessionReaders.{TakesClosed, TakesBundle, TakesSession, IsChunkIn}
use Rattle.bundle_text.specs.declared.chunks.Chunk.{Chunk}
use Rattle.bundle_text.proofs.Repeated.{many_last, many_append}
use Rattle.bundle_text.proofs.SectionSteps.{SectionsSoFar}
use Rattle.bundle_text.proofs.Shorter.{sections_few}

module _ (version : ℕ) (text : List Lexeme) (at : ℕ) where
  pub closed_taken : (found : Joined) (next : ℕ) → SectionsSoFar version text at found next → at ≤ next → sort_of (drop next text) ≡ sorts.Symbol punctuator.RightBrace → TakesClosed version text at found next
  closed_taken found next so_far after closed = record { sections = so_far.sections; stand = so_far.stand; joins = so_far.joins; closed = closed; after = after }

  pub ended_before : (found : Joined) (next place : ℕ) → SectionsSoFar version text at found next → sort_of (drop next text) ≢ sorts.Symbol punctuator.RightBrace → EndsInSection version text next found place → EndsBeforeClose version text at place
  ended_before found next place so_far unclosed ends = record { sections = so_far.sections; next = next; stand = so_far.stand; no_close = unclosed; ends = subst (λ joins. EndsInSection version text next joins place) so_far.joins ends }

  -- at the end of the text no section begins
  pub over_here : (found : Joined) (next : ℕ) → length text ≤ next → EndsInSection version text next found next
  over_here found next past = no_word refl (λ begins. go (drop_of_length-le text past) begins)
    where
      go : {from : List Lexeme} → from ≡ [] → BeginsSection from → ⊥
      go none (begins_aioc begins) = let s = ap sort_of (sym none ∙ begins) in cc
      go none (begins_rules begins) = let s = ap sort_of (sym none ∙ begins) in cc
      go none (begins_environment begins) = let s = ap sort_of (sym none ∙ begins) in cc
      go none (begins_inputs begins) = let s = ap sort_of (sym none ∙ begins) in cc
      go none (begins_script begins) = let s = ap sort_of (sym none ∙ begins) in cc
      go none (begins_trace begins) = let s = ap sort_of (sym none ∙ begins) in cc

  pub few_closed : (found : Joined) (closes : ℕ) → TakesClosed version text at found closes → length found.rules + length found.script ≤ length text
  few_closed found closes taken =
      let few = sections_few taken.stand in
      omega (arith, ap (λ (joins : Joined). length joins.rules) taken.joins, ap (λ (joins : Joined). length joins.script) taken.joins, length-drop at text)

  pub bundle_taken : (found : Joined) (closes : ℕ) (b : PlainBundle) → TakesClosed version text at found closes → IsMadeOf found b → b.version ≡ version → TakesBundle version text at b (closes + 1)
  bundle_taken found closes b taken made same =
      let inside = within_here text punctuator.RightBrace closes taken.closed in
      let before = taken.after in
      record {
        sections = taken.sections;
        stand = subst (Many (IsSection version) (drop at text) taken.sections) (symbol_here text punctuator.RightBrace closes (closes + 1) refl taken.closed) taken.stand;
        made = subst (λ joins. IsMadeOf joins b) taken.joins made;
        same_version = same;
        after = omega arith;
        within = omega arith;
      }

  pub no_choreography_closed : (found : Joined) (closes place : ℕ) → TakesClosed version text at found closes → found.choreos ≡ [] → place ≡ closes → EndsInBrackets version text at place
  no_choreography_closed found closes place taken none here =
      subst (EndsInBrackets version text at) (sym here)
      (at_close taken.stand taken.closed (sym (ap (λ joins. joins.choreos) taken.joins) ∙ none))

module _ (text : List Lexeme) (at : ℕ) where
  -- the word of a session and its bracket
  pub session_named : {inside : List Lexeme} → drop at text ≡ session_before inside → drop at text ≡ Name (codes "session") ∷ drop (at + 1) text
  session_named begins = begins ∙ ap (λ l. Name (codes "session") ∷ l) (sym (ap (drop 1) begins) ∙ further text at (at + 1) refl)

  pub session_opens : {inside : List Lexeme} → drop at text ≡ session_before inside → sort_of (drop (at + 1) text) ≡ sorts.Symbol punctuator.LeftBrace
  session_opens begins = ap sort_of (sym (further text at (at + 1) refl) ∙ ap (drop 1) begins)

  pub session_here : drop at text ≡ Name (codes "session") ∷ drop (at + 1) text → sort_of (drop (at + 1) text) ≡ sorts.Symbol punctuator.LeftBrace → drop at text ≡ session_before (drop (at + 2) text)
  session_here named opens = named ∙ ap (λ l. Name (codes "session") ∷ l) (symbol_here text punctuator.LeftBrace (at + 1) (at + 2) (omega arith) opens)

  -- where the version of a bundle ends
  pub version_within : (version skipped : ℕ) → drop at text ≡ session_before (drop (at + 2) text) → FindsVersion (drop (at + 2) text) version skipped → at + 2 + skipped ≤ length text
  version_within version skipped begins finds =
      let within = finds.within in
      omega (arith, ap length begins, length-drop at text, length-drop (at + 2) text)

  pub session_taken : (version skipped : ℕ) (b : PlainBundle) (next : ℕ) → drop at text ≡ session_before (drop (at + 2) text) → FindsVersion (drop (at + 2) text) version skipped → TakesBundle version text (at + 2 + skipped) b next → TakesSession text at b next
  session_taken version skipped b next begins finds taken =
      let after = taken.after in
      record {
        stands = record {
          inside = drop (at + 2) text;
          begins = begins;
          bundle = record {
            inside = drop skipped (drop (at + 2) text);
            version = subst (λ n. HasVersion (drop (at + 2) text) n (drop skipped (drop (at + 2) text))) (sym taken.same_version) finds.reads;
            sections = taken.sections;
            stand = subst (λ l. Many (IsSection b.version) l taken.sections (closed_before (drop next text))) (sym (drop-drop skipped (at + 2) text))
                (subst (λ n. Many (IsSection n) (drop (at + 2 + skipped) text) taken.sections (closed_before (drop next text))) (sym taken.same_version) taken.stand);
            made = taken.made;
          };
        };
        after = omega arith;
        within = taken.within;
      }

-- a session more
pub sessions_further : {from : List Lexeme} (text : List Lexeme) (bundles : List Bundle) (bundle : Bundle) (next behind : ℕ) → Many IsSession from (map plain bundles) (drop next text) → TakesSession text next (plain bundle) behind → (all : List Bundle)
    → all ≡ bundles ++ bundle ∷ [] → Many IsSession from (map plain all) (drop behind text)
sessions_further {from} text bundles bundle next behind stand taken all are =
    subst (λ l. Many IsSession from l (drop behind text)) (sym (ap (map plain) are ∙ map-append plain bundles (bundle ∷ []))) (many_last stand taken.stands)

-- the sessions of a chunk more
pub sessions_joined : {from : List Lexeme} (text : List Lexeme) (bundles : List Bundle) (chunk : Chunk) (next : ℕ) → Many IsSession from (map plain bundles) (drop next text) → IsChunkIn text chunk → chunk.from ≡ next → (all : List Bundle)
    → all ≡ bundles ++ chunk.sessions.items → Many IsSession from (map plain all) (drop chunk.to text)
sessions_joined {from} text bundles chunk next stand more joins all are =
    subst (λ l. Many IsSession from l (drop chunk.to text)) (sym (ap (map plain) are ∙ map-append plain bundles chunk.sessions.items))
    (many_append stand (subst (λ n. Many IsSession (drop n text) (map plain chunk.sessions.items) (drop chunk.to text)) joins more))
