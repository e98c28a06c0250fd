-- What is judged entry by entry is judged as a whole.
use Rattle.std.proofs.Common.{◌≡◌, ◌≢◌, ◌≤◌, ◌-◌, ℕ, suc, List, [], ◌∷◌, length, Bool, true, false, Option, Some, None, Result, Ok, Err, IfOk, IfSome, refl, sym, ap, ◌∙◌, subst, arith}
use Rattle.std.specs.Prelude.{not, if◌then◌else◌, option_and_then}
use Rattle.std.specs.Option.{option_map_or}
use Rattle.aioc_tokens.specs.declared.kinds.Token.{Token}
use Rattle.aioc_tokens.specs.Lexemes.{Lexeme, lexemes}
use Rattle.aioc_tokens.specs.Lexing.{Lexes, place_of}
use Rattle.dioc_terms.specs.declared.faults.Memory.{Memory}
use Rattle.dioc_terms.specs.Plain.{PlainBundle}
use Rattle.global_steps.specs.Follow.{stray}
use Rattle.diagnostics.specs.declared.diagnostic.Diagnostic.{Diagnostic}
use Rattle.diagnostics.specs.declared.traces.Judgement.{Judgement}
use Rattle.diagnostics.specs.declared.traces.Judgement.TheVariants as judgement
use Rattle.diagnostics.specs.Traces.{IsPlayed, IsJudged, IsLineAt, IsShownAt, known, unknown, IsToldAt}

none_some : {A : Type 0} {a : A} → None ≡ Some a → ⊥
none_some e = cc

-- what is judged to stray, or to be short, isn't played
pub not_played : (b : PlainBundle) (j : Judgement) → IsJudged b j → j ≢ judgement.Played → IsPlayed b → ⊥
not_played b judgement.Played is other played = other refl
not_played b (judgement.Stray number) is other played = none_some (sym played.none_strays ∙ is)
not_played b judgement.Short is other played = let e : true ≡ false = sym is.1 ∙ played.whole in cc

-- ---- where it is told

module _ (bytes : List ℕ) (b : PlainBundle) where
  -- the byte that is told where so many entries stand before the line
  abbrev told_behind : ℕ → Result (Option Diagnostic) Memory → Type 0
  told_behind lines r = IfOk r (λ found. IfSome found (λ (d : Diagnostic). IsShownAt bytes (length b.trace.entries - lines) d.span.start))

  abbrev told_at : Option ℕ → Result (Option Diagnostic) Memory → Type 0
  told_at number r = told_behind (option_map_or (λ k. k - 1) number (length b.trace.entries)) r

  pub stray_told : (number lines : ℕ) (r : Result (Option Diagnostic) Memory) → stray b b.trace.entries ≡ Some number → lines ≡ number - 1
      → IfOk r (λ found. IfSome found (λ (d : Diagnostic). IsShownAt bytes (length b.trace.entries - lines) d.span.start))
      → IfOk r (λ found. IfSome found (λ (d : Diagnostic). IsToldAt bytes b d.span.start))
  stray_told number lines r is count shown = subst (λ s. told_at s r) (sym is) (subst (λ n. told_behind n r) count shown)

  pub short_told : (lines : ℕ) (r : Result (Option Diagnostic) Memory) → stray b b.trace.entries ≡ None → lines ≡ length b.trace.entries
      → IfOk r (λ found. IfSome found (λ (d : Diagnostic). IsShownAt bytes (length b.trace.entries - lines) d.span.start))
      → IfOk r (λ found. IfSome found (λ (d : Diagnostic). IsToldAt bytes b d.span.start))
  short_told lines r is count shown = subst (λ s. told_at s r) (sym is) (subst (λ n. told_behind n r) count shown)

pub shown_known : (bytes : List ℕ) (tokens : List Token) (text : List Lexeme) (left place start : ℕ) → Lexes 0 bytes tokens → text ≡ lexemes bytes tokens → IsLineAt text left place
    → start ≡ place_of bytes tokens place → IsShownAt bytes left start
shown_known bytes tokens text left place start lexes same line begins = known lexes (subst (λ t. IsLineAt t left place) same line) begins

pub shown_unknown : (bytes : List ℕ) (left : ℕ) → IsShownAt bytes left 0
shown_unknown bytes left = unknown

-- by these a trace is judged
pub ruleset judging_rules = (not_played, stray_told, short_told)
