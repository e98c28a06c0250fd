-- A text of which something is told is not sound.
use Rattle.std.proofs.Common.{◌≡◌, ◌≢◌, false, ℕ, List, Option, Some, None, Result, Ok, Err, IfOk, IfSome, refl, ap, sym, subst, ◌∙◌}
use Rattle.dioc_terms.specs.declared.faults.SyntaxFault.{SyntaxFault}
use Rattle.dioc_terms.specs.declared.faults.SyntaxFault.TheVariants as fault
use Rattle.dioc_terms.specs.Plain.{PlainBundle}
use Rattle.bundle_text.specs.Grammar.{Spells, SpellsNone}
use Rattle.bundle_text.specs.Laws.{OneBundle}
use Rattle.rule_checks.specs.declared.refusals.Refusal.{Refusal}
use Rattle.rule_checks.specs.Refusals.{refusal}
use Rattle.text_places.specs.Laws.{HasTokens}
use Rattle.rule_checks.specs.declared.refusals.Refusal.TheVariants as why
use Rattle.rule_checks.specs.Answers.{IsRefusalOf}
use Rattle.diagnostics.specs.declared.diagnostic.Diagnostic.{Diagnostic}
use Rattle.diagnostics.specs.Traces.{IsPlayed, IsReplayed, IsToldAt, IsStrayAt}
use Rattle.diagnostics.specs.Verdicts.{IsSound, is_memory}

-- each byte of a text that spells a bundle is in a token, a space or a comment
pub spelled_tokens : (bytes : List ℕ) (b : PlainBundle) → Spells bytes b → HasTokens bytes
spelled_tokens bytes b spells = (spells.reads.lexemes.tokens, spells.reads.lexemes.lexes)

pub spells_none : (bytes : List ℕ) → SpellsNone bytes → IsSound bytes → ⊥
spells_none bytes none sound = none sound.bundle sound.spells

pub refused : (bytes : List ℕ) (b : PlainBundle) (w : Refusal) → OneBundle → Spells bytes b → IsRefusalOf (refusal b) w → is_memory w ≡ false → IsSound bytes → ⊥
refused bytes b w one spells told other sound =
    let same : sound.bundle ≡ b = one bytes sound.bundle b sound.spells spells in
    let none = sound.accepted.no_refusal in
    let known : w ≢ why.Memory = λ e. let said = ap is_memory e in cc in
    let is = ap refusal same ∙ told known in
    cc (sym none ∙ is)

-- what is told is something
pub something_told : {A E : Type 0} (P : Type 0) (result : Result (Option A) E) → IfOk result (λ found. found ≢ None) → IfOk result (λ found. found ≡ None → P)
something_told P (Ok found) told = λ none. absurd (told none)
something_told P (Err fault) told = told

-- what holds anyway holds of each answer
pub holds_anyway : {A E : Type 0} (P : Type 0) (result : Result (Option A) E) → IfOk result (λ found. found ≢ None) → P → IfOk result (λ found. found ≢ None → P)
holds_anyway P (Ok found) told holds = λ _. holds
holds_anyway P (Err fault) told holds = told

-- a fault that names a byte is no want of memory
pub syntax_tells : {P : Type 0} (told : SyntaxFault) (byte : ℕ) → told ≡ fault.Syntax byte → (told ≢ fault.Memory → P) → P
syntax_tells told byte is tells = tells (λ e. cc)

-- ---- the trace section as well

pub sound_of : (bytes : List ℕ) → IsReplayed bytes → IsSound bytes
sound_of bytes r = record { bundle = r.bundle; spells = r.spells; accepted = r.accepted }

pub replayed : (bytes : List ℕ) (b : PlainBundle) → OneBundle → Spells bytes b → IsSound bytes → IsPlayed b → IsReplayed bytes
replayed bytes b one spells sound played =
    record {
      bundle = sound.bundle;
      spells = sound.spells;
      accepted = sound.accepted;
      played = subst IsPlayed (sym (one bytes sound.bundle b sound.spells spells)) played;
    }

pub played_of : (bytes : List ℕ) (b : PlainBundle) → OneBundle → Spells bytes b → IsReplayed bytes → IsPlayed b
played_of bytes b one spells r = subst IsPlayed (one bytes r.bundle b r.spells spells) r.played

-- nothing is told of a sound bundle and of its section, so the section is replayed
pub silent_of : {D E : Type 0} (bytes : List ℕ) (b : PlainBundle) (r : Result (Option D) E) → OneBundle → Spells bytes b → IsSound bytes
    → IfOk r (λ found. found ≡ None → IsPlayed b) → IfOk r (λ found. found ≡ None → IsReplayed bytes)
silent_of bytes b (Ok found) one spells sound silent = λ none. replayed bytes b one spells sound (silent none)
silent_of bytes b (Err fault) one spells sound silent = silent

pub told_of : {D E : Type 0} (bytes : List ℕ) (b : PlainBundle) (r : Result (Option D) E) → OneBundle → Spells bytes b
    → IfOk r (λ found. found ≢ None → IsPlayed b → ⊥) → IfOk r (λ found. found ≢ None → IsReplayed bytes → ⊥)
told_of bytes b (Ok found) one spells told = λ some r. told some (played_of bytes b one spells r)
told_of bytes b (Err fault) one spells told = told

-- where it is told of the section of the bundle that the bytes spell, it is told of the bytes
pub place_of_bytes : {E : Type 0} (bytes : List ℕ) (b : PlainBundle) (r : Result (Option Diagnostic) E) → OneBundle → Spells bytes b
    → IfOk r (λ found. IfSome found (λ (d : Diagnostic). IsToldAt bytes b d.span.start)) → IfOk r (λ found. IfSome found (λ (d : Diagnostic). IsStrayAt bytes d.span.start))
place_of_bytes bytes b (Ok (Some d)) one spells told = λ other spelled accepted. subst (λ x. IsToldAt bytes x d.span.start) (sym (one bytes other b spelled spells)) told
place_of_bytes bytes b (Ok None) one spells told = told
place_of_bytes bytes b (Err fault) one spells told = told

-- of a text that isn't sound no section is told
pub unsound_at : (bytes : List ℕ) (start : ℕ) → (IsSound bytes → ⊥) → IsStrayAt bytes start
unsound_at bytes start unsound = λ b spells accepted. absurd (unsound (record { bundle = b; spells = spells; accepted = accepted }))

pub unsound_place : {E : Type 0} (bytes : List ℕ) (r : Result (Option Diagnostic) E) → IfOk r (λ found. found ≢ None) → (IsSound bytes → ⊥)
    → IfOk r (λ found. IfSome found (λ (d : Diagnostic). IsStrayAt bytes d.span.start))
unsound_place bytes (Ok (Some d)) some unsound = unsound_at bytes d.span.start unsound
unsound_place bytes (Ok None) some unsound = absurd (some refl)
unsound_place bytes (Err fault) some unsound = some
