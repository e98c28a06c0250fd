-- What the walk over a text keeps: whatever is left completes what was found.
use Rattle.std.proofs.Common.{ℕ, ◌+◌, ◌<◌, ◌≤◌, List, [], ◌∷◌, ◌++◌, length, drop, sym, subst, arith, length-drop, drop-drop, drop_of_length-le, append_assoc, append-nil}
use Rattle.aioc_tokens.specs.declared.kinds.Kind.{Kind}
use Rattle.aioc_tokens.specs.declared.kinds.Token.{Token}
use Rattle.aioc_tokens.specs.Tokens.{IsBlank, IsLongestToken, IsFront}
use Rattle.aioc_tokens.specs.Lexing.{Lexes, ended, blank_first, token_first, Breaks, at_once, after_blank, after_token}
use Rattle.aioc_tokens.proofs.Firsts.{front_first}
use Rattle.aioc_tokens.proofs.Blanks.{blank_size}

pub record IsBefore (text : List ℕ) (found : List Token) (at : ℕ) : Type 0 where
  pub within : at ≤ length text
  pub lexes : (others : List Token) → Lexes at (drop at text) others → Lexes 0 text (found ++ others)
  pub breaks : (bad : ℕ) → Breaks at (drop at text) bad → Breaks 0 text bad

pub begun : (text : List ℕ) → IsBefore text [] 0
begun text = record { within = omega arith; lexes = λ others rest. rest; breaks = λ bad rest. rest }

-- a token has a byte, and ends within the text
pub token_size : (text : List ℕ) (kind : Kind) (count : ℕ) → IsLongestToken text kind count → (0 < count) × (count ≤ length text)
token_size text kind count token = ((front_first text kind count token.front).1, token.front.within)

module _ (text : List ℕ) (found : List Token) (at : ℕ) (before : IsBefore text found at) where
  pub over_blank : (count : ℕ) → IsBlank (drop at text) count → IsBefore text found (at + count)
  over_blank count blank =
      let size = blank_size (drop at text) count blank in
      let joined = drop-drop count at text in
      record {
        within = omega (arith, size.1, length-drop at text, before.within);
        lexes = λ others rest. before.lexes others (blank_first blank (subst (λ left. Lexes (at + count) left others) (sym joined) rest));
        breaks = λ bad rest. before.breaks bad (after_blank blank (subst (λ left. Breaks (at + count) left bad) (sym joined) rest));
      }

  pub over_token : (kind : Kind) (count : ℕ) → IsLongestToken (drop at text) kind count → IsBefore text (found ++ record { kind = kind; start = at; end = at + count } ∷ []) (at + count)
  over_token kind count token =
      let size = token_size (drop at text) kind count token in
      let joined = drop-drop count at text in
      record {
        within = omega (arith, size.1, length-drop at text, before.within);
        lexes = λ others rest.
            subst (Lexes 0 text) (sym (append_assoc found (record { kind = kind; start = at; end = at + count } ∷ []) others))
            (before.lexes (record { kind = kind; start = at; end = at + count } ∷ others) (token_first token (subst (λ left. Lexes (at + count) left others) (sym joined) rest)));
        breaks = λ bad rest. before.breaks bad (after_token token (subst (λ left. Breaks (at + count) left bad) (sym joined) rest));
      }

  pub at_end : length text ≤ at → Lexes 0 text found
  at_end past =
      subst (Lexes 0 text) (append-nil found) (before.lexes [] (subst (λ left. Lexes at left []) (sym (drop_of_length-le text past)) ended))

  pub at_bad : at < length text → ((count : ℕ) → IsBlank (drop at text) count → ⊥) → ((kind : Kind) (count : ℕ) → IsFront (drop at text) kind count → ⊥) → Breaks 0 text at
  at_bad inside no_blank no_token = before.breaks at (go (drop at text) (omega (arith, length-drop at text)) no_blank no_token)
    where
      go : (left : List ℕ) → 0 < length left → ((count : ℕ) → IsBlank left count → ⊥) → ((kind : Kind) (count : ℕ) → IsFront left kind count → ⊥) → Breaks at left at
      go [] some no_blank no_token = absurd (omega arith)
      go (byte ∷ others) some no_blank no_token = at_once no_blank no_token
