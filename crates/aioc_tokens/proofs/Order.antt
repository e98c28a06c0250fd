-- The tokens of a text stand in order, and each is the longest at its place.
use Rattle.std.proofs.Common.{◌≡◌, ℕ, ◌+◌, ◌-◌, ◌≤◌, List, [], ◌∷◌, length, drop, refl, ap, sym, ◌∙◌, subst, arith, length-drop, drop-drop, All}
use Rattle.std.proofs.lemmas.List.Elements.{All-nil, All-cons}
use Rattle.aioc_tokens.specs.declared.kinds.Token.{Token}
use Rattle.aioc_tokens.specs.Tokens.{IsLongestToken}
use Rattle.aioc_tokens.specs.Lexing.{Lexes, ended, blank_first, token_first, InOrder, IsLongestAt}
use Rattle.aioc_tokens.proofs.Blanks.{blank_size}
use Rattle.aioc_tokens.proofs.Walk.{token_size}

in_order_from : (from more to : ℕ) (tokens : List Token) → from ≤ more → InOrder more to tokens → InOrder from to tokens
in_order_from from more to [] le order = omega arith
in_order_from from more to (next ∷ others) le order = (omega arith, order.1, order.2)

pub lexes_in_order : (at : ℕ) (text : List ℕ) (tokens : List Token) → Lexes at text tokens → InOrder at (at + length text) tokens
lexes_in_order at text tokens ended = omega arith
lexes_in_order at text tokens (blank_first {count = count} blank rest) =
    let size = blank_size text count blank in
    let same : at + count + length (drop count text) ≡ at + length text = omega (arith, length-drop count text, size.1) in
    in_order_from at (at + count) (at + length text) tokens (omega arith) (subst (λ to. InOrder (at + count) to tokens) same (lexes_in_order (at + count) (drop count text) tokens rest))
lexes_in_order at text tokens (token_first {count = count} {kind = kind} {tokens = others} token rest) =
    let size = token_size text kind count token in
    let same : at + count + length (drop count text) ≡ at + length text = omega (arith, length-drop count text, size.1) in
    (omega arith, omega (arith, size.0), subst (λ to. InOrder (at + count) to others) same (lexes_in_order (at + count) (drop count text) others rest))

pub lexes_ordered : (text : List ℕ) (tokens : List Token) → Lexes 0 text tokens → InOrder 0 (length text) tokens
lexes_ordered text tokens lexes = subst (λ to. InOrder 0 to tokens) (omega arith) (lexes_in_order 0 text tokens lexes)

pub lexes_few : (at : ℕ) (text : List ℕ) (tokens : List Token) → Lexes at text tokens → length tokens ≤ length text
lexes_few at text tokens ended = omega arith
lexes_few at text tokens (blank_first {count = count} blank rest) = omega (arith, length-drop count text, lexes_few (at + count) (drop count text) tokens rest)
lexes_few at text tokens (token_first {count = count} {kind = kind} {tokens = others} token rest) =
    let size = token_size text kind count token in
    omega (arith, size.0, size.1, length-drop count text, lexes_few (at + count) (drop count text) others rest)

-- a text that is the rest of a whole one has tokens that are the longest in the whole
longest_in : (whole : List ℕ) (at : ℕ) (text : List ℕ) (tokens : List Token) → Lexes at text tokens → drop at whole ≡ text → All (IsLongestAt whole) tokens
longest_in whole at text tokens ended is = All-nil (IsLongestAt whole)
longest_in whole at text tokens (blank_first {count = count} blank rest) is =
    longest_in whole (at + count) (drop count text) tokens rest (sym (drop-drop count at whole) ∙ ap (drop count) is)
longest_in whole at text tokens (token_first {count = count} {kind = kind} {tokens = others} token rest) is =
    All-cons (IsLongestAt whole) (record { kind = kind; start = at; end = at + count }) others
    (subst (λ left. IsLongestToken left kind (at + count - at)) (sym is) (subst (IsLongestToken text kind) (omega arith) token))
    (longest_in whole (at + count) (drop count text) others rest (sym (drop-drop count at whole) ∙ ap (drop count) is))

pub lexes_longest : (text : List ℕ) (tokens : List Token) → Lexes 0 text tokens → All (IsLongestAt text) tokens
lexes_longest text tokens lexes = longest_in text 0 text tokens lexes refl
