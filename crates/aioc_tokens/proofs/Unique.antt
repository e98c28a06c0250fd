-- A text has one list of tokens or one first bad byte, and never both.
use Rattle.std.proofs.Common.{◌≡◌, ℕ, ◌+◌, List, [], ◌∷◌, drop, refl, sym, subst, arith, le_antisymm}
use Rattle.aioc_tokens.specs.declared.kinds.Kind.{Kind}
use Rattle.aioc_tokens.specs.declared.kinds.Token.{Token}
use Rattle.aioc_tokens.specs.Tokens.{IsBlank, IsLongestToken}
use Rattle.aioc_tokens.specs.Lexing.{Lexes, ended, blank_first, token_first, Breaks, at_once, after_blank, after_token}
use Rattle.aioc_tokens.proofs.Firsts.{same_kind, blank_or_token}
use Rattle.aioc_tokens.proofs.Blanks.{same_blank, blank_size}
use Rattle.aioc_tokens.proofs.Walk.{token_size}

pub same_count : (text : List ℕ) (kind other : Kind) (count more : ℕ) → IsLongestToken text kind count → IsLongestToken text other more → count ≡ more
same_count text kind other count more one two = le_antisymm (two.longest kind count one.front) (one.longest other more two.front)

no_blank_at_end : (count : ℕ) → IsBlank [] count → ⊥
no_blank_at_end count blank = let size = blank_size [] count blank in omega (arith, size.0, size.1)

no_token_at_end : (kind : Kind) (count : ℕ) → IsLongestToken [] kind count → ⊥
no_token_at_end kind count token = let size = token_size [] kind count token in omega (arith, size.0, size.1)

pub one_lexing : (at : ℕ) (text : List ℕ) (tokens others : List Token) → Lexes at text tokens → Lexes at text others → tokens ≡ others
one_lexing at text tokens others ended ended = refl
one_lexing at text tokens others ended (blank_first {count = more} blank rest) = absurd (no_blank_at_end more blank)
one_lexing at text tokens others ended (token_first {count = more} {kind = other} token rest) = absurd (no_token_at_end other more token)
one_lexing at text tokens others (blank_first {count = count} blank rest) ended = absurd (no_blank_at_end count blank)
one_lexing at text tokens others (token_first {count = count} {kind = kind} token rest) ended = absurd (no_token_at_end kind count token)
one_lexing at text tokens others (blank_first {count = count} blank rest) (blank_first {count = more} other_blank other_rest) =
    let same = same_blank text more count other_blank blank in
    one_lexing (at + count) (drop count text) tokens others rest (subst (λ count. Lexes (at + count) (drop count text) others) same other_rest)
one_lexing at text tokens others (blank_first {count = count} blank rest) (token_first {count = more} {kind = other} token other_rest) = absurd (blank_or_token text other more count blank token)
one_lexing at text tokens others (token_first {count = count} {kind = kind} token rest) (blank_first {count = more} blank other_rest) = absurd (blank_or_token text kind count more blank token)
one_lexing at text tokens others (token_first {count = count} {kind = kind} {tokens = left} token rest) (token_first {count = more} {kind = other} {tokens = other_left} other_token other_rest) =
    let same = same_count text other kind more count other_token token in
    let kind_same = same_kind text kind other count more token.front other_token.front in
    let left_same = one_lexing (at + count) (drop count text) left other_left rest (subst (λ count. Lexes (at + count) (drop count text) other_left) same other_rest) in
    λ i. record { kind = kind_same i; start = at; end = at + sym same i } ∷ left_same i

pub one_bad_byte : (at : ℕ) (text : List ℕ) (bad other : ℕ) → Breaks at text bad → Breaks at text other → bad ≡ other
one_bad_byte at text bad other (at_once no_blank no_token) (at_once _ _) = refl
one_bad_byte at text bad other (at_once no_blank no_token) (after_blank {count = more} blank rest) = absurd (no_blank more blank)
one_bad_byte at text bad other (at_once no_blank no_token) (after_token {count = more} {kind = kind} token rest) = absurd (no_token kind more token.front)
one_bad_byte at text bad other (after_blank {count = count} blank rest) (at_once no_blank no_token) = absurd (no_blank count blank)
one_bad_byte at text bad other (after_token {count = count} {kind = kind} token rest) (at_once no_blank no_token) = absurd (no_token kind count token.front)
one_bad_byte at text bad other (after_blank {count = count} blank rest) (after_blank {count = more} other_blank other_rest) =
    let same = same_blank text more count other_blank blank in
    one_bad_byte (at + count) (drop count text) bad other rest (subst (λ count. Breaks (at + count) (drop count text) other) same other_rest)
one_bad_byte at text bad other (after_blank {count = count} blank rest) (after_token {count = more} {kind = kind} token other_rest) = absurd (blank_or_token text kind more count blank token)
one_bad_byte at text bad other (after_token {count = count} {kind = kind} token rest) (after_blank {count = more} blank other_rest) = absurd (blank_or_token text kind count more blank token)
one_bad_byte at text bad other (after_token {count = count} {kind = kind} token rest) (after_token {count = more} {kind = other_kind} other_token other_rest) =
    let same = same_count text other_kind kind more count other_token token in
    one_bad_byte (at + count) (drop count text) bad other rest (subst (λ count. Breaks (at + count) (drop count text) other) same other_rest)

pub tokens_or_bad_byte : (at : ℕ) (text : List ℕ) (tokens : List Token) (bad : ℕ) → Lexes at text tokens → Breaks at text bad → ⊥
tokens_or_bad_byte at text tokens bad ended (after_blank {count = more} blank rest) = no_blank_at_end more blank
tokens_or_bad_byte at text tokens bad ended (after_token {count = more} {kind = kind} token rest) = no_token_at_end kind more token
tokens_or_bad_byte at text tokens bad (blank_first {count = count} blank rest) (at_once no_blank no_token) = no_blank count blank
tokens_or_bad_byte at text tokens bad (token_first {count = count} {kind = kind} token rest) (at_once no_blank no_token) = no_token kind count token.front
tokens_or_bad_byte at text tokens bad (blank_first {count = count} blank rest) (after_blank {count = more} other_blank other_rest) =
    let same = same_blank text more count other_blank blank in
    tokens_or_bad_byte (at + count) (drop count text) tokens bad rest (subst (λ count. Breaks (at + count) (drop count text) bad) same other_rest)
tokens_or_bad_byte at text tokens bad (blank_first {count = count} blank rest) (after_token {count = more} {kind = kind} token other_rest) = blank_or_token text kind more count blank token
tokens_or_bad_byte at text tokens bad (token_first {count = count} {kind = kind} token rest) (after_blank {count = more} blank other_rest) = blank_or_token text kind count more blank token
tokens_or_bad_byte at text tokens bad (token_first {count = count} {kind = kind} {tokens = left} token rest) (after_token {count = more} {kind = other_kind} other_token other_rest) =
    let same = same_count text other_kind kind more count other_token token in
    tokens_or_bad_byte (at + count) (drop count text) left bad rest (subst (λ count. Breaks (at + count) (drop count text) bad) same other_rest)
