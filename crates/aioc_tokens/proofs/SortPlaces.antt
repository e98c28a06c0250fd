-- Each sort has one byte, and each byte below 52 one sort.
use Rattle.std.proofs.Common.{◌≡◌, ℕ, zero, suc, ◌+◌, ◌<◌, Bool, true, ◌&&◌, ◌==◌, refl, ap, sym, subst, ◌∙◌, arith, ⊎_elim}
use Rattle.std.proofs.lemmas.Bool.{and_parts, eqb-true}
use Rattle.std.proofs.Math.Nat.{eq-or-lt_of_le}
use denote.Enum.Declared.{tag_of}
use Rattle.aioc_tokens.specs.contracts.words.Word.{the_type as word_type}
use Rattle.aioc_tokens.specs.contracts.words.Punctuator.{the_type as punctuator_type}
use Rattle.aioc_tokens.specs.declared.words.Word.{Word}
use Rattle.aioc_tokens.specs.declared.words.Word.TheVariants.{Aioc, Skip}
use Rattle.aioc_tokens.specs.declared.words.Punctuator.{Punctuator}
use Rattle.aioc_tokens.specs.declared.words.Punctuator.TheVariants.{LeftBrace, RightBrace}
use Rattle.aioc_tokens.specs.declared.words.Sort.{Sort}
use Rattle.aioc_tokens.specs.declared.words.Sort.TheVariants as sorts
use Rattle.aioc_tokens.specs.SortBytes.{sort_at}

-- the sort of a word's byte, and of a symbol's
pub word_at : (word : Word) → sort_at (5 + tag_of word_type word) ≡ sorts.Reserved word
word_at Aioc = refl
word_at Skip = refl
word_at _ = refl

pub punctuator_at : (punctuator : Punctuator) → sort_at (24 + tag_of punctuator_type punctuator) ≡ sorts.Symbol punctuator
punctuator_at LeftBrace = refl
punctuator_at RightBrace = refl
punctuator_at _ = refl

place_of : Sort → ℕ
place_of sorts.End = 0
place_of sorts.Name = 1
place_of sorts.Long = 2
place_of sorts.Number = 3
place_of sorts.Text = 4
place_of (sorts.Reserved word) = 5 + tag_of word_type word
place_of (sorts.Symbol punctuator) = 24 + tag_of punctuator_type punctuator

-- the sorts of all bytes below this one are at their places
are_placed : ℕ → Bool
are_placed zero = true
are_placed (suc byte) = (place_of (sort_at byte) == byte) && are_placed byte

all_placed : are_placed 52 ≡ true
unfolding are_placed place_of
all_placed = refl

place_below : (most byte : ℕ) → are_placed most ≡ true → byte < most → place_of (sort_at byte) ≡ byte
unfolding are_placed
place_below zero byte placed below = absurd (omega arith)
place_below (suc most) byte placed below =
    let parts = and_parts (place_of (sort_at most) == most) (are_placed most) placed in
    ⊎_elim (λ last. subst (λ n. place_of (sort_at n) ≡ n) (sym last) (eqb-true (place_of (sort_at most)) most parts.0))
    (λ less. place_below most byte parts.1 less) (eq-or-lt_of_le (omega arith))

-- two bytes of one sort are one byte
pub one_byte : (byte other : ℕ) → byte < 52 → other < 52 → sort_at byte ≡ sort_at other → byte ≡ other
one_byte byte other below other_below same =
    sym (place_below 52 byte all_placed below) ∙ ap place_of same ∙ place_below 52 other all_placed other_below
