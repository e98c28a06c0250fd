-- Spaces and comments.
use Rattle.std.proofs.Common.{◌≡◌, ℕ, ◌<◌, ◌≤◌, ◌==◌, not, true, false, List, [], ◌∷◌, length, get_or, refl, ap, sym, ◌∙◌, subst, arith}
use Rattle.std.proofs.lemmas.List.Sums.{prefix_len-le-length}
use Rattle.std.proofs.lemmas.Bool.{both_ways}
use Rattle.aioc_tokens.specs.Tokens.{is_space, IsBlank, space, comment, BeginsComment}

pub space_blank : (text : List ℕ) → 0 < length text → is_space (get_or text 0 0) ≡ true → IsBlank text 1
space_blank [] some is = absurd (omega arith)
space_blank (byte ∷ others) some is = space is

-- a comment begins with no space
slash_or_space : (byte : ℕ) (others : List ℕ) → BeginsComment (byte ∷ others) → is_space byte ≡ true → ⊥
slash_or_space byte others begins is = both_ways _ (ap (λ word. is_space (get_or word 0 0)) begins) is

-- one place has one space or one comment
pub same_blank : (text : List ℕ) (count more : ℕ) → IsBlank text count → IsBlank text more → count ≡ more
same_blank text count more (space _) (space _) = refl
same_blank text count more (space {byte = byte} {others = others} is) (comment begins _) = absurd (slash_or_space byte others begins is)
same_blank text count more (comment begins _) (space {byte = byte} {others = others} is) = absurd (slash_or_space byte others begins is)
same_blank text count more (comment _ one) (comment _ two) = one ∙ sym two

-- a blank has a byte, and ends within the text
pub blank_size : (text : List ℕ) (count : ℕ) → IsBlank text count → (0 < count) × (count ≤ length text)
blank_size text count (space _) = (omega arith, omega arith)
blank_size [] count (comment begins is) = absurd cc
blank_size (first ∷ others) count (comment begins is) =
    let slash : first ≡ 47 = ap (λ word. get_or word 0 0) begins in
    (subst (λ count. 0 < count) (sym is) (rw slash (omega arith)), omega (arith, is, prefix_len-le-length (λ byte. not (byte == 10)) (first ∷ others)))

-- where neither a space nor a comment stands there is no blank
pub no_blank : (text : List ℕ) → is_space (get_or text 0 0) ≡ false → (¬ BeginsComment text) → (count : ℕ) → IsBlank text count → ⊥
no_blank text none no_comment count (space {byte = byte} is) = both_ways _ none is
no_blank text none no_comment count (comment begins _) = no_comment begins
