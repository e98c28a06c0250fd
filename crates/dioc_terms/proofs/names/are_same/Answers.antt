-- Two words cover all bytes in place.
use Rattle.std.proofs.Common.{◌≡◌, ◌<◌, ◌+◌, ℕ, zero, suc, List, length, get_or, w64, refl, ap, sym, ◌∙◌, arith}
use Rattle.std.specs.Int.{from_le_bytes, to_le_bytes}
use Rattle.std.proofs.lemmas.Bool.Decides.{Decides-eqb}
use Rattle.std.proofs.lemmas.Nat.{le_bytes_8}
use Rattle.std.proofs.lemmas.List.{ext_get_or}
use Rattle.dioc_terms.specs.Kept.{eight}
use Rattle.dioc_terms.specs.EqualityLemmas.{same_truth, name_eq-decides}
use Rattle.dioc_terms.proofs.names.are_same.Goals as goal

-- each of the eight is a byte
small_eight : (a : List ℕ) (at : ℕ) → ((i : ℕ) → get_or a i 0 < 256) → (i : ℕ) → get_or (eight a at) i 0 < 256
small_eight a at h zero = h at
small_eight a at h (suc zero) = h (at + 1)
small_eight a at h (suc (suc zero)) = h (at + 2)
small_eight a at h (suc (suc (suc zero))) = h (at + 3)
small_eight a at h (suc (suc (suc (suc zero)))) = h (at + 4)
small_eight a at h (suc (suc (suc (suc (suc zero))))) = h (at + 5)
small_eight a at h (suc (suc (suc (suc (suc (suc zero)))))) = h (at + 6)
small_eight a at h (suc (suc (suc (suc (suc (suc (suc zero))))))) = h (at + 7)
small_eight a at h (suc (suc (suc (suc (suc (suc (suc (suc i)))))))) = omega arith

-- a word tells its eight bytes
told : (a b : List ℕ) (at : ℕ) → ((i : ℕ) → get_or a i 0 < 256) → ((i : ℕ) → get_or b i 0 < 256)
    → from_le_bytes w64 (eight a at) ≡ from_le_bytes w64 (eight b at) → eight a at ≡ eight b at
told a b at m n h =
    sym (le_bytes_8 (eight a at) (from_le_bytes w64 (eight a at)) refl (small_eight a at m) refl)
    ∙ ap (to_le_bytes w64) h
    ∙ le_bytes_8 (eight b at) (from_le_bytes w64 (eight b at)) refl (small_eight b at n) refl

-- the first word and the last cover all
covered : (a b : List ℕ) → length a ≡ 14 → eight a 0 ≡ eight b 0 → eight a 6 ≡ eight b 6 → (i : ℕ) → i < length a → get_or a i 0 ≡ get_or b i 0
covered a b l first last zero h = ap (λ e. get_or e 0 0) first
covered a b l first last (suc zero) h = ap (λ e. get_or e 1 0) first
covered a b l first last (suc (suc zero)) h = ap (λ e. get_or e 2 0) first
covered a b l first last (suc (suc (suc zero))) h = ap (λ e. get_or e 3 0) first
covered a b l first last (suc (suc (suc (suc zero)))) h = ap (λ e. get_or e 4 0) first
covered a b l first last (suc (suc (suc (suc (suc zero))))) h = ap (λ e. get_or e 5 0) first
covered a b l first last (suc (suc (suc (suc (suc (suc zero)))))) h = ap (λ e. get_or e 6 0) first
covered a b l first last (suc (suc (suc (suc (suc (suc (suc zero))))))) h = ap (λ e. get_or e 7 0) first
covered a b l first last (suc (suc (suc (suc (suc (suc (suc (suc zero)))))))) h = ap (λ e. get_or e 2 0) last
covered a b l first last (suc (suc (suc (suc (suc (suc (suc (suc (suc zero))))))))) h = ap (λ e. get_or e 3 0) last
covered a b l first last (suc (suc (suc (suc (suc (suc (suc (suc (suc (suc zero)))))))))) h = ap (λ e. get_or e 4 0) last
covered a b l first last (suc (suc (suc (suc (suc (suc (suc (suc (suc (suc (suc zero))))))))))) h = ap (λ e. get_or e 5 0) last
covered a b l first last (suc (suc (suc (suc (suc (suc (suc (suc (suc (suc (suc (suc zero)))))))))))) h = ap (λ e. get_or e 6 0) last
covered a b l first last (suc (suc (suc (suc (suc (suc (suc (suc (suc (suc (suc (suc (suc zero))))))))))))) h = ap (λ e. get_or e 7 0) last
covered a b l first last (suc (suc (suc (suc (suc (suc (suc (suc (suc (suc (suc (suc (suc (suc i)))))))))))))) h = absurd (omega arith)

same_words : (a b : List ℕ) → length a ≡ 14 → length b ≡ 14 → ((i : ℕ) → get_or a i 0 < 256) → ((i : ℕ) → get_or b i 0 < 256)
    → from_le_bytes w64 (eight a 0) ≡ from_le_bytes w64 (eight b 0) → from_le_bytes w64 (eight a 6) ≡ from_le_bytes w64 (eight b 6) → a ≡ b
same_words a b l k m n f s =
    ext_get_or 0 a b (l ∙ sym k) (covered a b l (told a b 0 m n f) (told a b 6 m n s))

pub returns-then-word_at : goal.returns-then-word_at
returns-then-word_at c =
    let a : List ℕ = c.args.mine.now in
    let b : List ℕ = c.args.theirs.now in
    let tests = Decides-eqb c.word_at-then-word_at.result c.word_at-then-word_at-2.result in
    same_truth _ _
    (λ h. (name_eq-decides a b).1 (same_words a b c.told-mine c.told-theirs c.fits-mine c.fits-theirs
    (sym c.word_at.ensures ∙ c.if-word_at.true ∙ c.word_at-2.ensures)
    (sym c.word_at-then-word_at.ensures ∙ tests.0 h ∙ c.word_at-then-word_at-2.ensures)))
    (λ h. tests.1 (c.word_at-then-word_at.ensures ∙ ap (λ l. from_le_bytes w64 (eight l 6)) ((name_eq-decides a b).0 h)
    ∙ sym c.word_at-then-word_at-2.ensures))

pub returns-else-word_at : goal.returns-else-word_at
returns-else-word_at c =
    let a : List ℕ = c.args.mine.now in
    let b : List ℕ = c.args.theirs.now in
    let tests = Decides-eqb c.word_at.result c.word_at-2.result in
    same_truth _ _
    (λ h. absurd (c.if-word_at.false (tests.0 h)))
    (λ h. tests.1 (c.word_at.ensures ∙ ap (λ l. from_le_bytes w64 (eight l 0)) ((name_eq-decides a b).0 h) ∙ sym c.word_at-2.ensures))
