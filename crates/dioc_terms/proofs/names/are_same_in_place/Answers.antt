-- Zeros stand behind the first bytes, so these are the same where all that is in place is.
use Rattle.std.proofs.Common.{◌≡◌, ◌-◌, ℕ, List, ◌++◌, length, take, drop, replicate, ap, ap₂, sym, ◌∙◌, arith}
use Rattle.std.proofs.lemmas.Bool.Decides.{Decides-eqb}
use Rattle.std.proofs.lemmas.List.{take-append-drop, length-take-le}
use Rattle.dioc_terms.specs.EqualityLemmas.{same_truth, name_eq-decides}
use Rattle.dioc_terms.proofs.names.are_same_in_place.Goals as goal

-- what stands behind equal bytes is equal
behind : (n m : ℕ) (a b : List ℕ) → n ≡ m → drop n a ≡ replicate (14 - n) 0 → drop m b ≡ replicate (14 - m) 0 → take n a ≡ take m b → a ≡ b
behind n m a b same zeros others h =
    sym (take-append-drop n a)
    ∙ ap₂ (λ (x y : List ℕ). x ++ y) h (zeros ∙ ap (λ k. replicate (14 - k) 0) same ∙ sym others)
    ∙ take-append-drop m b

pub returns-then-count-other_count : goal.returns-then-count-other_count
returns-then-count-other_count c =
    let a : List ℕ = c.args.bytes.now in
    let b : List ℕ = c.args.other_bytes.now in
    let n : ℕ = c.args.count in
    let m : ℕ = c.args.other_count in
    c.are_same.ensures ∙ same_truth _ _
    (λ h. (name_eq-decides (take n a) (take m b)).1 (ap₂ (λ (k : ℕ) (l : List ℕ). take k l) c.if-count-other_count.true ((name_eq-decides a b).0 h)))
    (λ h. (name_eq-decides a b).1 (behind n m a b c.if-count-other_count.true c.requires.mine.1 c.requires.theirs.1 ((name_eq-decides (take n a) (take m b)).0 h)))

pub returns-else-count-other_count : goal.returns-else-count-other_count
returns-else-count-other_count c =
    let a : List ℕ = c.args.bytes.now in
    let b : List ℕ = c.args.other_bytes.now in
    let n : ℕ = c.args.count in
    let m : ℕ = c.args.other_count in
    same_truth _ _
    (λ h. absurd (c.if-count-other_count.false ((Decides-eqb n m).0 h)))
    (λ h. (Decides-eqb n m).1 (sym (length-take-le n a (omega (arith, c.told-bytes, c.requires.mine.0)))
    ∙ ap length ((name_eq-decides (take n a) (take m b)).0 h)
    ∙ length-take-le m b (omega (arith, c.told-other_bytes, c.requires.theirs.0))))
