-- What one more step of a row makes.
use Rattle.std.proofs.Common.{◌≡◌, ℕ, zero, suc, ◌+◌, ◌-◌, ◌/◌, ◌<◌, ◌≤◌, List, [], ◌∷◌, ◌++◌, length, map, take, drop, add-one, refl, sym, ap, ◌∙◌, arith, length-drop}
use Rattle.dioc_terms.specs.Bundles.{numbers_from}
use Rattle.dioc_terms.specs.Terms.{Term, Seq}
use Rattle.load_gen.specs.declared.draws.Kind.{Kind}
use Rattle.load_gen.specs.Blocks.{block, blocks, role_after, roles_after}
use Rattle.load_gen.specs.Draws.{drawn, kind_of, kinds}
use Rattle.load_gen.specs.Made.{groups_of_twenty, opening_steps, pass, sequence, text}
use Rattle.load_gen.proofs.Accepting.{kinds_count}
use Rattle.load_gen.proofs.Chains.{more_groups, one_group}

-- the kinds that are left to draw
pub kinds_more : (size i x : ℕ) → i < size
    → kinds (size - i) x ≡ kind_of (drawn x) ∷ kinds (size - (i + 1)) (drawn x)
kinds_more size i x within =
    let left : size - i ≡ suc (size - (i + 1)) = omega arith in
    rw left refl

-- one more number, and what is made of each
numbers_last : (n k : ℕ) → numbers_from n (suc k) ≡ numbers_from n k ++ (n + k) ∷ []
numbers_last n zero =
    let same : n ≡ n + 0 = omega arith in
    ap (λ (m : ℕ). m ∷ []) same
numbers_last n (suc k) =
    let same : suc n + k ≡ n + suc k = omega arith in
    ap (λ l. n ∷ l) (numbers_last (suc n) k
    ∙ ap (λ (m : ℕ). numbers_from (suc n) k ++ m ∷ []) same)

map_last : {A : Type 0} (f : ℕ → A) (ns : List ℕ) (m : ℕ)
    → map f (ns ++ m ∷ []) ≡ map f ns ++ f m ∷ []
map_last f [] m = refl
map_last f (n ∷ ns) m = ap (λ l. f n ∷ l) (map_last f ns m)

pub made_last : {A : Type 0} (f : ℕ → A) (j : ℕ)
    → map f (numbers_from 0 (j + 1)) ≡ map f (numbers_from 0 j) ++ f j ∷ []
made_last f j =
    ap (λ (k : ℕ). map f (numbers_from 0 k)) (add-one j) ∙ ap (map f) (numbers_last 0 j)
    ∙ map_last f (numbers_from 0 j) (0 + j)
    ∙ (let same : 0 + j ≡ j = omega arith in ap (λ (m : ℕ). map f (numbers_from 0 j) ++ f m ∷ []) same)

-- one block before others
pub block_more : (kind : Kind) (rest : List Kind) (b c : ℕ) → 0 < length rest
    → Seq (block kind b c) (sequence (blocks rest (b + 1) (role_after kind c)))
    ≡ sequence (blocks (kind ∷ rest) b c)
block_more kind [] b c some = absurd (omega arith)
block_more kind (next ∷ rest) b c some =
    ap (λ (d : ℕ). Seq (block kind b c) (sequence (blocks (next ∷ rest) d (role_after kind c))))
    (add-one b)

-- one part before others, of which the last is the rest
part_more : (I : Term) (Is : List Term) (R : Term)
    → sequence (I ∷ (Is ++ R ∷ [])) ≡ Seq I (sequence (Is ++ R ∷ []))
part_more I [] R = refl
part_more I (K ∷ Is) R = refl

pub pass_more : (j : ℕ) (R : Term) → j < 8
    → Seq (pass j) (sequence (map pass (numbers_from (j + 1) (8 - (j + 1))) ++ R ∷ []))
    ≡ sequence (map pass (numbers_from j (8 - j)) ++ R ∷ [])
pass_more j R within =
    let left : 8 - j ≡ suc (8 - suc j) = omega arith in
    ap (λ (k : ℕ). Seq (pass j) (sequence (map pass (numbers_from k (8 - k)) ++ R ∷ []))) (add-one j)
    ∙ sym (ap (λ (k : ℕ). sequence (map pass (numbers_from j k) ++ R ∷ [])) left
    ∙ part_more (pass j) (map pass (numbers_from (suc j) (8 - suc j))) R)

pub pass_none : (j : ℕ) (R : Term) → j ≡ 8 → R ≡ sequence (map pass (numbers_from j (8 - j)) ++ R ∷ [])
pass_none j R all = rw all refl

-- at most 20 blocks are one group, and more are a group and the groups behind it
pub few_groups : (kinds : List Kind) (b c : ℕ) → 0 < length kinds → length kinds ≤ 20
    → sequence (blocks kinds b c)
    ≡ sequence (map sequence (groups_of_twenty ((length kinds + 19) / 20) (blocks kinds b c)))
few_groups kinds b c some few =
    let one : (length kinds + 19) / 20 ≡ 1 = omega arith in
    rw one (sym (one_group kinds b c few))

pub many_groups : (kinds : List Kind) (b c : ℕ) → 20 < length kinds
    → Seq (sequence (blocks (take 20 kinds) b c)) (sequence (map sequence
    (groups_of_twenty ((length (drop 20 kinds) + 19) / 20)
    (blocks (drop 20 kinds) (b + 20) (roles_after (take 20 kinds) c)))))
    ≡ sequence (map sequence (groups_of_twenty ((length kinds + 19) / 20) (blocks kinds b c)))
many_groups kinds b c many =
    let left = length-drop 20 kinds in
    let rest : (length (drop 20 kinds) + 19) / 20 ≡ suc ((length kinds - 21) / 20) = omega arith in
    let all : (length kinds + 19) / 20 ≡ suc (suc ((length kinds - 21) / 20)) = omega arith in
    rw (rest, all) (sym (more_groups ((length kinds - 21) / 20) kinds b c (omega arith)))

-- the opening before the groups
joined : (count : ℕ) (Is : List Term)
    → sequence (opening_steps ++ sequence (map sequence (groups_of_twenty (suc count) Is)) ∷ [])
    ≡ sequence (opening_steps ++ map sequence (groups_of_twenty (suc count) Is))
joined zero Is = refl
joined (suc count) Is = refl

pub text_joined : (seed size : ℕ) (all : List Kind) → 1 ≤ size → all ≡ kinds size seed
    → sequence (opening_steps ++ sequence (map sequence (groups_of_twenty ((length all + 19) / 20)
    (blocks all 0 0))) ∷ []) ≡ text seed size
text_joined seed size all some are =
    let count : (size + 19) / 20 ≡ suc ((size - 1) / 20) = omega arith in
    rw (are, kinds_count size seed, count) (joined ((size - 1) / 20) (blocks (kinds size seed) 0 0))
