-- The blocks in groups of 20: each group and all groups begin with the role that has the token.
use Rattle.std.proofs.Common.{◌≡◌, ℕ, zero, suc, ◌+◌, ◌*◌, ◌<◌, ◌≤◌, List, [], ◌∷◌, length, map, take, drop, refl, sym, ap, ap₂, subst, ◌∙◌, arith, length-drop, length-take}
use Rattle.std.proofs.lemmas.List.{take_all}
use Rattle.std.specs.List.{AllByRecursion}
use Rattle.dioc_terms.specs.declared.names.Role.{Role}
use Rattle.dioc_terms.specs.Terms.{Term, Seq, constructs, indexed_from}
use Rattle.load_gen.specs.declared.draws.Kind.{Kind}
use Rattle.load_gen.specs.declared.draws.Kind.TheVariants as kind
use Rattle.load_gen.specs.Blocks.{block, blocks, role_after, roles_after}
use Rattle.load_gen.specs.Made.{groups_of_twenty, sequence}
use Rattle.load_gen.specs.Pieces.{role_numbered}
use Rattle.load_gen.proofs.BlockWholes.{block_whole, cast}
use Rattle.load_gen.proofs.Sizes.{IsSmall, block_small, group_small}
use Rattle.load_gen.proofs.Wholes.{Whole, seq_whole}

pub after_below : (kind : Kind) (c : ℕ) → c < 8 → role_after kind c < 8
after_below kind.Message c below = omega arith
after_below kind.Choice c below = omega arith
after_below kind.Loop c below = below
after_below kind.Scope c below = omega arith

pub all_below : (kinds : List Kind) (c : ℕ) → c < 8 → roles_after kinds c < 8
all_below [] c below = below
all_below (kind ∷ kinds) c below = all_below kinds (role_after kind c) (after_below kind c below)

-- the blocks of some kinds
pub blocks_count : (kinds : List Kind) (b c : ℕ) → length (blocks kinds b c) ≡ length kinds
blocks_count [] b c = refl
blocks_count (kind ∷ kinds) b c = ap (λ n. suc n) (blocks_count kinds (suc b) (role_after kind c))

pub take_blocks : (n : ℕ) (kinds : List Kind) (b c : ℕ)
    → take n (blocks kinds b c) ≡ blocks (take n kinds) b c
take_blocks zero kinds b c = refl
take_blocks (suc n) [] b c = refl
take_blocks (suc n) (kind ∷ kinds) b c =
    ap (λ l. block kind b c ∷ l) (take_blocks n kinds (suc b) (role_after kind c))

pub drop_blocks : (n : ℕ) (kinds : List Kind) (b c : ℕ) → n ≤ length kinds
    → drop n (blocks kinds b c) ≡ blocks (drop n kinds) (b + n) (roles_after (take n kinds) c)
drop_blocks zero kinds b c few =
    let same : b ≡ b + 0 = omega arith in
    ap (λ d. blocks kinds d c) same
drop_blocks (suc n) [] b c few = absurd (omega arith)
drop_blocks (suc n) (kind ∷ kinds) b c few =
    let same : suc b + n ≡ b + suc n = omega arith in
    drop_blocks n kinds (suc b) (role_after kind c) (omega arith)
    ∙ ap (λ d. blocks (drop n kinds) d (roles_after (take n kinds) (role_after kind c))) same

pub blocks_whole : (kind : Kind) (kinds : List Kind) (b c : ℕ) → b + suc (length kinds) ≤ 400
    → c < 8 → (n : ℕ)
    → Whole cast (indexed_from n (sequence (blocks (kind ∷ kinds) b c))) (role_numbered c)
    (role_numbered (roles_after (kind ∷ kinds) c))
blocks_whole kind [] b c few below n = block_whole kind b c (omega arith) below n
blocks_whole kind (next ∷ kinds) b c few below n =
    seq_whole cast _ _ (role_numbered c) (role_numbered (role_after kind c)) _
    (block_whole kind b c (omega arith) below n)
    (blocks_whole next kinds (suc b) (role_after kind c) (omega arith) (after_below kind c below)
    (n + constructs (block kind b c)))

-- few blocks are one group
pub one_group : (kinds : List Kind) (b c : ℕ) → length kinds ≤ 20
    → sequence (map sequence (groups_of_twenty 1 (blocks kinds b c))) ≡ sequence (blocks kinds b c)
one_group kinds b c few =
    let count = blocks_count kinds b c in
    ap sequence (take_all 20 (blocks kinds b c) (omega arith))

-- more are a group and the groups behind it
pub more_groups : (count : ℕ) (kinds : List Kind) (b c : ℕ) → 20 ≤ length kinds
    → sequence (map sequence (groups_of_twenty (suc (suc count)) (blocks kinds b c)))
    ≡ Seq (sequence (blocks (take 20 kinds) b c)) (sequence (map sequence
    (groups_of_twenty (suc count) (blocks (drop 20 kinds) (b + 20) (roles_after (take 20 kinds) c)))))
more_groups count kinds b c many =
    ap₂ Seq (ap sequence (take_blocks 20 kinds b c))
    (ap (λ (l : List Term). sequence (map sequence (groups_of_twenty (suc count) l)))
    (drop_blocks 20 kinds b c many))

-- the groups of 20 * count blocks and some more, at most 20, of which the first is of this kind
abbrev GroupsWhole : ℕ → Type 0
GroupsWhole count = (kind : Kind) (kinds : List Kind) (b c : ℕ) → 20 * count < suc (length kinds)
    → suc (length kinds) ≤ 20 * count + 20 → b + suc (length kinds) ≤ 400 → c < 8 → (n : ℕ)
    → (last : Role) × Whole cast (indexed_from n (sequence (map sequence
    (groups_of_twenty (suc count) (blocks (kind ∷ kinds) b c))))) (role_numbered c) last

groups_after : (count : ℕ) → GroupsWhole count → GroupsWhole (suc count)
groups_after count later kind kinds b c many few fits below n = by (drop 19 kinds) refl
  where
    d : ℕ
    d = roles_after (take 20 (kind ∷ kinds)) c

    short : length (take 19 kinds) ≤ 19
    short = let l = length-take 19 kinds in omega arith

    by : (rest : List Kind) → drop 19 kinds ≡ rest
        → (last : Role) × Whole cast (indexed_from n (sequence (map sequence
        (groups_of_twenty (suc (suc count)) (blocks (kind ∷ kinds) b c))))) (role_numbered c) last
    by [] is =
        let left = length-drop 19 kinds in
        let none : length (drop 19 kinds) ≡ 0 = ap length is in
        absurd (omega arith)
    by (other ∷ others) is =
        let left = length-drop 19 kinds in
        let some : length (drop 19 kinds) ≡ suc (length others) = ap length is in
        let taken : length (take 19 kinds) ≤ 19 = short in
        let I : Term = sequence (blocks (take 20 (kind ∷ kinds)) b c) in
        let rest = later other others (b + 20) d (omega arith) (omega arith) (omega arith)
        (all_below (take 20 (kind ∷ kinds)) c below) (n + constructs I) in (
          rest.0,
          subst (λ (K : Term). Whole cast (indexed_from n K) (role_numbered c) rest.0)
              (sym (more_groups count (kind ∷ kinds) b c (omega arith)))
              (seq_whole cast _ _ (role_numbered c) (role_numbered d) rest.0
              (blocks_whole kind (take 19 kinds) b c (omega arith) below n)
              (subst (λ (l : List Kind). Whole cast (indexed_from (n + constructs I) (sequence
              (map sequence (groups_of_twenty (suc count) (blocks l (b + 20) d))))) (role_numbered d) rest.0) (sym is)
              rest.1)),
        )

pub groups_whole : (count : ℕ) → GroupsWhole count
groups_whole zero kind kinds b c many few fits below n = (
  role_numbered (roles_after (kind ∷ kinds) c),
  subst (λ (I : Term). Whole cast (indexed_from n I) (role_numbered c) (role_numbered (roles_after (kind ∷ kinds) c)))
      (sym (one_group (kind ∷ kinds) b c (omega arith))) (blocks_whole kind kinds b c fits below n),
)
groups_whole (suc count) kind kinds b c many few fits below n =
    groups_after count (groups_whole count) kind kinds b c many few fits below n

-- each group is small
each_small : (kinds : List Kind) (b c : ℕ) → AllByRecursion (IsSmall 6 4) (blocks kinds b c)
each_small [] b c = tt
each_small (kind ∷ kinds) b c =
    (block_small kind b c, each_small kinds (suc b) (role_after kind c))

module _ (P : Term → Type 0) where
  taken_all : (n : ℕ) (Is : List Term) → AllByRecursion P Is → AllByRecursion P (take n Is)
  taken_all zero Is all = tt
  taken_all (suc n) [] all = tt
  taken_all (suc n) (I ∷ Is) all = (all.0, taken_all n Is all.1)

  dropped_all : (n : ℕ) (Is : List Term) → AllByRecursion P Is → AllByRecursion P (drop n Is)
  dropped_all zero Is all = all
  dropped_all (suc n) [] all = tt
  dropped_all (suc n) (I ∷ Is) all = dropped_all n Is all.1

small_groups : (count : ℕ) (Is : List Term) → AllByRecursion (IsSmall 6 4) Is
    → AllByRecursion (IsSmall 141 25) (map sequence (groups_of_twenty count Is))
small_groups zero Is small = tt
small_groups (suc count) Is small = (
  group_small (take 20 Is) (taken_all (IsSmall 6 4) 20 Is small)
      (let l = length-take 20 Is in omega arith),
  small_groups count (drop 20 Is) (dropped_all (IsSmall 6 4) 20 Is small),
)

pub groups_small : (count : ℕ) (kinds : List Kind) (b c : ℕ)
    → AllByRecursion (IsSmall 141 25) (map sequence (groups_of_twenty count (blocks kinds b c)))
groups_small count kinds b c = small_groups count (blocks kinds b c) (each_small kinds b c)

pub groups_count : (count : ℕ) (Is : List Term) → length (map sequence (groups_of_twenty count Is)) ≡ count
groups_count zero Is = refl
groups_count (suc count) Is = ap (λ n. suc n) (groups_count count (drop 20 Is))
