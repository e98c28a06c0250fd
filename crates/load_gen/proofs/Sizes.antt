-- How large a made choreography is, and that marks change no size.
use Rattle.std.proofs.Common.{◌≡◌, ℕ, suc, ◌+◌, ◌*◌, ◌≤◌, max, List, [], ◌∷◌, length, refl, ap, ap₂, arith}
use Rattle.std.specs.List.{AllByRecursion}
use Rattle.dioc_terms.specs.Terms as term
use Rattle.dioc_terms.specs.Terms.{Term, constructs, depth, index_at, indexed_from, nodes}
use Rattle.load_gen.specs.declared.draws.Kind.{Kind}
use Rattle.load_gen.specs.declared.draws.Kind.TheVariants as kind
use Rattle.load_gen.specs.Blocks.{block}
use Rattle.load_gen.specs.Made.{sequence}

pub nodes_marked : (n : ℕ) (I : Term) → nodes (indexed_from n I) ≡ nodes I
nodes_marked n term.Skip = refl
nodes_marked n (term.Com i o a e b x) = refl
nodes_marked n (term.Set i x r e) = refl
nodes_marked n (term.Input i x r) = refl
nodes_marked n (term.Seq I K) =
    ap₂ (λ s t. suc (s + t)) (nodes_marked n I) (nodes_marked (n + constructs I) K)
nodes_marked n (term.Par I K) =
    ap₂ (λ s t. suc (s + t)) (nodes_marked n I) (nodes_marked (n + constructs I) K)
nodes_marked n (term.If i r g I K) =
    ap₂ (λ s t. suc (s + t)) (nodes_marked (suc n) I) (nodes_marked (suc n + constructs I) K)
nodes_marked n (term.While i r g I) = ap (λ s. suc s) (nodes_marked (suc n) I)
nodes_marked n (term.Scope i r I extra props level) = ap (λ s. suc s) (nodes_marked (suc n) I)

pub depth_marked : (n : ℕ) (I : Term) → depth (indexed_from n I) ≡ depth I
depth_marked n term.Skip = refl
depth_marked n (term.Com i o a e b x) = refl
depth_marked n (term.Set i x r e) = refl
depth_marked n (term.Input i x r) = refl
depth_marked n (term.Seq I K) =
    ap₂ (λ s t. suc (max s t)) (depth_marked n I) (depth_marked (n + constructs I) K)
depth_marked n (term.Par I K) =
    ap₂ (λ s t. suc (max s t)) (depth_marked n I) (depth_marked (n + constructs I) K)
depth_marked n (term.If i r g I K) =
    ap₂ (λ s t. suc (max s t)) (depth_marked (suc n) I) (depth_marked (suc n + constructs I) K)
depth_marked n (term.While i r g I) = ap (λ s. suc s) (depth_marked (suc n) I)
depth_marked n (term.Scope i r I extra props level) = ap (λ s. suc s) (depth_marked (suc n) I)

constructs_marked : (n : ℕ) (I : Term) → constructs (indexed_from n I) ≡ constructs I
constructs_marked n term.Skip = refl
constructs_marked n (term.Com i o a e b x) = refl
constructs_marked n (term.Set i x r e) = refl
constructs_marked n (term.Input i x r) = refl
constructs_marked n (term.Seq I K) =
    ap₂ (λ s t. s + t) (constructs_marked n I) (constructs_marked (n + constructs I) K)
constructs_marked n (term.Par I K) =
    ap₂ (λ s t. s + t) (constructs_marked n I) (constructs_marked (n + constructs I) K)
constructs_marked n (term.If i r g I K) =
    ap₂ (λ s t. suc (s + t)) (constructs_marked (suc n) I)
    (constructs_marked (suc n + constructs I) K)
constructs_marked n (term.While i r g I) = ap (λ s. suc s) (constructs_marked (suc n) I)
constructs_marked n (term.Scope i r I extra props level) =
    ap (λ s. suc s) (constructs_marked (suc n) I)

-- marks that a text gives stay where it gives them again
pub marked_twice : (n : ℕ) (I : Term) → indexed_from n I ≡ indexed_from n (indexed_from n I)
marked_twice n term.Skip = refl
marked_twice n (term.Com i o a e b x) = refl
marked_twice n (term.Set i x r e) = refl
marked_twice n (term.Input i x r) = refl
marked_twice n (term.Seq I K) =
    rw (constructs_marked n I) (ap₂ term.Seq (marked_twice n I) (marked_twice (n + constructs I) K))
marked_twice n (term.Par I K) =
    rw (constructs_marked n I) (ap₂ term.Par (marked_twice n I) (marked_twice (n + constructs I) K))
marked_twice n (term.If i r g I K) =
    rw (constructs_marked (suc n) I) (ap₂ (term.If (index_at n) r g) (marked_twice (suc n) I)
    (marked_twice (suc n + constructs I) K))
marked_twice n (term.While i r g I) = ap (term.While (index_at n) r g) (marked_twice (suc n) I)
marked_twice n (term.Scope i r I extra props level) =
    ap (λ (K : Term). term.Scope (index_at n) r K extra props 0) (marked_twice (suc n) I)

-- at most so many nodes, and at most so deep
pub record IsSmall (most deepest : ℕ) (I : Term) : Type 0 where
  pub nodes : nodes I ≤ most
  pub depth : depth I ≤ deepest

pub block_small : (kind : Kind) (b c : ℕ) → IsSmall 6 4 (block kind b c)
block_small kind.Message b c = record { nodes = omega arith; depth = omega arith }
block_small kind.Choice b c = record { nodes = omega arith; depth = omega arith }
block_small kind.Loop b c = record { nodes = omega arith; depth = omega arith }
block_small kind.Scope b c = record { nodes = omega arith; depth = omega arith }

-- so much for each of these
abbrev total : ℕ → List Term → ℕ
total k [] = 0
total k (I ∷ Is) = k + total k Is

-- each part and the sequence before it
sequence_total : (most deepest : ℕ) (Is : List Term) → AllByRecursion (IsSmall most deepest) Is
    → IsSmall (suc (total (suc most) Is)) (suc (deepest + length Is)) (sequence Is)
sequence_total most deepest [] small = record { nodes = omega arith; depth = omega arith }
sequence_total most deepest (I ∷ []) small =
    let one = small.0.nodes in
    let deep = small.0.depth in
    record { nodes = omega arith; depth = omega arith }
sequence_total most deepest (I ∷ K ∷ Is) small =
    let one = small.0.nodes in
    let deep = small.0.depth in
    let rest = sequence_total most deepest (K ∷ Is) small.1 in
    let more = rest.nodes in
    let deeper = rest.depth in
    record { nodes = omega arith; depth = omega arith }

seven_each : (Is : List Term) → total 7 Is ≡ 7 * length Is
seven_each [] = refl
seven_each (I ∷ Is) = let rest = seven_each Is in omega arith

many_each : (Is : List Term) → total 142 Is ≡ 142 * length Is
many_each [] = refl
many_each (I ∷ Is) = let rest = many_each Is in omega arith

-- a group of at most 20 blocks
pub group_small : (Is : List Term) → AllByRecursion (IsSmall 6 4) Is → length Is ≤ 20
    → IsSmall 141 25 (sequence Is)
group_small Is small few =
    let all = sequence_total 6 4 Is small in
    let more = all.nodes in
    let deep = all.depth in
    let each = seven_each Is in
    record { nodes = omega arith; depth = omega arith }

-- a choreography of at most 29 such parts
pub text_small : (Is : List Term) → AllByRecursion (IsSmall 141 25) Is → length Is ≤ 29
    → IsSmall 4119 55 (sequence Is)
text_small Is small few =
    let all = sequence_total 141 25 Is small in
    let more = all.nodes in
    let deep = all.depth in
    let each = many_each Is in
    record { nodes = omega arith; depth = omega arith }
