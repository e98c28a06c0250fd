-- Each made bundle is accepted.
use Rattle.std.proofs.Common.{◌≡◌, ℕ, zero, suc, ◌+◌, ◌*◌, ◌/◌, ◌<◌, ◌≤◌, List, [], ◌∷◌, ◌++◌, length, map, Bool, true, false, ◌&&◌, All, None, inl, refl, sym, ap, subst, arith, nat_lt}
use Rattle.std.specs.List.{AllByRecursion, list_all}
use Rattle.std.proofs.lemmas.Bool.{agree_below_at, and_parts, le-ltb}
use Rattle.std.proofs.lemmas.List.Elements.{All-from_recursion}
use Rattle.dioc_terms.specs.declared.names.Role.{Role}
use Rattle.dioc_terms.specs.Bundles.{IsFormed, IsFormedRule, IsFormedTerm, has_formed_parts, is_formed_condition, is_formed_timed, is_identifier, names_no_roles}
use Rattle.dioc_terms.specs.Names.{is_reserved, reserved_words}
use Rattle.dioc_terms.specs.Terms.{Term, cast_of, depth, indexed, indexed_from, mentions, nodes, self_messages}
use Rattle.connectedness.specs.Connected.{connected, first_gap}
use Rattle.connectedness.specs.Laws.{GapsAreFound}
use Rattle.rule_checks.specs.Refusals.{IsAccepted}
use Rattle.load_gen.specs.declared.draws.Kind.{Kind}
use Rattle.load_gen.specs.Blocks.{blocks}
use Rattle.load_gen.specs.Draws.{drawn, kind_of, kinds}
use Rattle.load_gen.specs.Laws.{MadeAreAccepted}
use Rattle.load_gen.specs.Made.{body, choreography, condition, eight, groups_of_twenty, made, opening_steps, rule, rule_name, script, sequence, text}
use Rattle.load_gen.specs.Pieces.{role_numbered}
use Rattle.load_gen.proofs.BlockWholes.{cast, first_whole, pass_whole}
use Rattle.load_gen.proofs.Casts.{none_new}
use Rattle.load_gen.proofs.Chains.{groups_count, groups_small, groups_whole}
use Rattle.load_gen.proofs.Sizes.{IsSmall, depth_marked, marked_twice, nodes_marked, text_small}
use Rattle.load_gen.proofs.Wholes.{Whole, seq_whole}

pub kinds_count : (count x : ℕ) → length (kinds count x) ≡ count
kinds_count zero x = refl
kinds_count (suc count) x = ap (λ n. suc n) (kinds_count count (drawn x))

-- the text of these kinds, with so many groups
abbrev text_with : ℕ → List Kind → Term
text_with count kinds = sequence (opening_steps ++ map sequence (groups_of_twenty count (blocks kinds 0 0)))

abbrev blocks_with : ℕ → List Kind → Term
blocks_with count kinds = sequence (map sequence (groups_of_twenty count (blocks kinds 0 0)))

-- the roles that the opening names
abbrev opening_mentions : List Role
opening_mentions = mentions (sequence opening_steps)

-- what acceptance asks of a choreography
record Fits (I : Term) : Type 0 where
  term : IsFormedTerm I
  cast : cast ≡ cast_of I
  linked : connected I ≡ true
  apart : self_messages I ≡ []
  plain : names_no_roles I ≡ true
  few : nodes I ≤ 5000

leaf_small : (I : Term) → nodes I ≡ 1 → depth I ≡ 1 → IsSmall 141 25 I
leaf_small I one deep = record { nodes = omega arith; depth = omega arith }

opening_small : (Is : List Term) → AllByRecursion (IsSmall 141 25) Is
    → AllByRecursion (IsSmall 141 25) (opening_steps ++ Is)
opening_small Is small = (
  leaf_small _ refl refl,
  (
    leaf_small _ refl refl,
    (
      leaf_small _ refl refl,
      (
        leaf_small _ refl refl,
        (
          leaf_small _ refl refl,
          (
            leaf_small _ refl refl,
            (leaf_small _ refl refl, (leaf_small _ refl refl, (leaf_small _ refl refl, small))),
          ),
        ),
      ),
    ),
  ),
)

whole_text : (count : ℕ) (kinds : List Kind) (last : Role)
    → Whole cast (indexed_from 9 (blocks_with (suc count) kinds)) (role_numbered 0) last
    → Whole cast (indexed (text_with (suc count) kinds)) (role_numbered 0) last
whole_text count kinds last rest =
    seq_whole cast _ _ (role_numbered 0) (role_numbered 0) last (first_whole 0)
    (seq_whole cast _ _ (role_numbered 0) (role_numbered 1) last (pass_whole 0 (omega arith) 1)
    (seq_whole cast _ _ (role_numbered 1) (role_numbered 2) last (pass_whole 1 (omega arith) 2)
    (seq_whole cast _ _ (role_numbered 2) (role_numbered 3) last (pass_whole 2 (omega arith) 3)
    (seq_whole cast _ _ (role_numbered 3) (role_numbered 4) last (pass_whole 3 (omega arith) 4)
    (seq_whole cast _ _ (role_numbered 4) (role_numbered 5) last (pass_whole 4 (omega arith) 5)
    (seq_whole cast _ _ (role_numbered 5) (role_numbered 6) last (pass_whole 5 (omega arith) 6)
    (seq_whole cast _ _ (role_numbered 6) (role_numbered 7) last (pass_whole 6 (omega arith) 7)
    (seq_whole cast _ _ (role_numbered 7) (role_numbered 0) last (pass_whole 7 (omega arith) 8) rest))))))))

-- few nodes, before the text has its indices
pub text_nodes : (seed size : ℕ) → size ≤ 400 → nodes (text seed size) ≤ 4294967295
text_nodes seed size few =
    let count : (size + 19) / 20 ≤ 20 = omega arith in
    let Is = blocks (kinds size seed) 0 0 in
    let number = groups_count ((size + 19) / 20) Is in
    let small = text_small (opening_steps ++ map sequence (groups_of_twenty ((size + 19) / 20) Is))
    (opening_small (map sequence (groups_of_twenty ((size + 19) / 20) Is))
    (groups_small ((size + 19) / 20) (kinds size seed) 0 0)) (omega arith) in
    let most = small.nodes in
    omega arith

text_fits : (count : ℕ) (kind : Kind) (kinds : List Kind) → 20 * count < suc (length kinds)
    → suc (length kinds) ≤ 20 * count + 20 → suc (length kinds) ≤ 400
    → Fits (indexed (text_with (suc count) (kind ∷ kinds)))
text_fits count kind kinds many few fits =
    let rest = groups_whole count kind kinds 0 0 many few (omega arith) (omega arith) 9 in
    let whole = whole_text count (kind ∷ kinds) rest.0 rest.1 in
    let number = groups_count (suc count) (blocks (kind ∷ kinds) 0 0) in
    let small = text_small (opening_steps ++ map sequence (groups_of_twenty (suc count) (blocks (kind ∷ kinds) 0 0)))
    (opening_small (map sequence (groups_of_twenty (suc count) (blocks (kind ∷ kinds) 0 0)))
    (groups_small (suc count) (kind ∷ kinds) 0 0)) (omega arith) in
    let size = small.nodes in
    let deep = small.depth in
    let same_size = nodes_marked 0 (text_with (suc count) (kind ∷ kinds)) in
    let same_depth = depth_marked 0 (text_with (suc count) (kind ∷ kinds)) in
    record {
      term = record {
        indices = marked_twice 0 (text_with (suc count) (kind ∷ kinds));
        parts = whole.formed;
        depth = omega arith;
      };
      cast = sym (none_new opening_mentions
          (mentions (indexed_from 9 (blocks_with (suc count) (kind ∷ kinds)))) rest.1.known);
      linked = whole.linked;
      apart = whole.apart;
      plain = whole.plain;
      few = omega arith;
    }

choreography_fits : (seed size : ℕ) → size ≤ 399 → Fits (choreography seed (suc size))
choreography_fits seed size few =
    let count : (suc size + 19) / 20 ≡ suc (size / 20) = omega arith in
    let length = kinds_count size (drawn seed) in
    subst (λ (n : ℕ). Fits (indexed (text_with n (kinds (suc size) seed)))) (sym count)
    (text_fits (size / 20) (kind_of (drawn seed)) (kinds size (drawn seed)) (omega arith)
    (omega arith) (omega arith))

-- the rules and the script
abbrev rule_test : ℕ → Bool
rule_test j =
    is_identifier (rule_name j) && is_formed_condition (condition j) && has_formed_parts (body j)

rule_tested : (j : ℕ) → j < 8 → rule_test j ≡ true
unfolding is_reserved reserved_words
rule_tested j below = agree_below_at rule_test (λ _. true) 8 j refl below

rule_formed : (j : ℕ) → j < 8 → IsFormedRule (rule j)
rule_formed j below =
    let all = and_parts (is_identifier (rule_name j) && is_formed_condition (condition j)) _
    (rule_tested j below) in
    let front = and_parts (is_identifier (rule_name j)) _ all.0 in
    record {
      name = front.0;
      least = refl;
      most = refl;
      condition = front.1;
      body = record { indices = refl; parts = all.1; depth = omega arith };
    }

script_formed : list_all is_formed_timed script ≡ true
unfolding is_reserved reserved_words
script_formed = refl

rules_formed : All IsFormedRule (map rule eight)
rules_formed = All-from_recursion IsFormedRule (map rule eight) (
  rule_formed 0 (omega arith),
  (
    rule_formed 1 (omega arith),
    (
      rule_formed 2 (omega arith),
      (
        rule_formed 3 (omega arith),
        (
          rule_formed 4 (omega arith),
          (
            rule_formed 5 (omega arith),
            (rule_formed 6 (omega arith), (rule_formed 7 (omega arith), tt)),
          ),
        ),
      ),
    ),
  ),
)

made_formed : (seed size : ℕ) → Fits (choreography seed size) → IsFormed (made seed size)
made_formed seed size fits = record {
  version = inl (refl, fits.plain, refl);
  cast = fits.cast;
  choreo = fits.term;
  rules = rules_formed;
  opening = omega arith;
  added = refl;
  env = refl;
  inputs = refl;
  script = script_formed;
  trace = refl;
  last = refl;
}

made_accepted : GapsAreFound → (seed size : ℕ) → Fits (choreography seed size)
    → IsAccepted (made seed size)
made_accepted law seed size fits =
    let few : nat_lt 5000 (nodes (choreography seed size)) ≡ false = le-ltb 5000 _ fits.few in
    let apart : self_messages (choreography seed size) ≡ [] = fits.apart in
    let linked : first_gap cast (choreography seed size) ≡ None =
    law.none cast (choreography seed size) fits.linked in
    record { formed = made_formed seed size fits; no_refusal = rw (few, apart, linked) refl }

pub made-are_accepted : GapsAreFound → MadeAreAccepted
made-are_accepted law seed zero some few = absurd (omega arith)
made-are_accepted law seed (suc size) some few =
    made_accepted law seed (suc size) (choreography_fits seed size (omega arith))
