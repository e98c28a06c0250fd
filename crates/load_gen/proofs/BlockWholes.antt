-- Each block begins with the role that has the token, and ends with the one that has it then.
use Rattle.std.proofs.Common.{◌≡◌, ℕ, suc, ◌+◌, ◌<◌, List, [], ◌∷◌, Bool, true, ◌&&◌, not, map, codes, pos, refl, arith}
use Rattle.std.proofs.lemmas.Bool.{agree_below_at, and_from, and_parts, not-true}
use Rattle.dioc_terms.specs.declared.expressions.Oper.TheVariants.{Add, Lt}
use Rattle.dioc_terms.specs.declared.names.Role.{Role}
use Rattle.dioc_terms.specs.declared.values.Value.TheVariants.{Int}
use Rattle.dioc_terms.specs.Bundles.{is_constant, is_formed_role, is_formed_step, is_identifier}
use Rattle.dioc_terms.specs.Equality.{member, role_eq}
use Rattle.dioc_terms.specs.Expressions.{Bin, Var}
use Rattle.dioc_terms.specs.Names.{is_reserved, reserved_words}
use Rattle.dioc_terms.specs.Terms.{index_at, indexed_from}
use Rattle.load_gen.specs.declared.draws.Kind.{Kind}
use Rattle.load_gen.specs.declared.draws.Kind.TheVariants as kind
use Rattle.load_gen.specs.Blocks.{block, counter, message_name, role_after}
use Rattle.load_gen.specs.Made.{eight, pass}
use Rattle.load_gen.specs.Pieces.{is_even_token, next, number_literal, role_numbered, setting_variable, token, token_plus, with_digit}
use Rattle.load_gen.proofs.Naming.{numbered_is_name, with_digit_is_name}
use Rattle.load_gen.proofs.Wholes.{Two, Whole, com_back, com_whole, if_whole, scope_whole, seq_whole, set_whole, while_whole}

abbrev pub cast : List Role
cast = map role_numbered eight

-- what holds of each of the eight roles and the next one, as tests
abbrev two_test : ℕ → Bool
two_test c =
    role_eq (role_numbered c) (role_numbered c) && role_eq (role_numbered (next c)) (role_numbered (next c))
    && not (role_eq (role_numbered c) (role_numbered (next c))) && not (role_eq (role_numbered (next c)) (role_numbered c))
    && is_formed_role (role_numbered c) && is_formed_role (role_numbered (next c)) && member (role_numbered c) cast
    && member (role_numbered (next c)) cast

two_tested : (c : ℕ) → c < 8 → two_test c ≡ true
unfolding is_reserved reserved_words
two_tested c below = agree_below_at two_test (λ _. true) 8 c refl below

eight_parts : (p q r s t u v w : Bool) → (p && q && r && s && t && u && v && w) ≡ true
    → (p ≡ true) × (q ≡ true) × (r ≡ true) × (s ≡ true) × (t ≡ true) × (u ≡ true) × (v ≡ true)
    × (w ≡ true)
eight_parts p q r s t u v w all =
    let g = and_parts (p && q && r && s && t && u && v) w all in
    let f = and_parts (p && q && r && s && t && u) v g.0 in
    let e = and_parts (p && q && r && s && t) u f.0 in
    let d = and_parts (p && q && r && s) t e.0 in
    let c = and_parts (p && q && r) s d.0 in
    let b = and_parts (p && q) r c.0 in
    let a = and_parts p q b.0 in
    (a.0, a.1, b.1, c.1, d.1, e.1, f.1, g.1)

pub two_of : (c : ℕ) → c < 8 → Two cast (role_numbered c) (role_numbered (next c))
two_of c below =
    let all = eight_parts (role_eq (role_numbered c) (role_numbered c)) (role_eq (role_numbered (next c)) (role_numbered (next c)))
    (not (role_eq (role_numbered c) (role_numbered (next c)))) (not (role_eq (role_numbered (next c)) (role_numbered c)))
    (is_formed_role (role_numbered c)) (is_formed_role (role_numbered (next c))) (member (role_numbered c) cast)
    (member (role_numbered (next c)) cast) (two_tested c below) in
    record {
      here = all.0;
      there = all.1;
      apart = not-true _ all.2;
      back = not-true _ all.3;
      named = all.4;
      next_named = all.5;
      known = all.6;
      next_known = all.7;
    }

-- the names and steps of blocks
token_named : is_identifier token ≡ true
unfolding is_reserved reserved_words
token_named = refl

token_step : is_formed_step (Var token) ≡ true
unfolding is_reserved reserved_words
token_step = refl

one_more : is_formed_step (token_plus 1) ≡ true
unfolding is_reserved reserved_words
one_more = refl

two_more : is_formed_step (token_plus 2) ≡ true
unfolding is_reserved reserved_words
two_more = refl

even_step : is_formed_step is_even_token ≡ true
unfolding is_reserved reserved_words
even_step = refl

key_named : is_identifier (codes "k") ≡ true
unfolding is_reserved reserved_words
key_named = refl

m_is_free : (b : ℕ) → not (is_reserved (message_name b)) ≡ true
unfolding is_reserved reserved_words
m_is_free b = refl

c_is_free : (b : ℕ) → not (is_reserved (counter b)) ≡ true
unfolding is_reserved reserved_words
c_is_free b = refl

message_named : (b : ℕ) → b < 400 → is_identifier (message_name b) ≡ true
message_named b few =
    and_from _ _ (numbered_is_name (codes "m") b refl (omega arith) (omega arith)) (m_is_free b)

counter_named : (b : ℕ) → b < 400 → is_identifier (counter b) ≡ true
counter_named b few =
    and_from _ _ (numbered_is_name (codes "c") b refl (omega arith) (omega arith)) (c_is_free b)

-- a counter and a number
counter_step : (x : List ℕ) → is_identifier x ≡ true → is_formed_step (Bin Lt (Var x) (number_literal 2)) ≡ true
counter_step x named = and_from _ _ (and_from _ _ named refl) refl

counter_more : (x : List ℕ) → is_identifier x ≡ true
    → is_formed_step (Bin Add (Var x) (number_literal 1)) ≡ true
counter_more x named = and_from _ _ (and_from _ _ named refl) refl

small_constant : (c : ℕ) → c < 8 → is_constant (Int (pos c)) ≡ true
small_constant c below = agree_below_at (λ n. is_constant (Int (pos n))) (λ _. true) 8 c refl below

pub block_whole : (kind : Kind) (b c : ℕ) → b < 400 → c < 8 → (n : ℕ)
    → Whole cast (indexed_from n (block kind b c)) (role_numbered c) (role_numbered (role_after kind c))
block_whole kind.Message b c few below n =
    com_whole cast (role_numbered c) (role_numbered (next c)) (two_of c below) (index_at n) (message_name b)
    (token_plus 1) token (message_named b few) one_more token_named
block_whole kind.Choice b c few below n =
    let two = two_of c below in
    if_whole cast (role_numbered c) (role_numbered (next c)) two (index_at n) is_even_token _ _ even_step
    (com_whole cast (role_numbered c) (role_numbered (next c)) two (index_at (suc n)) (message_name b) (token_plus 1)
    token (message_named b few) one_more token_named)
    (com_whole cast (role_numbered c) (role_numbered (next c)) two (index_at (suc n + 1)) (message_name b)
    (token_plus 2) token (message_named b few) two_more token_named)
block_whole kind.Loop b c few below n =
    let two = two_of c below in
    let named = counter_named b few in
    seq_whole cast _ _ (role_numbered c) (role_numbered c) (role_numbered c)
    (set_whole cast (role_numbered c) (role_numbered (next c)) two (index_at n) (counter b) (number_literal 0) named refl)
    (while_whole cast (role_numbered c) (role_numbered (next c)) two (index_at (n + 1))
    (Bin Lt (Var (counter b)) (number_literal 2)) _ (role_numbered c) (counter_step (counter b) named)
    (seq_whole cast _ _ (role_numbered c) (role_numbered c) (role_numbered c)
    (com_back cast (role_numbered c) (role_numbered (next c)) two (index_at (suc (n + 1))) (message_name b)
    (Var token) token
    (com_whole cast (role_numbered c) (role_numbered (next c)) two (index_at (suc (n + 1))) (message_name b)
    (Var token) token (message_named b few) token_step token_named))
    (set_whole cast (role_numbered c) (role_numbered (next c)) two (index_at (suc (n + 1) + 1)) (counter b)
    (Bin Add (Var (counter b)) (number_literal 1)) named (counter_more (counter b) named))))
block_whole kind.Scope b c few below n =
    let two = two_of c below in
    scope_whole cast (role_numbered c) (role_numbered (next c)) two (index_at n) (index_at (suc n)) (message_name b)
    (Var token) token ((codes "k", Int (pos c)) ∷ []) 0
    (and_from _ _ (and_from _ _ key_named (small_constant c below)) refl)
    (com_whole cast (role_numbered c) (role_numbered (next c)) two (index_at (suc n)) (message_name b) (Var token)
    token (message_named b few) token_step token_named)

-- the parts of the opening
pub first_whole : (n : ℕ) → Whole cast (indexed_from n (setting_variable token 0 (number_literal 1))) (role_numbered 0) (role_numbered 0)
first_whole n =
    set_whole cast (role_numbered 0) (role_numbered 1) (two_of 0 (omega arith)) (index_at n) token (number_literal 1)
    token_named refl

pass_free : (j : ℕ) → not (is_reserved (with_digit (codes "pass") j)) ≡ true
unfolding is_reserved reserved_words
pass_free j = refl

pub pass_whole : (j : ℕ) → j < 8 → (n : ℕ)
    → Whole cast (indexed_from n (pass j)) (role_numbered j) (role_numbered (next j))
pass_whole j below n =
    com_whole cast (role_numbered j) (role_numbered (next j)) (two_of j below) (index_at n)
    (with_digit (codes "pass") j) (Var token) token
    (and_from _ _ (with_digit_is_name (codes "pass") j refl (omega arith) (omega arith))
    (pass_free j)) token_step token_named
