-- What the readers of the levels find, by what they find of the parts.
use Rattle.std.proofs.Common.{◌≡◌, ◌≢◌, ℕ, zero, suc, ◌+◌, ◌-◌, leb, Bool, ◌<◌, ◌≤◌, ◌^◌, true, false, List, ◌∷◌, length, drop, max, Option, Some, None, refl, ap, sym, ◌∙◌, subst, arith, length-drop}
use Rattle.std.proofs.lemmas.Bool.{leb-true, leb-false}
use Rattle.dioc_terms.specs.declared.expressions.Oper.{Oper}
use Rattle.dioc_terms.specs.declared.expressions.Expr.{Expr}
use Rattle.dioc_terms.specs.Expressions.{Not, Neg, Bin, expression, expression_depth}
use Rattle.aioc_tokens.specs.declared.words.Sort.{Sort}
use Rattle.aioc_tokens.specs.declared.words.Word.TheVariants as word
use Rattle.aioc_tokens.specs.declared.words.Punctuator.TheVariants as punctuator
use Rattle.aioc_tokens.specs.declared.words.Sort.TheVariants as sorts
use Rattle.aioc_tokens.specs.Lexemes.{Lexeme, Reserved, Symbol, sort_of}
use Rattle.aioc_tokens.specs.Fronts.{Longest, NoFront}
use Rattle.aioc_tokens.proofs.Places.{one_more}
use Rattle.expr_syntax.specs.Levels.{is_chain, tighter, operator, is_inside, looseness, joined_level}
use Rattle.expr_syntax.specs.Grammar.{begins_with_number, IsShallow}
use Rattle.expr_syntax.specs.Readers.{LeafAt, IsNoted, Finds, FoundAt, FollowsShallow, FollowedBy}
use Rattle.expr_syntax.specs.declared.readers.Found.{Found}
use Rattle.expr_syntax.specs.declared.levels.ExprKind.{ExprKind}
use Rattle.expr_syntax.specs.declared.levels.Level.{Level}
use Rattle.expr_syntax.specs.declared.levels.Level.TheVariants.{Disjunction, Conjunction, Negation, Comparison, Sum, Product, Unary}
use Rattle.expr_syntax.proofs.Tables.{outside_looser, outside_up, inside_loose, loose_inside, looseness_tighter, same_looseness, unjoined}
use Rattle.expr_syntax.proofs.LeafFacts.{leaf_depth}
use Rattle.expr_syntax.proofs.Fronts.{NoOperand, chain_front, chain_none, follow_ended, follow_joined, no_operator, comparison_none, comparison_alone, comparison_joined, negation_inside, negation_plain, negation_plain_none, minus_front, bracket_front, leaf_front, leaf_none}

-- the depth that is noted
pub noted_depth : {deep : ℕ} {text : List Lexeme} {found : Found} → IsNoted deep text found → expression_depth (expression found.expr) ≤ deep
noted_depth noted = let depth = noted.depth in let shallow = noted.shallow in omega arith

-- the sort of the token behind an expression that ends where another does
moved_behind : (text : List Lexeme) (found other : Found) → found.behind ≡ other.behind → found.at ≡ other.at → other.behind ≡ sort_of (drop other.at text) → found.behind ≡ sort_of (drop found.at text)
moved_behind text found other same place is = same ∙ is ∙ ap (λ at. sort_of (drop at text)) (sym place)

module _ (kind : ExprKind) (room deep : ℕ) (text : List Lexeme) (at : ℕ) where
  pub leaf_found : (expr : Expr) (next : ℕ) (sort : Sort) → 0 < deep → length text < 2 ^ 63 → sort ≡ sort_of (drop next text) → LeafAt kind text at (Some (expr, next))
      → Finds kind Unary room deep text at (record { expr = expr; depth = 1; at = next; behind = sort })
  leaf_found expr next sort some small behind is =
      let one = leaf_depth kind (drop at text) (drop next text) (expression expr) is.0 in
      let bounds = is.1 in
      record {
        front = leaf_front (omega arith) is.0;
        noted = record { depth = sym one; shallow = omega arith; within = omega arith; small = omega arith; behind = behind };
        after = omega arith;
      }

  pub leaf_missing : (sort_of (drop at text) ≡ sorts.Symbol punctuator.Minus → begins_with_number (drop (at + 1) text) ≡ true) → sort_of (drop at text) ≢ sorts.Symbol punctuator.LeftParen → LeafAt kind text at None → NoFront (IsShallow kind Unary room deep (drop at text))
  leaf_missing minus paren is = leaf_none (λ sort. ap begins_with_number (one_more text at) ∙ minus sort) paren is.0

  pub whole_found : (level : Level) (first whole : Found) → is_chain level ≡ true → Finds kind (tighter level) room deep text at first → FollowedBy kind level room deep text first whole → Finds kind level room deep text at whole
  whole_found level first whole chains one rest = record {
    front = chain_front chains one.front rest.front;
    noted = rest.noted;
    after = (let before = one.after in let more = rest.after in omega arith);
  }

  -- a comparison with no operand behind its left side
  pub side_found : (left : Found) → Finds kind Sum room deep text at left → NoOperand kind Comparison Sum room deep (expression left.expr) (drop left.at text) → Finds kind Comparison room deep text at left
  side_found left one none = record { front = comparison_alone one.front none; noted = one.noted; after = one.after }

  pub comparison_found : (oper : Oper) (left right both : Found) → Some oper ≡ operator kind Comparison (sort_of (drop left.at text)) → left.depth ≢ deep → Finds kind Sum room deep text at left → Finds kind Sum room (deep - 1) text (left.at + 1) right
      → expression both.expr ≡ Bin oper (expression left.expr) (expression right.expr) → both.depth ≡ suc (max left.depth right.depth) → both.at ≡ right.at → both.behind ≡ right.behind → Finds kind Comparison room deep text at both
  comparison_found oper left right both found deeper one two joins depth place behind =
      let depth1 = one.noted.depth in
      let depth2 = two.noted.depth in
      let shallow1 = one.noted.shallow in
      let shallow2 = two.noted.shallow in
      record {
        front = rw (joins, place) (comparison_joined oper (sym found) (omega arith) one.front (subst (λ rest. Longest (IsShallow kind Sum room (deep - 1) rest) (expression right.expr) (drop right.at text)) (sym (one_more text left.at)) two.front));
        noted = record {
          depth = depth ∙ omega arith ∙ sym (ap expression_depth joins);
          shallow = omega arith;
          within = (let inside = two.noted.within in omega arith);
          small = (let bound = two.noted.small in omega arith);
          behind = moved_behind text both right behind place two.noted.behind;
        };
        after = (let before = one.after in let more = two.after in omega arith);
      }

  pub denied_found : (inner whole : Found) → 0 < deep → drop at text ≡ Reserved word.Not ∷ drop (at + 1) text → Finds kind Negation room (deep - 1) text (at + 1) inner
      → expression whole.expr ≡ Not (expression inner.expr) → whole.depth ≡ suc inner.depth → whole.at ≡ inner.at → whole.behind ≡ inner.behind → Finds kind Negation room deep text at whole
  denied_found inner whole some begins one denies depth place behind =
      let depth1 = one.noted.depth in
      let shallow1 = one.noted.shallow in
      record {
        front = rw (denies, place) (negation_inside some begins one.front);
        noted = record {
          depth = depth ∙ omega arith ∙ sym (ap expression_depth denies);
          shallow = omega arith;
          within = (let inside = one.noted.within in omega arith);
          small = (let bound = one.noted.small in omega arith);
          behind = moved_behind text whole inner behind place one.noted.behind;
        };
        after = (let before = one.after in omega arith);
      }

  -- no `not` stands there
  pub plain_at : sort_of (drop at text) ≢ sorts.Reserved word.Not → (found : Option Found) → FoundAt kind Comparison room deep text at found → FoundAt kind Negation room deep text at found
  plain_at other None none = negation_plain_none other none
  plain_at other (Some found) one = record { front = negation_plain other one.front; noted = one.noted; after = one.after }

  pub negated_found : (inner whole : Found) → 0 < deep → drop at text ≡ Symbol punctuator.Minus ∷ drop (at + 1) text → begins_with_number (drop (at + 1) text) ≡ false → Finds kind Unary room (deep - 1) text (at + 1) inner
      → expression whole.expr ≡ Neg (expression inner.expr) → whole.depth ≡ suc inner.depth → whole.at ≡ inner.at → whole.behind ≡ inner.behind → Finds kind Unary room deep text at whole
  negated_found inner whole some begins minus one negates depth place behind =
      let depth1 = one.noted.depth in
      let shallow1 = one.noted.shallow in
      record {
        front = rw (negates, place) (minus_front some begins minus one.front);
        noted = record {
          depth = depth ∙ omega arith ∙ sym (ap expression_depth negates);
          shallow = omega arith;
          within = (let inside = one.noted.within in omega arith);
          small = (let bound = one.noted.small in omega arith);
          behind = moved_behind text whole inner behind place one.noted.behind;
        };
        after = (let before = one.after in omega arith);
      }

  pub bracket_found : (inner : Found) (sort : Sort) → 0 < room → length text < 2 ^ 63 → sort ≡ sort_of (drop (inner.at + 1) text) → drop at text ≡ Symbol punctuator.LeftParen ∷ drop (at + 1) text → Finds kind Disjunction (room - 1) deep text (at + 1) inner → drop inner.at text ≡ Symbol punctuator.RightParen ∷ drop (inner.at + 1) text
      → Finds kind Unary room deep text at (record { expr = inner.expr; depth = inner.depth; at = inner.at + 1; behind = sort })
  bracket_found inner sort some small behind begins one ends = let inside : inner.at < length text = omega (arith, ap length ends, length-drop inner.at text) in record {
    front = bracket_front some begins one.front ends;
    noted = record { depth = one.noted.depth; shallow = one.noted.shallow; within = omega arith; small = omega arith; behind = behind };
    after = (let before = one.after in omega arith);
  }

-- behind an expression
module _ (kind : ExprKind) (level : Level) (room deep : ℕ) (text : List Lexeme) where
  pub follow_stays : (first : Found) → IsNoted deep text first → NoOperand kind level (tighter level) room deep (expression first.expr) (drop first.at text) → FollowedBy kind level room deep text first first
  follow_stays first noted none = record { front = follow_ended (noted_depth noted) none; noted = noted; after = omega arith }

  pub follow_more : (oper : Oper) (first second both whole : Found) → IsNoted deep text first → Some oper ≡ operator kind level (sort_of (drop first.at text)) → Finds kind (tighter level) room (deep - 1) text (first.at + 1) second
      → expression both.expr ≡ Bin oper (expression first.expr) (expression second.expr) → both.at ≡ second.at → FollowedBy kind level room deep text both whole → FollowedBy kind level room deep text first whole
  follow_more oper first second both whole noted found two joins place rest = record {
    front = follow_joined oper (sym found) (subst (λ others. Longest (IsShallow kind (tighter level) room (deep - 1) others) (expression second.expr) (drop second.at text)) (sym (one_more text first.at)) two.front)
        (subst (λ operand. Longest (FollowsShallow kind level room deep operand (drop second.at text)) (expression whole.expr) (drop whole.at text)) joins
        (subst (λ next. Longest (FollowsShallow kind level room deep (expression both.expr) (drop next text)) (expression whole.expr) (drop whole.at text)) place rest.front));
    noted = rest.noted;
    after = (let before = two.after in let more = rest.after in omega arith);
  }

  -- both operands together are noted
  pub both_noted : (oper : Oper) (first second both : Found) → first.depth ≢ deep → IsNoted deep text first → Finds kind (tighter level) room (deep - 1) text (first.at + 1) second
      → expression both.expr ≡ Bin oper (expression first.expr) (expression second.expr) → both.depth ≡ suc (max first.depth second.depth) → both.at ≡ second.at → both.behind ≡ second.behind → IsNoted deep text both
  both_noted oper first second both deeper noted two joins depth place behind =
      let depth1 = noted.depth in
      let depth2 = two.noted.depth in
      let shallow1 = noted.shallow in
      let shallow2 = two.noted.shallow in
      record {
        depth = depth ∙ omega arith ∙ sym (ap expression_depth joins);
        shallow = omega arith;
        within = (let inside = two.noted.within in omega arith);
        small = (let bound = two.noted.small in omega arith);
        behind = moved_behind text both second behind place two.noted.behind;
      }

-- no operator that joins at a level up to this one, and looser than another
abbrev pub NothingJoins : ExprKind → Level → ℕ → Sort → Type 0
NothingJoins kind from most sort = (l : Level) → looseness from < looseness l → looseness l ≤ most → operator kind l sort ≡ None

-- what is found at a level is found at each looser one, up to one where an operator stands behind it
module _ (kind : ExprKind) (room deep : ℕ) (text : List Lexeme) (at : ℕ) where
  -- no `not` stands at the place, where the looser level could begin with one and the tighter one couldn't
  abbrev pub IsPlain : Level → Level → Type 0
  IsPlain from level = is_inside from ≡ true → is_inside level ≡ false → sort_of (drop at text) ≢ sorts.Reserved word.Not

  step_up : (level : Level) (first : Found) → 0 < looseness level → operator kind level (sort_of (drop first.at text)) ≡ None → (level ≡ Negation → sort_of (drop at text) ≢ sorts.Reserved word.Not)
      → Finds kind (tighter level) room deep text at first → Finds kind level room deep text at first
  step_up Disjunction first some none plain one = whole_found kind room deep text at Disjunction first first refl one (follow_stays kind Disjunction room deep text first one.noted (no_operator (sym none)))
  step_up Conjunction first some none plain one = whole_found kind room deep text at Conjunction first first refl one (follow_stays kind Conjunction room deep text first one.noted (no_operator (sym none)))
  step_up Sum first some none plain one = whole_found kind room deep text at Sum first first refl one (follow_stays kind Sum room deep text first one.noted (no_operator (sym none)))
  step_up Product first some none plain one = whole_found kind room deep text at Product first first refl one (follow_stays kind Product room deep text first one.noted (no_operator (sym none)))
  step_up Comparison first some none plain one = side_found kind room deep text at first one (no_operator (sym none))
  step_up Negation first some none plain one = plain_at kind room deep text at (plain refl) (Some first) one
  step_up Unary first some none plain one = absurd (omega arith)

  step_none : (level : Level) → 0 < looseness level → (level ≡ Negation → sort_of (drop at text) ≢ sorts.Reserved word.Not)
      → NoFront (IsShallow kind (tighter level) room deep (drop at text)) → NoFront (IsShallow kind level room deep (drop at text))
  step_none Disjunction some plain none = chain_none refl none
  step_none Conjunction some plain none = chain_none refl none
  step_none Sum some plain none = chain_none refl none
  step_none Product some plain none = chain_none refl none
  step_none Comparison some plain none = comparison_none none
  step_none Negation some plain none = negation_plain_none (plain refl) none
  step_none Unary some plain none = absurd (omega arith)

  -- no `not` is passed by one step
  plain_step : (from level : Level) → looseness from < looseness level → IsPlain from level → level ≡ Negation → sort_of (drop at text) ≢ sorts.Reserved word.Not
  plain_step from level less plain is = plain (loose_inside from (omega (arith, ap looseness is))) (ap is_inside is)

  plain_tighter : (from level : Level) → IsPlain from level → IsPlain from (tighter level)
  plain_tighter from level plain inside outside = plain inside (outside_looser level outside)

  pub rises : (n : ℕ) (from level : Level) (first : Found) → looseness level ≡ n → looseness from ≤ n → NothingJoins kind from n (sort_of (drop first.at text)) → IsPlain from level
      → Finds kind from room deep text at first → Finds kind level room deep text at first
  rises zero from level first is below none plain one = subst (λ l. Finds kind l room deep text at first) (same_looseness from level (omega arith)) one
  rises (suc n) from level first is below none plain one = go (leb (looseness from) n) refl
      (λ less. rises n from (tighter level) first (looseness_tighter level n is) less (λ l above under. none l above (omega arith)) (plain_tighter from level plain) one)
    where
      go : (same : Bool) → leb (looseness from) n ≡ same → (looseness from ≤ n → Finds kind (tighter level) room deep text at first) → Finds kind level room deep text at first
      go false same up = subst (λ l. Finds kind l room deep text at first) (same_looseness from level (let more = leb-false (looseness from) n same in omega arith)) one
      go true same up =
          let less = leb-true (looseness from) n same in
          step_up level first (omega arith) (none level (omega arith) (omega arith)) (plain_step from level (omega arith) plain) (up less)

  pub rises_none : (n : ℕ) (from level : Level) → looseness level ≡ n → looseness from ≤ n → IsPlain from level
      → NoFront (IsShallow kind from room deep (drop at text)) → NoFront (IsShallow kind level room deep (drop at text))
  rises_none zero from level is below plain none = subst (λ l. NoFront (IsShallow kind l room deep (drop at text))) (same_looseness from level (omega arith)) none
  rises_none (suc n) from level is below plain none = go (leb (looseness from) n) refl
      (λ less. rises_none n from (tighter level) (looseness_tighter level n is) less (plain_tighter from level plain) none)
    where
      go : (same : Bool) → leb (looseness from) n ≡ same → (looseness from ≤ n → NoFront (IsShallow kind (tighter level) room deep (drop at text))) → NoFront (IsShallow kind level room deep (drop at text))
      go false same up = subst (λ l. NoFront (IsShallow kind l room deep (drop at text))) (same_looseness from level (let more = leb-false (looseness from) n same in omega arith)) none
      go true same up =
          let less = leb-true (looseness from) n same in
          step_none level (omega arith) (plain_step from level (omega arith) plain) (up less)

  -- the token behind joins at no level between
  pub stays : (from level : Level) (first : Found) → looseness from ≤ looseness level → ((l : Level) → joined_level kind first.behind ≡ Some l → looseness from < looseness l → looseness l ≤ looseness level → ⊥) → IsPlain from level
      → Finds kind from room deep text at first → Finds kind level room deep text at first
  stays from level first below none plain one =
      rises (looseness level) from level first refl below (λ l less most. unjoined kind l (sort_of (drop first.at text)) (λ is. none l (ap (joined_level kind) one.noted.behind ∙ is) less most)) plain one

  -- the token behind joins at a looser level, so what was found is an operand of it
  pub operand_of : (from next level : Level) (first : Found) → joined_level kind first.behind ≡ Some next → looseness from < looseness next → looseness next ≤ looseness level → IsPlain from level
      → Finds kind from room deep text at first → Finds kind (tighter next) room deep text at first
  operand_of from next level first joins less most plain one =
      stays from (tighter next) first (let down = looseness_tighter next (looseness next - 1) (omega arith) in omega arith)
      (λ l is above under. let same : l ≡ next = cc in let down = looseness_tighter next (looseness next - 1) (omega arith) in omega (arith, ap looseness same))
      (λ inside outside. plain inside (outside_up (tighter next) level outside (let down = looseness_tighter next (looseness next - 1) (omega arith) in omega arith))) one

  pub plain_looser : (from next level : Level) → looseness from < looseness next → IsPlain from level → IsPlain next level
  plain_looser from next level less plain inside outside = plain (loose_inside from (let loose = inside_loose next inside in omega arith)) outside
