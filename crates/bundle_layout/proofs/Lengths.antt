-- How many bytes the token at the front takes, where one stands there.
use Rattle.std.proofs.Common.{◌≡◌, ℕ, zero, suc, ◌+◌, ◌<◌, ◌≤◌, ◌==◌, Bool, true, false, List, ◌∷◌, length, get_or, drop, take, Option, Some, None, is_some, refl, ap, sym, ◌∙◌, subst, arith, length-take-le}
use Rattle.std.proofs.lemmas.List.{drop_more}
use Rattle.std.proofs.lemmas.Bool.Decides.{nat_tests}
use Rattle.aioc_tokens.specs.declared.kinds.Kind.{Kind}
use Rattle.aioc_tokens.specs.declared.kinds.Kind.TheVariants.{Text, Symbol}
use Rattle.aioc_tokens.specs.Tokens.{needs_pair, is_printable, IsFront, IsLongestToken}
use Rattle.aioc_tokens.specs.Words.{punctuator_spelling, punctuator_of}
use Rattle.aioc_tokens.specs.Packed.{bump, text_end}
use Rattle.aioc_tokens.proofs.Firsts.{kind_by, front_first}
use Rattle.aioc_tokens.proofs.Quotes.{front_end}
use Rattle.aioc_tokens.proofs.Symbols.{punctuator_short, two_longest, symbol_found, symbol_in_table}
use Rattle.aioc_tokens.proofs.Walk.{token_size}

-- the token at the front is of the kind that its first byte tells
pub of_kind : (text : List ℕ) (kind : Kind) → ((other : Kind) × (count : ℕ) × IsLongestToken text other count) → kind_by (get_or text 0 0) ≡ kind → (count : ℕ) × IsLongestToken text kind count
of_kind text kind (other, count, longest) is =
    let same : other ≡ kind = sym (front_first text other count longest.front).0.kind_is ∙ is in
    (count, subst (λ kind. IsLongestToken text kind count) same longest)

-- a text in quotes that ends so many bytes behind this place
pub record IsQuotedUpTo (text : List ℕ) (paired : Bool) (at : ℕ) : Type 0 where
  pub left : ℕ
  pub ends : text_end paired (drop at text) ≡ Some left
  pub longest : IsLongestToken text Text (at + left)

pub quoted_begun : (text : List ℕ) → ((count : ℕ) × IsLongestToken text Text count) → IsQuotedUpTo text false 1
quoted_begun text (count, longest) =
    let (less, ends, size) = front_end text count longest.front in
    record { left = less; ends = ends; longest = subst (IsLongestToken text Text) (omega arith) longest }

one_less : (found : Option ℕ) (left : ℕ) → bump found ≡ Some left → (less : ℕ) × (found ≡ Some less) × (left ≡ less + 1)
one_less None left same = absurd cc
one_less (Some count) left same = (count, refl, let is : suc count ≡ left = cc in omega arith)

module _ (text : List ℕ) (at : ℕ) where
  moved : (paired : Bool) (left : ℕ) → bump (text_end paired (drop (at + 1) text)) ≡ Some left → IsLongestToken text Text (at + left) → IsQuotedUpTo text paired (at + 1)
  moved paired left ends longest =
      let (less, found, size) = one_less (text_end paired (drop (at + 1) text)) left ends in
      record { left = less; ends = found; longest = subst (IsLongestToken text Text) (omega arith) longest }

  at_byte : (paired : Bool) → IsQuotedUpTo text paired at → at < length text → (left : ℕ) × (text_end paired (get_or text at 0 ∷ drop (at + 1) text) ≡ Some left) × IsLongestToken text Text (at + left)
  at_byte paired kept within = (kept.left, ap (text_end paired) (sym (drop_more text at 0 within)) ∙ kept.ends, kept.longest)

  -- the byte behind a `\`
  pub pair_ended : IsQuotedUpTo text true at → at < length text → IsQuotedUpTo text false (at + 1)
  pair_ended kept within = go (needs_pair (get_or text at 0)) refl
    where
      go : (pair : Bool) → needs_pair (get_or text at 0) ≡ pair → IsQuotedUpTo text false (at + 1)
      go true is = let (left, ends, longest) = at_byte true kept within in moved false left (rw is at ends) longest
      go false is = let (left, ends, longest) = at_byte true kept within in absurd (let none : None ≡ Some left = rw is at ends in cc)

  -- the quote at the end
  pub quote_closes : IsQuotedUpTo text false at → at < length text → get_or text at 0 ≡ 34 → IsLongestToken text Text (at + 1)
  quote_closes kept within quote =
      let (left, ends, longest) = at_byte false kept within in
      let one : Some 1 ≡ Some left = rw quote at ends in
      subst (λ left. IsLongestToken text Text (at + left)) (let same : left ≡ 1 = cc in same) longest

  -- any other byte
  pub byte_passed : IsQuotedUpTo text false at → at < length text → (get_or text at 0 ≡ 34 → ⊥) → IsQuotedUpTo text (get_or text at 0 == 92) (at + 1)
  byte_passed kept within no_quote = go (get_or text at 0 == 92) refl (is_printable (get_or text at 0)) refl
    where
      quote : (get_or text at 0 == 34) ≡ false
      quote = grind (arith, nat_tests)

      go : (backslash : Bool) → (get_or text at 0 == 92) ≡ backslash → (printable : Bool) → is_printable (get_or text at 0) ≡ printable → IsQuotedUpTo text backslash (at + 1)
      go true is printable shown = let (left, ends, longest) = at_byte false kept within in moved true left (rw (quote, is) at ends) longest
      go false is true shown = let (left, ends, longest) = at_byte false kept within in moved false left (rw (quote, is, shown) at ends) longest
      go false is false shown = let (left, ends, longest) = at_byte false kept within in absurd (let none : None ≡ Some left = rw (quote, is, shown) at ends in cc)

-- a symbol has one byte or two
symbol_size : (text : List ℕ) (count : ℕ) → IsFront text Symbol count → count ≤ 2
symbol_size text count front =
    let size : count ≡ length (punctuator_spelling front.spells.0) = sym (length-take-le count text front.within) ∙ ap length front.spells.1 in
    omega (arith, punctuator_short front.spells.0)

pub two_bytes : (text : List ℕ) → ((count : ℕ) × IsLongestToken text Symbol count) → 1 < length text → is_some (punctuator_of (take 2 text)) ≡ true → IsLongestToken text Symbol 2
two_bytes text (count, longest) more found = two_longest text (symbol_found text 2 (omega arith) found) longest.no_comment

pub one_byte : (text : List ℕ) → ((count : ℕ) × IsLongestToken text Symbol count) → (IsFront text Symbol 2 → ⊥) → IsLongestToken text Symbol 1
one_byte text (zero, longest) no_two = absurd (omega (arith, (token_size text Symbol zero longest).0))
one_byte text (suc zero, longest) no_two = longest
one_byte text (suc (suc zero), longest) no_two = absurd (no_two longest.front)
one_byte text (suc (suc (suc count)), longest) no_two = absurd (omega (arith, symbol_size text (suc (suc (suc count))) longest.front))

pub not_found : (text : List ℕ) → is_some (punctuator_of (take 2 text)) ≡ false → IsFront text Symbol 2 → ⊥
not_found text none front = let found = symbol_in_table text 2 front in cc
