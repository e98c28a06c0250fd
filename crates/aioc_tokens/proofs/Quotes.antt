-- Where a text in quotes ends.
use Rattle.std.proofs.Common.{◌≡◌, ℕ, suc, ◌+◌, ◌<◌, ◌≤◌, Bool, true, false, ◌&&◌, ◌==◌, cond, List, [], ◌∷◌, ◌++◌, length, get_or, take, drop, Option, Some, None, option_map, refl, ap, sym, ◌∙◌, subst, arith, flat_map, append_assoc, length-append, length-take-le, take-append-drop}
use Rattle.std.specs.List.{list_all}
use Rattle.std.proofs.lemmas.List.{at_drop_more, drop_all}
use Rattle.std.proofs.lemmas.Bool.{and_from}
use Rattle.std.proofs.lemmas.Bool.Decides.{nat_tests}
use Rattle.aioc_tokens.specs.declared.kinds.Kind.TheVariants.{Text}
use Rattle.aioc_tokens.specs.Tokens.{needs_pair, is_printable, escaped, IsFront, IsLongestToken}
use Rattle.aioc_tokens.specs.Packed.{bump, text_end}
use Rattle.aioc_tokens.proofs.Firsts.{same_kind}
use Rattle.aioc_tokens.proofs.Runs.{no_comment_by}

bump_some : (found : Option ℕ) (count : ℕ) → bump found ≡ Some count → (less : ℕ) × (found ≡ Some less) × (count ≡ suc less)
bump_some None count is = absurd cc
bump_some (Some less) count is = (less, refl, cc)

-- so many bytes are what is left of a text
pub record IsTail (paired : Bool) (bytes : List ℕ) (count : ℕ) : Type 0 where
  pub within : count ≤ length bytes
  pub value : List ℕ
  pub printable : list_all is_printable value ≡ true
  pub spelled : cond paired (92 ∷ take count bytes) (take count bytes) ≡ flat_map escaped value ++ 34 ∷ []

pair_printable : (byte : ℕ) → needs_pair byte ≡ true → is_printable byte ≡ true
pair_printable byte pair = grind (arith, nat_tests)

-- a pair, and then the rest
tail_pair : (byte : ℕ) (others : List ℕ) (count less : ℕ) → needs_pair byte ≡ true → count ≡ suc less → IsTail false others less → IsTail true (byte ∷ others) count
tail_pair byte others count less pair is tail = subst (IsTail true (byte ∷ others)) (sym is) (record {
  within = omega (arith, tail.within);
  value = byte ∷ tail.value;
  printable = and_from _ _ (pair_printable byte pair) tail.printable;
  spelled = rw pair (ap (λ rest. 92 ∷ byte ∷ rest) tail.spelled);
})

tail_backslash : (byte : ℕ) (others : List ℕ) (count less : ℕ) → byte ≡ 92 → count ≡ suc less → IsTail true others less → IsTail false (byte ∷ others) count
tail_backslash byte others count less backslash is tail = subst (IsTail false (byte ∷ others)) (sym is) (record {
  within = omega (arith, tail.within);
  value = tail.value;
  printable = tail.printable;
  spelled = ap (λ first. first ∷ take less others) backslash ∙ tail.spelled;
})

tail_plain : (byte : ℕ) (others : List ℕ) (count less : ℕ) → needs_pair byte ≡ false → is_printable byte ≡ true → count ≡ suc less → IsTail false others less
    → IsTail false (byte ∷ others) count
tail_plain byte others count less plain printable is tail = subst (IsTail false (byte ∷ others)) (sym is) (record {
  within = omega (arith, tail.within);
  value = byte ∷ tail.value;
  printable = and_from _ _ printable tail.printable;
  spelled = rw plain (ap (λ rest. byte ∷ rest) tail.spelled);
})

-- what `text_end` finds is what is left of a text
pub text_end_spelled : (paired : Bool) (bytes : List ℕ) (count : ℕ) → text_end paired bytes ≡ Some count → IsTail paired bytes count
text_end_spelled true [] count is = absurd cc
text_end_spelled false [] count is = absurd cc
text_end_spelled true (byte ∷ others) count is = go (needs_pair byte) refl is (text_end_spelled false others)
  where
    go : (pair : Bool) → needs_pair byte ≡ pair → cond pair (bump (text_end false others)) None ≡ Some count
        → ((less : ℕ) → text_end false others ≡ Some less → IsTail false others less) → IsTail true (byte ∷ others) count
    go true pair found rest = let (less, at, more) = bump_some _ _ found in tail_pair byte others count less pair more (rest less at)
    go false pair found rest = absurd cc
text_end_spelled false (byte ∷ others) count is = go (byte == 34) refl is (text_end_spelled true others) (text_end_spelled false others)
  where
    last : (printable : Bool) → needs_pair byte ≡ false → is_printable byte ≡ printable → cond printable (bump (text_end false others)) None ≡ Some count
        → ((less : ℕ) → text_end false others ≡ Some less → IsTail false others less) → IsTail false (byte ∷ others) count
    last true plain printable found rest = let (less, at, more) = bump_some _ _ found in tail_plain byte others count less plain printable more (rest less at)
    last false plain printable found rest = absurd cc

    inner : (backslash : Bool) → (byte == 34) ≡ false → (byte == 92) ≡ backslash
        → cond backslash (bump (text_end true others)) (cond (is_printable byte) (bump (text_end false others)) None) ≡ Some count
        → ((less : ℕ) → text_end true others ≡ Some less → IsTail true others less)
        → ((less : ℕ) → text_end false others ≡ Some less → IsTail false others less) → IsTail false (byte ∷ others) count
    inner true quote backslash found paired plain = let (less, at, more) = bump_some _ _ found in tail_backslash byte others count less (grind (arith, nat_tests)) more (paired less at)
    inner false quote backslash found paired plain = last (is_printable byte) (grind (arith, nat_tests)) refl found plain

    go : (quote : Bool) → (byte == 34) ≡ quote
        → cond quote (Some 1) (cond (byte == 92) (bump (text_end true others)) (cond (is_printable byte) (bump (text_end false others)) None)) ≡ Some count
        → ((less : ℕ) → text_end true others ≡ Some less → IsTail true others less)
        → ((less : ℕ) → text_end false others ≡ Some less → IsTail false others less) → IsTail false (byte ∷ others) count
    go true quote found paired plain =
        let one : count ≡ 1 = cc in
        let is : byte ≡ 34 = grind (arith, nat_tests) in
        subst (IsTail false (byte ∷ others)) (sym one) (record { within = omega arith; value = []; printable = refl; spelled = ap (λ first. first ∷ []) is })
    go false quote found paired plain = inner (byte == 92) quote refl found paired plain

-- the first quote that stands in no pair ends the text
pub text_end_closes : (value others : List ℕ) → list_all is_printable value ≡ true → text_end false (flat_map escaped value ++ 34 ∷ others) ≡ Some (suc (length (flat_map escaped value)))
text_end_closes [] others printable = refl
text_end_closes (byte ∷ value) others printable = go (needs_pair byte) (is_printable byte) refl refl printable (text_end_closes value others)
  where
    go : (pair pass : Bool) → needs_pair byte ≡ pair → is_printable byte ≡ pass → (pass && list_all is_printable value) ≡ true
        → (list_all is_printable value ≡ true → text_end false (flat_map escaped value ++ 34 ∷ others) ≡ Some (suc (length (flat_map escaped value))))
        → text_end false ((cond pair (92 ∷ byte ∷ []) (byte ∷ []) ++ flat_map escaped value) ++ 34 ∷ others) ≡ Some (suc (length (cond pair (92 ∷ byte ∷ []) (byte ∷ []) ++ flat_map escaped value)))
    go true true pair pass rest closes = rw pair (ap (λ found. bump (bump found)) (closes rest))
    go false true pair pass rest closes =
        let quote : (byte == 34) ≡ false = grind (arith, nat_tests) in
        let backslash : (byte == 92) ≡ false = grind (arith, nat_tests) in
        rw (quote, backslash, pass) (ap bump (closes rest))
    go pair false is pass rest closes = absurd cc

-- what a front that is a text says of the bytes behind its first quote
pub front_end : (text : List ℕ) (count : ℕ) → IsFront text Text count → (less : ℕ) × (text_end false (drop 1 text) ≡ Some less) × (count ≡ suc less)
front_end text count front =
    let value = front.spells.0 in
    let inside = flat_map escaped value in
    let whole : text ≡ 34 ∷ (inside ++ 34 ∷ drop count text) = sym (take-append-drop count text) ∙ ap (λ word. word ++ drop count text) front.spells.2 ∙ ap (λ rest. 34 ∷ rest) (append_assoc inside (34 ∷ []) (drop count text)) in
    let size : count ≡ suc (length inside + 1) = sym (length-take-le count text front.within) ∙ ap length front.spells.2 ∙ ap suc (length-append inside (34 ∷ [])) in
    (suc (length inside), ap (λ word. text_end false (drop 1 word)) whole ∙ text_end_closes value (drop count text) front.spells.1, omega arith)

-- where a quote stands and the text ends, it is the longest token
pub text_longest : (text : List ℕ) (count : ℕ) → get_or text 0 0 ≡ 34 → text_end false (drop 1 text) ≡ Some count → IsLongestToken text Text (suc count)
text_longest [] count quote found = absurd cc
text_longest (first ∷ inside) count quote found =
    let tail = text_end_spelled false inside count found in
    let front : IsFront (first ∷ inside) Text (suc count) =
    record { within = omega (arith, tail.within); spells = (tail.value, tail.printable, ap (λ byte. byte ∷ take count inside) quote ∙ ap (λ rest. 34 ∷ rest) tail.spelled) } in
    record {
      front = front;
      longest = λ other more that.
          let same = same_kind (first ∷ inside) Text other (suc count) more front that in
          let (less, at, is) = front_end (first ∷ inside) more (subst (λ kind. IsFront (first ∷ inside) kind more) (sym same) that) in
          let equal : less ≡ count = cc in
          omega arith;
      no_comment = no_comment_by (first ∷ inside) (λ slash. absurd (omega arith));
    }

-- where no text ends there is none
pub no_text : (text : List ℕ) → text_end false (drop 1 text) ≡ None → (count : ℕ) → IsFront text Text count → ⊥
no_text text none count front = let (less, at, more) = front_end text count front in cc

-- What the loop that looks for the quote keeps says where it leaves.
module _ (inside : List ℕ) (place : ℕ) (paired : Bool) (kept : option_map (λ count. place + count) (text_end paired (drop place inside)) ≡ text_end false inside) where
  at_place : place < length inside → (flag : Bool) → paired ≡ flag
      → option_map (λ count. place + count) (text_end flag (get_or inside place 0 ∷ drop (place + 1) inside)) ≡ text_end false inside
  at_place within flag is =
      sym (ap (option_map (λ count. place + count)) (ap (λ flag. text_end flag (drop place inside)) is ∙ at_drop_more (text_end flag) inside place 0 within)) ∙ kept

  pub no_pair : place < length inside → paired ≡ true → needs_pair (get_or inside place 0) ≡ false → text_end false inside ≡ None
  no_pair within is plain =
      let none : text_end true (get_or inside place 0 ∷ drop (place + 1) inside) ≡ None = rw plain refl in
      sym (at_place within true is) ∙ ap (option_map (λ count. place + count)) none

  pub quote_ends : place < length inside → paired ≡ false → get_or inside place 0 ≡ 34 → text_end false inside ≡ Some (place + 1)
  quote_ends within is quote = sym (rw quote at at_place within false is)

  pub bad_byte : place < length inside → paired ≡ false → (get_or inside place 0 ≡ 34 → ⊥) → (get_or inside place 0 ≡ 92 → ⊥) → is_printable (get_or inside place 0) ≡ false → text_end false inside ≡ None
  bad_byte within is no_quote no_backslash unprintable =
      let quote : (get_or inside place 0 == 34) ≡ false = grind (arith, nat_tests) in
      let backslash : (get_or inside place 0 == 92) ≡ false = grind (arith, nat_tests) in
      let none : text_end false (get_or inside place 0 ∷ drop (place + 1) inside) ≡ None = rw (quote, backslash, unprintable) refl in
      sym (at_place within false is) ∙ ap (option_map (λ count. place + count)) none

  pub no_end : length inside ≤ place → text_end false inside ≡ None
  no_end past = sym (rw (drop_all place inside past) at kept)
