-- Marks that are counted by places of a text, and by its lists.
use Rattle.std.proofs.Common.{◌≡◌, ℕ, zero, suc, ◌+◌, ◌-◌, ◌<◌, ◌≤◌, Bool, true, false, List, [], ◌∷◌, length, drop, refl, sym, ap, ◌∙◌, subst, if◌then◌else◌, arith, length-drop}
use Rattle.std.proofs.lemmas.List.{drop-drop}
use Rattle.aioc_tokens.specs.Lexemes.{Lexeme, sort_of}
use Rattle.dioc_terms.specs.Terms.{Term}
use Rattle.dioc_syntax.specs.Choreographies.{Form, Stands}
use Rattle.text_places.specs.Marks.{is_construct, is_marked, goes_on, begins_construct, passing, IsNth, Construct}
use Rattle.diagnostics.specs.Marked.{is_mark, is_calm, Marks, no_more, other, mark, places, ArePlaces, BeginsAt}
use Rattle.diagnostics.proofs.Marking.{counted, join, past, marked}

-- what is a mark at a place of the text is one at the front of what is left there
mark_at : (text : List Lexeme) (at : ℕ) → is_construct text at ≡ is_mark (drop at text)
mark_at text at = (λ i. begins_construct (sort_of (drop at text)) (goes_on (sort_of (sym (drop-drop 1 at text) i)) (sort_of (sym (drop-drop 2 at text) i)) (sort_of (sym (drop-drop 3 at text) i))))

-- one token
one : (list : List Lexeme) → 0 < length list → Marks list (if is_mark list then 1 else 0) (drop 1 list)
one [] some = absurd (omega arith)
one (first ∷ others) some = by (is_mark (first ∷ others)) refl
  where
    by : (b : Bool) → is_mark (first ∷ others) ≡ b → Marks (first ∷ others) (if is_mark (first ∷ others) then 1 else 0) others
    by true is = counted (sym (ap (λ (b : Bool). if b then 1 else 0) is)) (mark is no_more)
    by false is = counted (sym (ap (λ (b : Bool). if b then 1 else 0) is)) (other is no_more)

tokens : (text : List Lexeme) (from count : ℕ) → from + count ≤ length text → Marks (drop from text) (passing (is_marked Construct text) from count) (drop (from + count) text)
tokens text from zero within = let e : from + 0 ≡ from = omega arith in subst (λ n. Marks (drop from text) 0 (drop n text)) (sym e) no_more
tokens text from (suc count) within =
    let at = from + count in
    let some : 0 < length (drop at text) = omega (arith, length-drop at text, within) in
    let next : drop 1 (drop at text) ≡ drop (from + suc count) text = drop-drop 1 at text ∙ ap (λ n. drop n text) (omega arith) in
    let here = one (drop at text) some in
    let same : (if is_mark (drop at text) then 1 else 0) ≡ (if is_construct text at then 1 else 0) = ap (λ (b : Bool). if b then 1 else 0) (sym (mark_at text at)) in
    join (tokens text from count (omega (arith, within))) (subst (λ l. Marks (drop at text) (if is_construct text at then 1 else 0) l) next (counted same here))

-- one list alone has so many marks before it and begins with one
unique : {list a b : List Lexeme} {m n : ℕ} → Marks list m a → Marks list n b → m ≡ n → is_mark a ≡ true → is_mark b ≡ true → a ≡ b
unique no_more no_more same first second = refl
unique no_more (other is rest) same first second = let e : true ≡ false = sym first ∙ is in absurd cc
unique no_more (mark is rest) same first second = absurd (omega (arith, same))
unique (other is rest) no_more same first second = let e : true ≡ false = sym second ∙ is in absurd cc
unique (other is rest) (other is2 rest2) same first second = unique rest rest2 same first second
unique (other is rest) (mark is2 rest2) same first second = let e : true ≡ false = sym is2 ∙ is in absurd cc
unique (mark is rest) no_more same first second = absurd (omega (arith, same))
unique (mark is rest) (other is2 rest2) same first second = let e : true ≡ false = sym is ∙ is2 in absurd cc
unique (mark is rest) (mark is2 rest2) same first second = unique rest rest2 (omega (arith, same)) first second

begins_at : (before from at : List Lexeme) (number : ℕ) → Marks before 0 from → Marks before number at → is_mark at ≡ true → (list : List (ℕ × List Lexeme)) → ArePlaces from 0 list → BeginsAt number at list
begins_at before from at number on counts is [] each = tt
begins_at before from at number on counts is (first ∷ others) each =
    let here = each.0 in
    ((λ same. unique (past on here.marks) counts (omega (arith, here.number, same)) here.begins is), begins_at before from at number on counts is others each.1)

pub first_tokens : (text : List Lexeme) (from start number place : ℕ) {version : ℕ} {form : Form} {room : ℕ} {to : List Lexeme} {whole : Term} (stands : Stands version form room 0 (drop start text) whole to)
    → Marks (drop from text) 0 (drop start text) → is_calm to ≡ false → IsNth Construct text from number place → BeginsAt number (drop place text) (places stands)
first_tokens text from start number place stands on calm nth =
    let m = marked stands calm in
    let far : from + (place - from) ≡ place = omega (arith, nth.after) in
    let counts : Marks (drop from text) number (drop place text) =
    counted nth.earlier (subst (λ n. Marks (drop from text) (passing (is_marked Construct text) from (place - from)) (drop n text)) far (tokens text from (place - from) (omega (arith, far, nth.within)))) in
    let begins : is_mark (drop place text) ≡ true = sym (mark_at text place) ∙ nth.marked in
    begins_at (drop from text) (drop start text) (drop place text) number on counts begins (places stands) m.each
