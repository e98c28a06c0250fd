-- Items that stand one after another.
use Rattle.std.proofs.Common.{◌≡◌, ◌≢◌, ℕ, ◌+◌, ◌<◌, ◌≤◌, List, [], ◌∷◌, ◌++◌, length, drop, refl, ap, sym, ◌∙◌, subst, arith, append_assoc, append-nil}
use Rattle.aioc_tokens.specs.declared.words.Punctuator.TheVariants as punctuator
use Rattle.aioc_tokens.specs.declared.words.Sort.TheVariants as sorts
use Rattle.aioc_tokens.specs.Lexemes.{Lexeme, sort_of}
use Rattle.aioc_tokens.specs.Fronts.{NoFront}
use Rattle.dioc_syntax.proofs.HeadSorts.{symbol_here, within_here}
use Rattle.rule_syntax.specs.Readers.{StandsAt}
use Rattle.bundle_text.specs.Many.{Many, no_more, one_more}
use Rattle.bundle_text.specs.Grammar.{closed_before}
use Rattle.bundle_text.specs.Readers.{TakesItems}
use Rattle.bundle_text.specs.Stops.{EndsAmong}
use Rattle.bundle_text.proofs.Missing.{NoItems}

-- at most one item stands at a place
abbrev pub OneEach : {A : Type 0} → (List Lexeme → A → List Lexeme → Type 0) → Type 0
OneEach {A} Reads = (from from2 to end : List Lexeme) (item other : A) → from ≡ from2 → Reads from item to → Reads from2 other end → (item ≡ other) × (to ≡ end)

-- no item stands at this list
abbrev pub NoneAt : {A : Type 0} → (List Lexeme → A → List Lexeme → Type 0) → List Lexeme → Type 0
NoneAt {A} Reads from = (from2 : List Lexeme) → from2 ≡ from → (item : A) (to : List Lexeme) → Reads from2 item to → ⊥

-- an item more
pub many_last : {A : Type 0} {Reads : List Lexeme → A → List Lexeme → Type 0} {from middle to : List Lexeme} {items : List A} {last : A} → Many Reads from items middle → Reads middle last to → Many Reads from (items ++ last ∷ []) to
many_last no_more r = one_more r no_more
many_last (one_more r s) t = one_more r (many_last s t)

-- more items
pub many_append : {A : Type 0} {Reads : List Lexeme → A → List Lexeme → Type 0} {from middle to : List Lexeme} {items more : List A} → Many Reads from items middle → Many Reads middle more to → Many Reads from (items ++ more) to
many_append no_more s = s
many_append (one_more r s) t = one_more r (many_append s t)

-- what stands behind the first items of all
pub record Behind {A : Type 0} (Reads : List Lexeme → A → List Lexeme → Type 0) (items all : List A) (from to : List Lexeme) : Type 0 where
  pub rest : List A
  pub are : all ≡ items ++ rest
  pub stand : Many Reads from rest to

pub many_behind : {A : Type 0} {Reads : List Lexeme → A → List Lexeme → Type 0} {from from2 middle to : List Lexeme} {items all : List A} → OneEach Reads → NoneAt Reads to → from ≡ from2 → Many Reads from items middle → Many Reads from2 all to
    → Behind Reads items all middle to
many_behind {Reads = Reads} {to = to} {all = all} one none froms no_more s = record { rest = all; are = refl; stand = subst (λ list. Many Reads list all to) (sym froms) s }
many_behind one none froms (one_more {first = first} r s) no_more = absurd (none _ froms first _ r)
many_behind {Reads = Reads} one none froms (one_more {middle = middle} {first = first} {rest = rest} r s) (one_more {middle = middle2} {first = first2} r2 s2) =
    let both = one _ _ middle middle2 first first2 froms r r2 in
    let more = many_behind one none both.1 s s2 in
    record { rest = more.rest; are = let same = sym both.0 in λ j. same j ∷ more.are j; stand = more.stand }

pub ended : {A : Type 0} {Reads : List Lexeme → A → List Lexeme → Type 0} {from to : List Lexeme} {rest : List A} → Many Reads from rest to → rest ≡ [] → from ≡ to
ended no_more none = refl
ended (one_more r s) none = absurd cc

-- items behind which no further one stands are all
pub many_same : {A : Type 0} {Reads : List Lexeme → A → List Lexeme → Type 0} {from from2 to end : List Lexeme} {items others : List A} → OneEach Reads → NoneAt Reads to → NoneAt Reads end → from ≡ from2 → Many Reads from items to
    → Many Reads from2 others end → (items ≡ others) × (to ≡ end)
many_same {A} {Reads} {to = to} {end = end} {items = items} {others = others} one none none2 froms r s = go (many_behind one none2 froms r s)
  where
    go : Behind Reads items others to end → (items ≡ others) × (to ≡ end)
    go more = by_rest more.rest more.are more.stand
      where
        by_rest : (rest : List A) → others ≡ items ++ rest → Many Reads to rest end → (items ≡ others) × (to ≡ end)
        by_rest [] are s = (sym (are ∙ append-nil items), ended s refl)
        by_rest (first ∷ rest) are (one_more r s) = absurd (none to refl first _ r)

-- each item takes a token
pub many_shorter : {A : Type 0} {Reads : List Lexeme → A → List Lexeme → Type 0} {from to : List Lexeme} {items : List A} → ((from to : List Lexeme) (item : A) → Reads from item to → length to < length from) → Many Reads from items to
    → length to + length items ≤ length from
many_shorter shorter no_more = omega arith
many_shorter shorter (one_more {from = from} {middle = middle} {first = first} r s) = let less = shorter from middle first r in let rest = many_shorter shorter s in omega arith

-- the items that a reader has appended so far
pub record SoFar {A : Type 0} (Reads : List Lexeme → A → List Lexeme → Type 0) (text : List Lexeme) (at : ℕ) (old new : List A) (next : ℕ) : Type 0 where
  pub items : List A
  pub stand : Many Reads (drop at text) items (drop next text)
  pub joins : new ≡ old ++ items
  pub after : at ≤ next

module _ {A : Type 0} (Reads : List Lexeme → A → List Lexeme → Type 0) (text : List Lexeme) (at : ℕ) (old : List A) where
  pub none_yet : SoFar Reads text at old old at
  none_yet = record { items = []; stand = no_more; joins = sym (append-nil old); after = omega arith }

  pub one_further : (new : List A) (item : A) (next behind : ℕ) → SoFar Reads text at old new next → StandsAt Reads text next item behind → SoFar Reads text at old (new ++ item ∷ []) behind
  one_further new item next behind so_far found =
      let before = so_far.after in
      let after = found.after in
      record {
        items = so_far.items ++ item ∷ [];
        stand = many_last so_far.stand found.front.reads;
        joins = ap (λ list. list ++ item ∷ []) so_far.joins ∙ append_assoc old so_far.items (item ∷ []);
        after = omega arith;
      }

  pub all_taken : (new : List A) (next : ℕ) → SoFar Reads text at old new next → sort_of (drop next text) ≡ sorts.Symbol punctuator.RightBrace → TakesItems Reads text at old new (next + 1)
  all_taken new next so_far closes =
      let here = symbol_here text punctuator.RightBrace next (next + 1) refl closes in
      let inside = within_here text punctuator.RightBrace next closes in
      let before = so_far.after in
      record {
        items = so_far.items;
        stand = subst (Many Reads (drop at text) so_far.items) here so_far.stand;
        joins = so_far.joins;
        after = omega arith;
        within = omega arith;
      }

  pub ends_among : (new : List A) (next : ℕ) → SoFar Reads text at old new next → NoFront (Reads (drop next text)) → sort_of (drop next text) ≢ sorts.Symbol punctuator.RightBrace → EndsAmong Reads text at next
  ends_among new next so_far none unlike = record { items = so_far.items; stand = so_far.stand; none = none; no_close = unlike }

-- where the reading of items ends, none stand up to a `}`
pub no_items : {A : Type 0} {Reads : List Lexeme → A → List Lexeme → Type 0} {text : List Lexeme} {at place : ℕ} → OneEach Reads → ((from : List Lexeme) (item : A) (to : List Lexeme) → Reads from item to → sort_of from ≢ sorts.Symbol punctuator.RightBrace)
    → EndsAmong Reads text at place → NoItems Reads (drop at text)
no_items {A} {Reads} {text} {at} {place} one never ends items to stand = by_rest more.rest more.stand
  where
    more : Behind Reads ends.items items (drop place text) (closed_before to)
    more = many_behind one (λ from is item end reads. never from item end reads (ap sort_of is)) refl ends.stand stand

    by_rest : (rest : List A) → Many Reads (drop place text) rest (closed_before to) → ⊥
    by_rest [] s = ends.no_close (ap sort_of (ended s refl))
    by_rest (first ∷ rest) (one_more r s) = ends.none first _ r
