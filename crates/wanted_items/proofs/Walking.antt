-- How the first unwanted token of a bundle lies behind tokens that were walked over.
use Rattle.std.proofs.Common.{◌≡◌, ◌≢◌, ℕ, suc, ◌+◌, ◌<◌, ◌≤◌, Bool, true, false, not, ◌==◌, List, [], ◌∷◌, ◌++◌, length, get_or, take, drop, Option, Some, None, option_map, is_some, if◌then◌else◌, refl, sym, ap, ◌∙◌, subst, arith, length-append, append_assoc, append-nil}
use Rattle.std.proofs.lemmas.Bool.Decides.{nat_tests}
use Rattle.std.proofs.lemmas.List.{drop_more, get_or-take, length-take-le, take-append-drop, take-take, take_more}
use Rattle.aioc_tokens.specs.Lexemes.{Lexeme, Name, Long, Number, Text, Reserved, Symbol}
use Rattle.wanted_tokens.specs.declared.goals.Goal.TheVariants as goal
use Rattle.wanted_tokens.specs.Looks.{look}
use Rattle.wanted_tokens.specs.Wanted.{Reading, reading_behind, next_stop, stop, unwanted, may_end as may_end_at}
use Rattle.wanted_items.specs.declared.items.Item.{Item}
use Rattle.wanted_items.specs.Items.{lexeme_of, stops_at, is_wanted, is_over, may_end}
use Rattle.wanted_items.specs.Walks.{AreReadTo, StopsBefore}

-- what is seen of a list is seen of its first lexeme alone
look_first : (x : Lexeme) (others : List Lexeme) → look (x ∷ others) ≡ look (x ∷ [])
look_first (Name bytes) others = refl
look_first Long others = refl
look_first (Number digits) others = refl
look_first (Text value) others = refl
look_first (Reserved word) others = refl
look_first (Symbol punctuator) others = refl

same_place : (at : ℕ) → (at == at) ≡ true
same_place at = grind (arith, nat_tests)

other_place : (at place : ℕ) → at ≢ place → (at == place) ≡ false
other_place at place apart = grind (arith, nat_tests)

-- before the first token a bundle is wanted
abbrev pub start : Reading
start = record { second = false; wanted = goal.Bundle ∷ [] }

from_zero : (place : Option ℕ) → place ≡ option_map (λ n. 0 + n) place
from_zero None = refl
from_zero (Some n) = ap Some (omega arith)

pub read_from_start : AreReadTo [] start
read_from_start others = from_zero (stop others start)

counted : (at : ℕ) (place : Option ℕ) → option_map (λ n. at + n) (option_map suc place) ≡ option_map (λ n. (at + 1) + n) place
counted at None = refl
counted at (Some n) = ap Some (omega arith)

module _ (front : List Lexeme) (r : Reading) (reads : AreReadTo front r) (x : Lexeme) where
  abbrev behind : Option Reading
  behind = reading_behind r.second r.wanted (look (x ∷ []))

  -- the next token is seen
  abbrev from : Option Reading → List Lexeme → Option ℕ
  from found others = option_map (λ n. length front + n) (next_stop found (stop others))

  read_from : (others : List Lexeme) (found : Option Reading) → behind ≡ found → unwanted goal.Bundle (front ++ x ∷ others) ≡ from found others
  read_from others found is = reads (x ∷ others) ∙ (ap (λ seen. from (reading_behind r.second r.wanted seen) others) (look_first x others) ∙ ap (λ found. from found others) is)

  -- it is taken
  read_more : (next : Reading) → behind ≡ Some next → AreReadTo (front ++ x ∷ []) next
  read_more next is others =
      let len : length front + 1 ≡ length (front ++ x ∷ []) = sym (length-append front (x ∷ [])) in
      ap (unwanted goal.Bundle) (append_assoc front (x ∷ []) others)
      ∙ (read_from others (Some next) is
      ∙ (counted (length front) (stop others next)
      ∙ ap (λ len. option_map (λ n. len + n) (stop others next)) len))

  -- it isn't, whatever follows it
  read_no_more : (others : List Lexeme) → behind ≡ None → unwanted goal.Bundle (front ++ x ∷ others) ≡ Some (length front)
  read_no_more others is = let len : length front + 0 ≡ length front = omega arith in read_from others None is ∙ ap Some len

-- so an item is wanted exactly where its token is taken
module _ (front : List Lexeme) (r : Reading) (reads : AreReadTo front r) where
  abbrev stops : Option ℕ → Bool
  stops place = not (stops_at (length front) place)

  beyond : (ends : Bool) → stops (option_map (λ n. length front + n) (option_map suc (if ends then None else Some 0))) ≡ true
  beyond true = refl
  beyond false = ap not (other_place (length front + 1) (length front) (omega arith))

  by_reading : (i : Item) (found : Option Reading) → reading_behind r.second r.wanted (look (lexeme_of i ∷ [])) ≡ found → is_some found ≡ is_wanted front i
  by_reading i None is = sym (ap stops (read_no_more front r reads (lexeme_of i) [] is) ∙ ap not (same_place (length front)))
  by_reading i (Some next) is = sym (ap stops (read_from front r reads (lexeme_of i) [] (Some next) is) ∙ beyond (may_end_at next.second next.wanted))

  pub wanted_by_walk : (i : Item) → is_some (reading_behind r.second r.wanted (look (lexeme_of i ∷ []))) ≡ is_wanted front i
  wanted_by_walk i = by_reading i (reading_behind r.second r.wanted (look (lexeme_of i ∷ []))) refl

  by_end : (at : ℕ) (ends : Bool) → ends ≡ is_over (option_map (λ n. at + n) (if ends then None else Some 0))
  by_end at true = refl
  by_end at false = refl

  pub ends_by_walk : may_end_at r.second r.wanted ≡ may_end front
  ends_by_walk = by_end (length front) (may_end_at r.second r.wanted) ∙ ap is_over (sym (reads []) ∙ ap (unwanted goal.Bundle) (append-nil front))

-- behind a token that isn't wanted no item stops a text, and it ends nowhere
module _ (front : List Lexeme) (stops : StopsBefore front) where
  pub wanted_behind : (i : Item) → true ≡ is_wanted front i
  wanted_behind i =
      sym (ap (λ place. not (stops_at (length front) place)) (stops.stops (lexeme_of i ∷ [])) ∙ ap not (other_place stops.place (length front) (omega (arith, stops.earlier))))

  pub ends_nowhere : false ≡ may_end front
  ends_nowhere = sym (ap is_over (sym (ap (unwanted goal.Bundle) (append-nil front)) ∙ stops.stops []))

-- ---- the tokens of a text, one after the other

module _ (text : List Lexeme) (at : ℕ) (within : at < length text) (r : Reading) (reads : AreReadTo (take at text) r) where
  abbrev here : Lexeme
  here = get_or text at Long

  seen : look (here ∷ []) ≡ look (drop at text)
  seen = sym (ap look (drop_more text at Long within) ∙ look_first here (drop (at + 1) text))

  -- the token at the place is taken
  pub goes_on : (next : Reading) → reading_behind r.second r.wanted (look (drop at text)) ≡ Some next → AreReadTo (take (at + 1) text) next
  goes_on next is =
      subst (λ front. AreReadTo front next) (sym (take_more text at Long within))
      (read_more (take at text) r reads here next (ap (reading_behind r.second r.wanted) seen ∙ is))

  -- it isn't wanted
  module _ (end : ℕ) (before : at < end) (whole : end ≤ length text) where
    abbrev tail : List Lexeme
    tail = drop (at + 1) (take end text)

    cut : take end text ≡ take at text ++ here ∷ tail
    cut =
        let inside : at < length (take end text) = omega (arith, length-take-le end text whole) in
        let first : get_or (take end text) at Long ≡ here = get_or-take end text at Long before in
        let back : drop at (take end text) ≡ here ∷ tail = drop_more (take end text) at Long inside ∙ ap (λ (first : Lexeme). first ∷ tail) first in
        let front : take at (take end text) ≡ take at text = take-take at end text (omega arith) in
        sym (take-append-drop at (take end text)) ∙ (λ i. front i ++ back i)

    pub stops_there : reading_behind r.second r.wanted (look (drop at text)) ≡ None → StopsBefore (take end text)
    stops_there none = record {
      place = length (take at text);
      earlier = omega (arith, length-take-le at text (omega arith), length-take-le end text whole);
      stops = λ others.
          ap (λ front. unwanted goal.Bundle (front ++ others)) cut
          ∙ (ap (unwanted goal.Bundle) (append_assoc (take at text) (here ∷ tail) others)
          ∙ read_no_more (take at text) r reads here (tail ++ others) (ap (reading_behind r.second r.wanted) seen ∙ none));
    }
