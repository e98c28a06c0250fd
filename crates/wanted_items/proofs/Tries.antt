-- How one token is tried.
use Rattle.std.proofs.Common.{◌≡◌, ℕ, ◌≤◌, Bool, true, false, List, [], ◌∷◌, ◌++◌, length, take, get_or, filter, if◌then◌else◌, ◌+◌, ◌-◌, ◌<◌, reverse, Option, None, Result, Ok, Err, IfOk, is_some, refl, ap, sym, ◌∙◌, subst, arith}
use Rattle.std.proofs.lemmas.List.{take_more, reverse-append}
use Rattle.std.proofs.lemmas.List.Elements.{filter-append}
use Rattle.dioc_terms.specs.declared.faults.Memory.{Memory}
use Rattle.aioc_tokens.specs.declared.kinds.Token.{Token}
use Rattle.aioc_tokens.specs.Words.{word_of}
use Rattle.aioc_tokens.specs.Lexing.{Lexes}
use Rattle.aioc_tokens.specs.Lexemes.{Lexeme, lexemes, HasLexemes, HasSpelling}
use Rattle.aioc_tokens.specs.Spelling.{spelling}
use Rattle.aioc_tokens.proofs.Readings.{one_reading}
use Rattle.aioc_tokens.proofs.Written.{spelled_lexemes}
use Rattle.text_places.specs.Laws.{HasTokens}
use Rattle.wanted_tokens.specs.declared.goals.Goal.{Goal}
use Rattle.wanted_tokens.specs.declared.looks.Look.{Look}
use Rattle.wanted_tokens.specs.declared.looks.PlaceWord.{PlaceWord}
use Rattle.wanted_tokens.specs.declared.looks.PlaceWord.TheVariants as word
use Rattle.wanted_tokens.specs.Takings.{GoalEffect, Takes, Passes, Stops}
use Rattle.wanted_tokens.specs.Wanted.{Reading, taking, version_behind, answer, reading_behind}
use Rattle.wanted_items.specs.declared.items.Item.{Item}
use Rattle.wanted_items.specs.declared.items.Item.TheVariants as item
use Rattle.wanted_items.specs.declared.walks.Walk.{Walk}
use Rattle.wanted_items.specs.Items.{lexeme_of, is_wanted}
use Rattle.wanted_items.specs.Walks.{IsTakenBy, IsWalk}

-- each item's token can be written
placed_formed : (placed : PlaceWord) → HasSpelling (lexeme_of (item.Placed placed))
unfolding word_of
placed_formed word.Version = ((refl, refl), omega arith, refl)
placed_formed word.Rules = ((refl, refl), omega arith, refl)
placed_formed _ = ((refl, refl), omega arith, refl)

item_formed : (i : Item) → HasSpelling (lexeme_of i)
unfolding word_of
item_formed item.Name = ((refl, refl), omega arith, refl)
item_formed item.Number = (omega arith, refl)
item_formed item.Two = (omega arith, refl)
item_formed item.Text = (refl, omega arith)
item_formed (item.Reserved word) = tt
item_formed (item.Placed word) = placed_formed word
item_formed (item.Symbol punctuator) = tt

-- and is read again
item_read : (i : Item) (text : List ℕ) → text ≡ spelling (lexeme_of i) → HasLexemes text (lexeme_of i ∷ [])
item_read i text is = subst (λ text. HasLexemes text (lexeme_of i ∷ [])) (sym is) (spelled_lexemes (lexeme_of i ∷ []) (item_formed i, tt))

pub item_has_tokens : (i : Item) (text : List ℕ) → text ≡ spelling (lexeme_of i) → HasTokens text
item_has_tokens i text is = let has = item_read i text is in (has.tokens, has.lexes)

pub item_lexemes : (i : Item) (text : List ℕ) (tokens : List Token) → text ≡ spelling (lexeme_of i) → Lexes 0 text tokens → lexemes text tokens ≡ lexeme_of i ∷ []
item_lexemes i text tokens is lexes = one_reading text (lexemes text tokens) (lexeme_of i ∷ []) (record { tokens = tokens; lexes = lexes; lexemes_are = refl }) (item_read i text is)

-- ---- what a goal makes of a token, by what it and the goal that takes the token make of it

module _ (second : Bool) (first own : Goal) (seen : Look) (is_taken : IsTakenBy own seen) (others : List Goal) where
  by_alone : (effect : GoalEffect) (version : Bool) (passed : Option Reading) → true ≡ is_some (answer effect version [] None) → true ≡ is_some (answer effect version others passed)
  by_alone (Takes goals) version passed is = refl
  by_alone Passes version passed is = absurd cc
  by_alone Stops version passed is = absurd cc

  by_neither : (effect : GoalEffect) (version : Bool) (passed later : Option Reading) → is_some later ≡ true → false ≡ is_some (answer effect version (own ∷ []) later) → false ≡ is_some (answer effect version others passed)
  by_neither (Takes goals) version passed later is none = absurd cc
  by_neither Passes version passed later is none = absurd cc
  by_neither Stops version passed later is none = refl

  by_own : (effect : GoalEffect) (version : Bool) (passed later : Option Reading) → false ≡ is_some (answer effect version [] None) → true ≡ is_some (answer effect version (own ∷ []) later) → is_some (answer effect version others passed) ≡ is_some passed
  by_own (Takes goals) version passed later none is = absurd cc
  by_own Passes version passed later none is = refl
  by_own Stops version passed later none is = absurd cc

  abbrev effect : GoalEffect
  effect = taking second first seen

  abbrev version : Bool
  version = version_behind second first

  abbrev passed : Option Reading
  passed = reading_behind second others seen

  pub it_takes : true ≡ is_some (reading_behind second (first ∷ []) seen) → true ≡ is_some (reading_behind second (first ∷ others) seen)
  it_takes is = by_alone effect version passed is

  pub it_stops : false ≡ is_some (reading_behind second (first ∷ own ∷ []) seen) → false ≡ is_some (reading_behind second (first ∷ others) seen)
  it_stops none = by_neither effect version passed (reading_behind second (own ∷ []) seen) (is_taken second) none

  pub it_passes : false ≡ is_some (reading_behind second (first ∷ []) seen) → true ≡ is_some (reading_behind second (first ∷ own ∷ []) seen)
      → is_some (reading_behind second (first ∷ others) seen) ≡ is_some (reading_behind second others seen)
  it_passes none is = by_own effect version passed (reading_behind second (own ∷ []) seen) none is

-- ---- the items that are wanted

-- one item more of a list, put behind those that are wanted where it is one of them
pub kept_more : (p : Item → Bool) (list : List Item) (i : ℕ) (x : Item) (old new : List Item) (wanted : Bool) → i < length list → old ≡ filter p (take i list) → wanted ≡ p (get_or list i x)
    → new ≡ old ++ (if wanted then get_or list i x ∷ [] else []) → new ≡ filter p (take (i + 1) list)
kept_more p list i x old new wanted inside so_far is added =
    let more = take_more list i x inside in
    added ∙ ((λ j. so_far j ++ (if is j then get_or list i x ∷ [] else [])) ∙ (sym (filter-append p (take i list) (get_or list i x ∷ [])) ∙ ap (filter p) (sym more)))

-- the last goal of those that are left is asked first
pub last_left : (goals : List Goal) (left : ℕ) (last : Goal) → 0 < left → left ≤ length goals → get_or goals (left - 1) last ≡ last → reverse (take left goals) ≡ last ∷ reverse (take (left - 1) goals)
last_left goals left last some within is =
    let count : left - 1 + 1 ≡ left = omega arith in
    let more : take left goals ≡ take (left - 1) goals ++ last ∷ [] = ap (λ count. take count goals) (sym count) ∙ (take_more goals (left - 1) last (omega arith) ∙ ap (λ (x : Goal). take (left - 1) goals ++ x ∷ []) is) in
    ap reverse more ∙ reverse-append (take (left - 1) goals) (last ∷ [])

-- the items that are wanted behind each text of a walk are those that are wanted behind this one
pub wanted_there : {X : Type 0} (items : X → List Item) (front : List Lexeme) (walk : Option Walk) (all list : List Item) (result : Result X Memory) → IsWalk front walk → list ≡ all
    → IfOk result (λ found. (front : List Lexeme) → IsWalk front walk → items found ≡ filter (is_wanted front) list) → IfOk result (λ found. items found ≡ filter (is_wanted front) all)
wanted_there items front walk all list (Ok found) walked is told = told front walked ∙ ap (filter (is_wanted front)) is
wanted_there items front walk all list (Err fault) walked is told = told
