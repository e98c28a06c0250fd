-- How the first unwanted token of a list lies, by what stands at a place of it.
use Rattle.std.proofs.Common.{◌≡◌, ℕ, suc, ◌+◌, ◌<◌, ◌≤◌, Bool, true, false, ◌&&◌, List, [], ◌∷◌, Option, Some, None, option_map, if◌then◌else◌, length, drop, reverse, refl, sym, ap, ◌∙◌, arith, length-drop}
use Rattle.std.specs.List.{list_all}
use Rattle.std.proofs.lemmas.List.{reverse-append, drop-drop}
use Rattle.std.proofs.lemmas.List.Folds.{list_all-append}
use Rattle.aioc_tokens.specs.Lexemes.{Lexeme}
use Rattle.wanted_tokens.specs.declared.goals.Goal.{Goal}
use Rattle.wanted_tokens.specs.declared.looks.Look.TheVariants as looks
use Rattle.wanted_tokens.specs.Looks.{look}
use Rattle.wanted_tokens.specs.Wanted.{Reading, taking, reading_behind, next_stop, stop, is_passed, may_end, unwanted}

last_first : (a b : Bool) → (b && (a && true)) ≡ (a && b)
last_first true true = refl
last_first true false = refl
last_first false true = refl
last_first false false = refl

all_reversed : {A : Type 0} (p : A → Bool) (list : List A) → list_all p (reverse list) ≡ list_all p list
all_reversed p [] = refl
all_reversed p (first ∷ others) =
    ap (list_all p) (reverse-append (first ∷ []) others)
    ∙ list_all-append p (reverse others) (first ∷ [])
    ∙ ap (λ b. b && (p first && true)) (all_reversed p others)
    ∙ last_first (p first) (list_all p others)

-- the order of the goals doesn't matter where none wants a token
pub over_reversed : (second : Bool) (goals : List Goal) → may_end second (reverse goals) ≡ may_end second goals
over_reversed second goals = all_reversed (λ goal. is_passed (taking second goal looks.End)) goals

stop_here : (from : List Lexeme) (r : Reading) → 0 < length from → reading_behind r.second r.wanted (look from) ≡ None → stop from r ≡ Some 0
stop_here [] r some none = absurd (omega arith)
stop_here (first ∷ others) r some none = ap (λ next. next_stop next (stop others)) none

stop_later : (from : List Lexeme) (r next : Reading) → 0 < length from → reading_behind r.second r.wanted (look from) ≡ Some next → stop from r ≡ option_map suc (stop (drop 1 from) next)
stop_later [] r next some is = absurd (omega arith)
stop_later (first ∷ others) r next some is = ap (λ next. next_stop next (stop others)) is

stop_at_end : (from : List Lexeme) (r : Reading) → length from ≡ 0 → stop from r ≡ (if may_end r.second r.wanted then None else Some 0)
stop_at_end [] r none = refl
stop_at_end (first ∷ others) r none = absurd (omega arith)

counted : (at : ℕ) (place : Option ℕ) → option_map (λ n. at + n) (option_map suc place) ≡ option_map (λ n. (at + 1) + n) place
counted at None = refl
counted at (Some n) = ap Some (omega arith)

module _ (whole : Goal) (text : List Lexeme) (at : ℕ) (r : Reading) (so_far : unwanted whole text ≡ option_map (λ n. at + n) (stop (drop at text) r)) where
  left : at < length text → 0 < length (drop at text)
  left within = omega (arith, length-drop at text)

  -- the token at the place isn't wanted
  pub stops_here : at < length text → reading_behind r.second r.wanted (look (drop at text)) ≡ None → Some at ≡ unwanted whole text
  stops_here within none =
      let here : at ≡ at + 0 = omega arith in
      ap Some here ∙ sym (so_far ∙ ap (option_map (λ n. at + n)) (stop_here (drop at text) r (left within) none))

  -- it is taken
  pub goes_on : (next : Reading) → at < length text → reading_behind r.second r.wanted (look (drop at text)) ≡ Some next → unwanted whole text ≡ option_map (λ n. (at + 1) + n) (stop (drop (at + 1) text) next)
  goes_on next within is =
      so_far
      ∙ ap (option_map (λ n. at + n)) (stop_later (drop at text) r next (left within) is)
      ∙ counted at (stop (drop 1 (drop at text)) next)
      ∙ ap (λ from. option_map (λ n. (at + 1) + n) (stop from next)) (drop-drop 1 at text)

  at_end : length text ≤ at → unwanted whole text ≡ option_map (λ n. at + n) (if may_end r.second r.wanted then None else Some 0)
  at_end over = so_far ∙ ap (option_map (λ n. at + n)) (stop_at_end (drop at text) r (omega (arith, length-drop at text)))

  -- the text goes through
  pub is_through : length text ≤ at → may_end r.second r.wanted ≡ true → None ≡ unwanted whole text
  is_through over passed = sym (at_end over ∙ ap (λ (b : Bool). option_map (λ n. at + n) (if b then None else Some 0)) passed)

  -- more is wanted at its end
  pub wants_more : length text ≤ at → may_end r.second r.wanted ≡ false → Some at ≡ unwanted whole text
  wants_more over wanted =
      let here : at ≡ at + 0 = omega arith in
      ap Some here ∙ sym (at_end over ∙ ap (λ (b : Bool). option_map (λ n. at + n) (if b then None else Some 0)) wanted)
