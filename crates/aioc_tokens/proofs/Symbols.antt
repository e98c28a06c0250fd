-- The longest symbol of at most two bytes.
use Rattle.std.specs.Prelude.{MatchOption}
use Rattle.std.specs.Option.{option_map_or}
use Rattle.std.proofs.Common.{◌≡◌, ℕ, zero, suc, ◌<◌, ◌≤◌, ◌⊎◌, inl, inr, true, List, [], ◌∷◌, length, get_or, take, Option, Some, None, is_some, refl, ap, sym, ◌∙◌, subst, arith, length-take-le}
use Rattle.std.proofs.lemmas.Bool.{cases_lt}
use Rattle.aioc_tokens.specs.declared.kinds.Kind.TheVariants.{Symbol}
use Rattle.aioc_tokens.specs.declared.words.Punctuator.{Punctuator}
use Rattle.aioc_tokens.specs.declared.words.Sort.{Sort}
use Rattle.aioc_tokens.specs.declared.words.Punctuator.TheVariants.{LeftBrace, RightBrace}
use Rattle.aioc_tokens.specs.Words.{punctuator_spelling, punctuator_of, longer_of, longest_symbol}
use Rattle.aioc_tokens.specs.Tokens.{IsFront, IsLongestToken, BeginsComment}
use Rattle.aioc_tokens.specs.Lexemes.{Long, sort_of}
use Rattle.aioc_tokens.specs.Lexemes as lexemes
use Rattle.aioc_tokens.specs.Packed.{IsSymbolAt, IsSortedToken}
use Rattle.aioc_tokens.specs.FirstBytes.{IsLone}
use Rattle.aioc_tokens.proofs.Firsts.{front_first, same_kind}
use Rattle.aioc_tokens.proofs.Runs.{no_comment_by}
use Rattle.aioc_tokens.proofs.Spellings.{punctuator_found, punctuator_of_spelled}

pub punctuator_short : (punctuator : Punctuator) → length (punctuator_spelling punctuator) ≤ 2
punctuator_short LeftBrace = omega arith
punctuator_short RightBrace = omega arith
punctuator_short _ = omega arith

some_punctuator : (found : Option Punctuator) → is_some found ≡ true → (punctuator : Punctuator) × (found ≡ Some punctuator)
some_punctuator None some = absurd cc
some_punctuator (Some punctuator) some = (punctuator, refl)

-- a front that is found in the table is a symbol, and no other is
pub symbol_found : (text : List ℕ) (count : ℕ) → count ≤ length text → is_some (punctuator_of (take count text)) ≡ true → IsFront text Symbol count
symbol_found text count within some =
    let (punctuator, found) = some_punctuator (punctuator_of (take count text)) some in
    record { within = within; spells = (punctuator, punctuator_of_spelled (take count text) punctuator found) }

pub symbol_in_table : (text : List ℕ) (count : ℕ) → IsFront text Symbol count → is_some (punctuator_of (take count text)) ≡ true
symbol_in_table text count front = ap is_some (ap punctuator_of front.spells.1 ∙ punctuator_found front.spells.0)

module _ (text : List ℕ) where
  symbol_short : (count : ℕ) → IsFront text Symbol count → count ≤ 2
  symbol_short count front =
      let punctuator = front.spells.0 in
      let size : count ≡ length (punctuator_spelling punctuator) = sym (length-take-le count text front.within) ∙ ap length front.spells.1 in
      omega (arith, punctuator_short punctuator)

  -- two bytes that are a symbol are the longest token
  pub two_longest : IsFront text Symbol 2 → (¬ BeginsComment text) → IsLongestToken text Symbol 2
  two_longest front no_comment = record {
    front = front;
    longest = λ other more that.
        let same = same_kind text Symbol other 2 more front that in
        symbol_short more (subst (λ kind. IsFront text kind more) (sym same) that);
    no_comment = no_comment;
  }

  -- one byte that is a symbol is the longest token where two bytes are none
  pub one_longest : IsFront text Symbol 1 → (¬ IsFront text Symbol 2) → (¬ BeginsComment text) → IsLongestToken text Symbol 1
  one_longest front no_two no_comment = record {
    front = front;
    longest = λ other more that.
        let same = same_kind text Symbol other 1 more front that in
        below more (subst (λ kind. IsFront text kind more) (sym same) that);
    no_comment = no_comment;
  }
    where
      below : (more : ℕ) → IsFront text Symbol more → more ≤ 1
      below zero that = omega arith
      below (suc zero) that = omega arith
      below (suc (suc zero)) that = absurd (no_two that)
      below (suc (suc (suc more))) that = absurd (omega (arith, symbol_short (suc (suc (suc more))) that))

  -- where neither one byte nor two are a symbol there is none
  pub no_symbol : (¬ IsFront text Symbol 1) → (¬ IsFront text Symbol 2) → (count : ℕ) → IsFront text Symbol count → ⊥
  no_symbol no_one no_two zero front = absurd (omega (arith, (front_first text Symbol zero front).1))
  no_symbol no_one no_two (suc zero) front = no_one front
  no_symbol no_one no_two (suc (suc zero)) front = no_two front
  no_symbol no_one no_two (suc (suc (suc more))) front = absurd (omega (arith, symbol_short (suc (suc (suc more))) front))

-- the first bytes of a text
two_first : (text : List ℕ) → 1 < length text → take 2 text ≡ get_or text 0 0 ∷ get_or text 1 0 ∷ []
two_first [] more = absurd (omega arith)
two_first (first ∷ []) more = absurd (omega arith)
two_first (first ∷ second ∷ others) more = refl

one_first : (text : List ℕ) → 0 < length text → take 1 text ≡ get_or text 0 0 ∷ []
one_first [] some = absurd (omega arith)
one_first (first ∷ others) some = refl

-- a symbol of the table that the first bytes spell is the longest at the front
module _ (text : List ℕ) (no_comment : ¬ BeginsComment text) where
  pub pair_at : (punctuator : Punctuator) → 1 < length text → punctuator_of (get_or text 0 0 ∷ get_or text 1 0 ∷ []) ≡ Some punctuator → IsSymbolAt text punctuator 2
  pair_at punctuator more is =
      let known = ap punctuator_of (two_first text more) ∙ is in
      record { token = two_longest text (symbol_found text 2 (omega arith) (ap is_some known)) no_comment; known = known }

  pub lone_at : (punctuator : Punctuator) → 0 < length text → (¬ IsFront text Symbol 2) → punctuator_of (get_or text 0 0 ∷ []) ≡ Some punctuator → IsSymbolAt text punctuator 1
  lone_at punctuator some no_two is =
      let known = ap punctuator_of (one_first text some) ∙ is in
      record { token = one_longest text (symbol_found text 1 (omega arith) (ap is_some known)) no_two no_comment; known = known }

pub no_pair_at : (text : List ℕ) → 1 < length text → punctuator_of (get_or text 0 0 ∷ get_or text 1 0 ∷ []) ≡ None → IsFront text Symbol 2 → ⊥
no_pair_at text more is front = let found = symbol_in_table text 2 front in let none = ap is_some (ap punctuator_of (two_first text more) ∙ is) in cc

pub short_for_pair : (text : List ℕ) → length text ≤ 1 → IsFront text Symbol 2 → ⊥
short_for_pair text short front = omega (arith, front.within)

pub none_at : (text : List ℕ) → 0 < length text → (¬ IsFront text Symbol 2) → punctuator_of (get_or text 0 0 ∷ []) ≡ None → (count : ℕ) → IsFront text Symbol count → ⊥
none_at text some no_two is =
    no_symbol text (λ front. let found = symbol_in_table text 1 front in let none = ap is_some (ap punctuator_of (one_first text some) ∙ is) in cc) no_two

-- a symbol that is found, or that none stands at the front
abbrev pub FoundIn : List ℕ → Option (Punctuator × ℕ) → Type 0
FoundIn text found = MatchOption found ((count : ℕ) → IsFront text Symbol count → ⊥) (λ it. IsSymbolAt text it.0 it.1)

pub longest_at : (text : List ℕ) → (¬ BeginsComment text) → 1 < length text → FoundIn text (longest_symbol (get_or text 0 0) (get_or text 1 0))
longest_at text no_comment more = by_pair (punctuator_of (get_or text 0 0 ∷ get_or text 1 0 ∷ [])) refl
  where
    by_lone : (¬ IsFront text Symbol 2) → (lone : Option Punctuator) → punctuator_of (get_or text 0 0 ∷ []) ≡ lone → FoundIn text (longer_of None lone)
    by_lone no_two (Some punctuator) is = lone_at text no_comment punctuator (omega arith) no_two is
    by_lone no_two None is = none_at text (omega arith) no_two is

    by_pair : (pair : Option Punctuator) → punctuator_of (get_or text 0 0 ∷ get_or text 1 0 ∷ []) ≡ pair → FoundIn text (longer_of pair (punctuator_of (get_or text 0 0 ∷ [])))
    by_pair (Some punctuator) is = pair_at text no_comment punctuator more is
    by_pair None is = by_lone (no_pair_at text more is) (punctuator_of (get_or text 0 0 ∷ [])) refl

-- a symbol of one byte that begins no longer one, and no comment, is the token at the front
pub lone_token : (text : List ℕ) → 0 < length text → (sort : Sort) → IsLone (get_or text 0 0) sort → IsSortedToken text sort 1
lone_token text some sort lone =
    let no_comment : ¬ BeginsComment text = no_comment_by text lone.no_slash in
    let found : IsSymbolAt text lone.punctuator 1 = lone_at text no_comment lone.punctuator some (no_two (cases_lt 1 (length text))) lone.known in
    record {
      kind = Symbol;
      token = found.token;
      sort_is = lone.sort_is ∙ ap (λ known. sort_of (option_map_or lexemes.Symbol known Long ∷ [])) (sym found.known);
    }
  where
    no_two : (1 < length text) ⊎ (length text ≤ 1) → IsFront text Symbol 2 → ⊥
    no_two (inl more) = no_pair_at text more (lone.no_pair (get_or text 1 0))
    no_two (inr short) = short_for_pair text short
