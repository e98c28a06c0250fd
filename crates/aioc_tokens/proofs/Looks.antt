-- What a look at a place of a text with its tokens shows.
use Rattle.std.proofs.Common.{◌≡◌, ◌≢◌, ℕ, zero, suc, ◌+◌, ◌-◌, ◌<◌, ◌≤◌, Bool, true, false, cond, List, [], ◌∷◌, length, get_or, drop, take, map, ◌++◌, Option, Some, None, refl, ap, sym, ◌∙◌, subst, arith, length-drop, drop-drop, add_assoc, min, ⊎_elim, ◌↔◌, IfOk, Result, Ok, Err, Vec, Global}
use Rattle.std.specs.Prelude.{nat_le}
use Rattle.std.specs.Option.{option_map_or}
use Rattle.std.proofs.str.Laws.{order}
use Rattle.std.proofs.Math.Seq.{take-suc}
use Rattle.std.proofs.lemmas.List.{get_or-take, drop_more, drop-map, drop_all, length-map, get_or_default}
use Rattle.std.proofs.lemmas.Bool.Decides.{nat_tests}
use Rattle.aioc_tokens.specs.declared.kinds.Kind.{Kind}
use Rattle.aioc_tokens.specs.declared.kinds.Kind.TheVariants as kinds
use Rattle.aioc_tokens.specs.declared.kinds.Token.{Token}
use Rattle.limits.specs.Limits.{most_name_bytes, most_text_bytes}
use Rattle.aioc_tokens.specs.declared.words.Punctuator.{Punctuator}
use Rattle.aioc_tokens.specs.declared.words.Word.{Word}
use Rattle.aioc_tokens.specs.declared.words.Sort.{Sort}
use Rattle.aioc_tokens.specs.declared.words.Sort.TheVariants as sorts
use Rattle.aioc_tokens.specs.Words.{word_of, punctuator_of}
use Rattle.aioc_tokens.specs.Tokens.{Spells}
use Rattle.aioc_tokens.specs.Lexing.{Lexes, IsTokenOf, bytes_of}
use Rattle.aioc_tokens.specs.Lexemes.{Lexeme, Name, Long, Number, Text, Reserved, Symbol, lexeme, lexemes, sort_of, all_sorts, AreKnown, value_of, Begins, HasSpelling}
use Rattle.aioc_tokens.proofs.Walk.{token_size}
use Rattle.aioc_tokens.proofs.Order.{lexes_longest}
use Rattle.aioc_tokens.proofs.Values.{text_quoted}

pub token_at : (text : List ℕ) (tokens : List Token) → Lexes 0 text tokens → (at : ℕ) (other : Token) → at < length tokens → IsTokenOf text (get_or tokens at other)
token_at text tokens lexes at other inside =
    let token = get_or tokens at other in
    let longest = lexes_longest text tokens lexes at other inside in
    let size = token_size (drop token.start text) token.kind (token.end - token.start) longest in
    record {
      ordered = omega (arith, size.0);
      within = omega (arith, size.0, size.1, length-drop token.start text);
      spells = longest.front.spells;
    }

-- what is left from the place of a token on begins with its lexeme
pub lexeme_at : (text : List ℕ) (tokens : List Token) (at : ℕ) (other : Token) → at < length tokens
    → drop at (lexemes text tokens) ≡ lexeme (get_or tokens at other).kind (bytes_of text (get_or tokens at other)) ∷ drop (at + 1) (lexemes text tokens)
lexeme_at text tokens at other inside =
    let shown = λ (token : Token). lexeme token.kind (bytes_of text token) in
    drop-map shown at tokens ∙ ap (map shown) (drop_more tokens at other inside) ∙ ap (λ rest. shown (get_or tokens at other) ∷ rest) (sym (drop-map shown (at + 1) tokens))

pub lexeme_past : (text : List ℕ) (tokens : List Token) (at : ℕ) → length tokens ≤ at → drop at (lexemes text tokens) ≡ []
lexeme_past text tokens at past = drop_all at (lexemes text tokens) (omega (arith, length-map tokens (λ (token : Token). lexeme token.kind (bytes_of text token))))

-- the sort is that of the first lexeme alone
pub sort_of_first : (first : Lexeme) (others : List Lexeme) → sort_of (first ∷ others) ≡ sort_of (first ∷ [])
sort_of_first (Name bytes) others = refl
sort_of_first Long others = refl
sort_of_first _ others = refl

-- what a token's lexeme is like
name_formed : (bytes : List ℕ) (reserved : Option Word) (short : Bool) → Spells kinds.Name bytes → word_of bytes ≡ reserved → nat_le (length bytes) most_name_bytes ≡ short → lexeme kinds.Name bytes ≢ Long → HasSpelling (lexeme kinds.Name bytes)
name_formed bytes (Some word) short spells is fits taken = rw is tt
name_formed bytes None true spells is fits taken = rw (is, fits) (spells, grind (arith, nat_tests), is)
name_formed bytes None false spells is fits taken = absurd (taken (rw (is, fits) refl))

text_formed : (bytes : List ℕ) (short : Bool) → Spells kinds.Text bytes → nat_le (length (value_of bytes)) most_text_bytes ≡ short → lexeme kinds.Text bytes ≢ Long → HasSpelling (lexeme kinds.Text bytes)
text_formed bytes true spells fits taken = rw fits ((text_quoted bytes spells).printable, grind (arith, nat_tests))
text_formed bytes false spells fits taken = absurd (taken (rw fits refl))

symbol_formed : (bytes : List ℕ) (punctuator : Option Punctuator) → punctuator_of bytes ≡ punctuator → lexeme kinds.Symbol bytes ≢ Long → HasSpelling (lexeme kinds.Symbol bytes)
symbol_formed bytes (Some punctuator) is taken = rw is tt
symbol_formed bytes None is taken = absurd (taken (rw is refl))

-- A token's lexeme can be written, unless it is too long.
pub lexeme_formed : (kind : Kind) (bytes : List ℕ) → Spells kind bytes → lexeme kind bytes ≢ Long → HasSpelling (lexeme kind bytes)
lexeme_formed kinds.Name bytes spells taken = name_formed bytes (word_of bytes) (nat_le (length bytes) most_name_bytes) spells refl refl taken
lexeme_formed kinds.Number bytes spells taken = spells
lexeme_formed kinds.Text bytes spells taken = text_formed bytes (nat_le (length (value_of bytes)) most_text_bytes) spells refl taken
lexeme_formed kinds.Symbol bytes spells taken = symbol_formed bytes (punctuator_of bytes) refl taken

-- what the sort of the first lexeme says of the list
pub end_first : (from : List Lexeme) → sort_of from ≡ sorts.End → from ≡ []
end_first [] sort = refl
end_first (Name bytes ∷ others) sort = absurd cc
end_first (Long ∷ others) sort = absurd cc
end_first (_ ∷ others) sort = absurd cc

pub name_first : (from : List Lexeme) → sort_of from ≡ sorts.Name → (bytes : List ℕ) × (from ≡ Name bytes ∷ drop 1 from)
name_first (Name bytes ∷ others) sort = (bytes, refl)
name_first [] sort = absurd cc
name_first (Long ∷ others) sort = absurd cc
name_first (_ ∷ others) sort = absurd cc

pub number_first : (from : List Lexeme) → sort_of from ≡ sorts.Number → (digits : List ℕ) × (from ≡ Number digits ∷ drop 1 from)
number_first (Number digits ∷ others) sort = (digits, refl)
number_first [] sort = absurd cc
number_first (Long ∷ others) sort = absurd cc
number_first (_ ∷ others) sort = absurd cc

pub text_first : (from : List Lexeme) → sort_of from ≡ sorts.Text → (value : List ℕ) × (from ≡ Text value ∷ drop 1 from)
text_first (Text value ∷ others) sort = (value, refl)
text_first [] sort = absurd cc
text_first (Long ∷ others) sort = absurd cc
text_first (_ ∷ others) sort = absurd cc

pub reserved_first : (from : List Lexeme) (word : Word) → sort_of from ≡ sorts.Reserved word → from ≡ Reserved word ∷ drop 1 from
reserved_first (Reserved other ∷ others) word sort = let same : other ≡ word = cc in ap (λ word. Reserved word ∷ others) same
reserved_first [] word sort = absurd cc
reserved_first (Long ∷ others) word sort = absurd cc
reserved_first (_ ∷ others) word sort = absurd cc

pub symbol_first : (from : List Lexeme) (punctuator : Punctuator) → sort_of from ≡ sorts.Symbol punctuator → from ≡ Symbol punctuator ∷ drop 1 from
symbol_first (Symbol other ∷ others) punctuator sort = let same : other ≡ punctuator = cc in ap (λ punctuator. Symbol punctuator ∷ others) same
symbol_first [] punctuator sort = absurd cc
symbol_first (Long ∷ others) punctuator sort = absurd cc
symbol_first (_ ∷ others) punctuator sort = absurd cc

-- a lexeme that is a name, a number or a text comes from such bytes alone
lexeme_name : (kind : Kind) (bytes name : List ℕ) → lexeme kind bytes ≡ Name name → name ≡ bytes
lexeme_name kinds.Name bytes name is = go (word_of bytes) (nat_le (length bytes) most_name_bytes) is
  where
    go : (reserved : Option Word) (short : Bool) → option_map_or Reserved reserved (cond short (Name bytes) Long) ≡ Name name → name ≡ bytes
    go (Some word) short same = absurd cc
    go None true same = cc
    go None false same = absurd cc
lexeme_name kinds.Number bytes name is = absurd cc
lexeme_name kinds.Text bytes name is = go (nat_le (length (value_of bytes)) most_text_bytes) is
  where
    go : (short : Bool) → cond short (Text (value_of bytes)) Long ≡ Name name → name ≡ bytes
    go true same = absurd cc
    go false same = absurd cc
lexeme_name kinds.Symbol bytes name is = go (punctuator_of bytes) is
  where
    go : (punctuator : Option Punctuator) → option_map_or Symbol punctuator Long ≡ Name name → name ≡ bytes
    go (Some punctuator) same = absurd cc
    go None same = absurd cc

lexeme_number : (kind : Kind) (bytes digits : List ℕ) → lexeme kind bytes ≡ Number digits → digits ≡ bytes
lexeme_number kinds.Number bytes digits is = cc
lexeme_number kinds.Name bytes digits is = go (word_of bytes) (nat_le (length bytes) most_name_bytes) is
  where
    go : (reserved : Option Word) (short : Bool) → option_map_or Reserved reserved (cond short (Name bytes) Long) ≡ Number digits → digits ≡ bytes
    go (Some word) short same = absurd cc
    go None true same = absurd cc
    go None false same = absurd cc
lexeme_number kinds.Text bytes digits is = go (nat_le (length (value_of bytes)) most_text_bytes) is
  where
    go : (short : Bool) → cond short (Text (value_of bytes)) Long ≡ Number digits → digits ≡ bytes
    go true same = absurd cc
    go false same = absurd cc
lexeme_number kinds.Symbol bytes digits is = go (punctuator_of bytes) is
  where
    go : (punctuator : Option Punctuator) → option_map_or Symbol punctuator Long ≡ Number digits → digits ≡ bytes
    go (Some punctuator) same = absurd cc
    go None same = absurd cc

lexeme_text : (kind : Kind) (bytes value : List ℕ) → lexeme kind bytes ≡ Text value → (kind ≡ kinds.Text) × (value ≡ value_of bytes)
lexeme_text kinds.Text bytes value is = (refl, go (nat_le (length (value_of bytes)) most_text_bytes) is)
  where
    go : (short : Bool) → cond short (Text (value_of bytes)) Long ≡ Text value → value ≡ value_of bytes
    go true same = cc
    go false same = absurd cc
lexeme_text kinds.Name bytes value is = absurd (go (word_of bytes) (nat_le (length bytes) most_name_bytes) is)
  where
    go : (reserved : Option Word) (short : Bool) → option_map_or Reserved reserved (cond short (Name bytes) Long) ≡ Text value → ⊥
    go (Some word) short same = cc
    go None true same = cc
    go None false same = cc
lexeme_text kinds.Number bytes value is = absurd cc
lexeme_text kinds.Symbol bytes value is = absurd (go (punctuator_of bytes) is)
  where
    go : (punctuator : Option Punctuator) → option_map_or Symbol punctuator Long ≡ Text value → ⊥
    go (Some punctuator) same = cc
    go None same = cc

-- a token of the text whose lexeme stands first, before the others
pub record Shows (text : List ℕ) (token : Token) (from others : List Lexeme) (shown : Lexeme) : Type 0 where
  pub known : IsTokenOf text token
  pub first : from ≡ shown ∷ others
  pub formed : HasSpelling shown

module _ (text : List ℕ) (tokens : List Token) (lexes : Lexes 0 text tokens) (at : ℕ) where
  -- where the sort isn't `End` there is a token
  pub token_inside : (sort : Sort) → sort_of (drop at (lexemes text tokens)) ≡ sort → sort ≢ sorts.End → at < length tokens
  token_inside sort is some = ⊎_elim (λ inside. inside) (λ past. absurd (some (sym is ∙ ap sort_of (lexeme_past text tokens at past)))) (order at (length tokens))

  module _ (token : Token) (inside : at < length tokens) (read : token ≡ get_or tokens at token) where
    pub token_read : IsTokenOf text token
    token_read = subst (IsTokenOf text) (sym read) (token_at text tokens lexes at token inside)

    pub lexeme_read : drop at (lexemes text tokens) ≡ lexeme token.kind (bytes_of text token) ∷ drop (at + 1) (lexemes text tokens)
    lexeme_read =
        let shown = λ (token : Token). lexeme token.kind (bytes_of text token) in
        lexeme_at text tokens at token inside ∙ ap (λ other. shown other ∷ drop (at + 1) (lexemes text tokens)) (sym read)

    pub sort_read : sort_of (drop at (lexemes text tokens)) ≡ sort_of (lexeme token.kind (bytes_of text token) ∷ [])
    sort_read = ap sort_of lexeme_read ∙ sort_of_first (lexeme token.kind (bytes_of text token)) (drop (at + 1) (lexemes text tokens))

    formed_read : (other : Lexeme) → lexeme token.kind (bytes_of text token) ≡ other → other ≢ Long → HasSpelling other
    formed_read other is taken =
        subst HasSpelling is (lexeme_formed token.kind (bytes_of text token) token_read.spells (λ long. taken (sym is ∙ long)))

    first_read : (other : Lexeme) (others : List Lexeme) → drop at (lexemes text tokens) ≡ other ∷ others → lexeme token.kind (bytes_of text token) ≡ other
    first_read other others is = let both = sym lexeme_read ∙ is in cc

    -- what stands at the place, where the token's lexeme is known
    shown : (other : Lexeme) → lexeme token.kind (bytes_of text token) ≡ other → other ≢ Long → Shows text token (drop at (lexemes text tokens)) (drop (at + 1) (lexemes text tokens)) other
    shown other is taken = record {
      known = token_read;
      first = lexeme_read ∙ ap (λ other. other ∷ drop (at + 1) (lexemes text tokens)) is;
      formed = formed_read other is taken;
    }

    name_read : sort_of (drop at (lexemes text tokens)) ≡ sorts.Name → Shows text token (drop at (lexemes text tokens)) (drop (at + 1) (lexemes text tokens)) (Name (bytes_of text token))
    name_read sort =
        let (name, first) = name_first (drop at (lexemes text tokens)) sort in
        let is = first_read (Name name) _ first in
        shown (Name (bytes_of text token)) (is ∙ ap Name (lexeme_name token.kind (bytes_of text token) name is)) (λ long. cc)

    number_read : sort_of (drop at (lexemes text tokens)) ≡ sorts.Number → Shows text token (drop at (lexemes text tokens)) (drop (at + 1) (lexemes text tokens)) (Number (bytes_of text token))
    number_read sort =
        let (digits, first) = number_first (drop at (lexemes text tokens)) sort in
        let is = first_read (Number digits) _ first in
        shown (Number (bytes_of text token)) (is ∙ ap Number (lexeme_number token.kind (bytes_of text token) digits is)) (λ long. cc)

    text_read : sort_of (drop at (lexemes text tokens)) ≡ sorts.Text
        → (token.kind ≡ kinds.Text) × Shows text token (drop at (lexemes text tokens)) (drop (at + 1) (lexemes text tokens)) (Text (value_of (bytes_of text token)))
    text_read sort =
        let (value, first) = text_first (drop at (lexemes text tokens)) sort in
        let is = first_read (Text value) _ first in
        let (kind, same) = lexeme_text token.kind (bytes_of text token) value is in
        (kind, shown (Text (value_of (bytes_of text token))) (is ∙ ap Text same) (λ long. cc))

-- the same of the token at a place, where the lexemes have another name
module _ (text : List ℕ) (tokens : List Token) (lexes : Lexes 0 text tokens) (at : ℕ) (other : Token) (all : List Lexeme) (view : lexemes text tokens ≡ all) where
  pub name_shown : sort_of (drop at all) ≡ sorts.Name → Shows text (get_or tokens at other) (drop at all) (drop (at + 1) all) (Name (bytes_of text (get_or tokens at other)))
  name_shown sort =
      let here = ap (λ all. sort_of (drop at all)) view ∙ sort in
      let inside = token_inside text tokens lexes at sorts.Name here (λ same. cc) in
      subst (λ all. Shows text (get_or tokens at other) (drop at all) (drop (at + 1) all) (Name (bytes_of text (get_or tokens at other)))) view
      (name_read text tokens lexes at (get_or tokens at other) inside (get_or_default tokens at other (get_or tokens at other) inside) here)

  pub number_shown : sort_of (drop at all) ≡ sorts.Number → Shows text (get_or tokens at other) (drop at all) (drop (at + 1) all) (Number (bytes_of text (get_or tokens at other)))
  number_shown sort =
      let here = ap (λ all. sort_of (drop at all)) view ∙ sort in
      let inside = token_inside text tokens lexes at sorts.Number here (λ same. cc) in
      subst (λ all. Shows text (get_or tokens at other) (drop at all) (drop (at + 1) all) (Number (bytes_of text (get_or tokens at other)))) view
      (number_read text tokens lexes at (get_or tokens at other) inside (get_or_default tokens at other (get_or tokens at other) inside) here)

  pub text_shown : sort_of (drop at all) ≡ sorts.Text
      → ((get_or tokens at other).kind ≡ kinds.Text) × Shows text (get_or tokens at other) (drop at all) (drop (at + 1) all) (Text (value_of (bytes_of text (get_or tokens at other))))
  text_shown sort =
      let here = ap (λ all. sort_of (drop at all)) view ∙ sort in
      let inside = token_inside text tokens lexes at sorts.Text here (λ same. cc) in
      subst (λ all. ((get_or tokens at other).kind ≡ kinds.Text) × Shows text (get_or tokens at other) (drop at all) (drop (at + 1) all) (Text (value_of (bytes_of text (get_or tokens at other))))) view
      (text_read text tokens lexes at (get_or tokens at other) inside (get_or_default tokens at other (get_or tokens at other) inside) here)

-- one sort more
pub begins_more : (wanted : List Sort) (all : List Lexeme) (at place : ℕ) (other : Sort) → place < length wanted → sort_of (drop (at + place) all) ≡ get_or wanted place other
    → Begins (drop place wanted) (drop (at + place) all) ↔ Begins wanted (drop at all) → Begins (drop (place + 1) wanted) (drop (at + (place + 1)) all) ↔ Begins wanted (drop at all)
begins_more wanted all at place other inside same kept =
    let step = drop_more wanted place other inside in
    let rest : drop 1 (drop (at + place) all) ≡ drop (at + (place + 1)) all = drop-drop 1 (at + place) all ∙ ap (λ count. drop count all) (add_assoc at place 1) in (
      λ others. kept.0 (subst (λ sorts. Begins sorts (drop (at + place) all)) (sym step) (same, subst (Begins (drop (place + 1) wanted)) (sym rest) others)),
      λ whole. subst (Begins (drop (place + 1) wanted)) rest (second (get_or wanted place other) (drop (place + 1) wanted) (subst (λ sorts. Begins sorts (drop (at + place) all)) step (kept.1 whole))),
    )
  where
    second : (first : Sort) (others : List Sort) → Begins (first ∷ others) (drop (at + place) all) → Begins others (drop 1 (drop (at + place) all))
    second first others both = both.1

-- past the greatest number there is no lexeme, as at it
pub drop_capped : (all : List Lexeme) (count most : ℕ) → length all ≤ most → drop (min count most) all ≡ drop count all
drop_capped all count most short = ⊎_elim
    (λ past. drop_all (min count most) all (omega arith) ∙ sym (drop_all count all (omega arith)))
    (λ within. ap (λ count. drop count all) (omega arith)) (order most count)

-- a copied value
pub text_copied : {Fault : Type 0} (result : Result (Vec ℕ Global) Fault) (bytes : List ℕ) (from others : List Lexeme) → IfOk result (λ v. v.items ≡ value_of bytes) → from ≡ Text (value_of bytes) ∷ others
    → IfOk result (λ v. from ≡ Text v.items ∷ others)
text_copied (Ok copy) bytes from others same first = first ∙ ap (λ value. Text value ∷ others) (sym same)
text_copied (Err fault) bytes from others same first = tt

pub text_copied_formed : {Fault : Type 0} (result : Result (Vec ℕ Global) Fault) (bytes : List ℕ) → IfOk result (λ v. v.items ≡ value_of bytes) → HasSpelling (Text (value_of bytes))
    → IfOk result (λ v. HasSpelling (Text v.items))
text_copied_formed (Ok copy) bytes same formed = subst (λ value. HasSpelling (Text value)) (sym same) formed
text_copied_formed (Err fault) bytes same formed = tt

-- the sort at a place of all sorts
pub sort_at : (list : List Lexeme) (at : ℕ) → get_or (all_sorts list) at sorts.End ≡ sort_of (drop at list)
sort_at [] zero = refl
sort_at [] (suc at) = refl
sort_at (first ∷ others) zero = sym (sort_of_first first others)
sort_at (first ∷ others) (suc at) = sort_at others at

-- a sort that is known is that of the lexeme at its place
pub known_sort : (known : List Sort) (list : List Lexeme) (at : ℕ) → AreKnown known list → at < length known → get_or known at sorts.End ≡ sort_of (drop at list)
known_sort known list at are within =
    ap (λ known. get_or known at sorts.End) are ∙ get_or-take (length known) (all_sorts list) at sorts.End within ∙ sort_at list at

-- a place where a lexeme stands is one of the list
pub sort_within : (list : List Lexeme) (at : ℕ) → sort_of (drop at list) ≢ sorts.End → at < length list
sort_within [] zero stands = absurd (stands refl)
sort_within [] (suc at) stands = absurd (stands refl)
sort_within (first ∷ others) zero stands = omega arith
sort_within (first ∷ others) (suc at) stands = let within = sort_within others at stands in omega arith

-- one token more, and its sort behind the others
pub sorts_further : (text : List ℕ) (tokens : List Token) (at : ℕ) (token : Token) (found : List Sort) → Lexes 0 text tokens → at < length tokens → token ≡ get_or tokens at token
    → found ≡ take at (all_sorts (lexemes text tokens))
    → found ++ (sort_of (lexeme token.kind (bytes_of text token) ∷ []) ∷ []) ≡ take (at + 1) (all_sorts (lexemes text tokens))
sorts_further text tokens at token found lexes inside read are =
    let list = lexemes text tokens in
    let here : get_or (all_sorts list) at sorts.End ≡ sort_of (lexeme token.kind (bytes_of text token) ∷ []) = sort_at list at ∙ sort_read text tokens lexes at token inside read in
    let next : suc at ≡ at + 1 = omega arith in
    let within : at < length (all_sorts list) = omega (arith, length-map list (λ (first : Lexeme). sort_of (first ∷ [])), length-map tokens (λ (token : Token). lexeme token.kind (bytes_of text token))) in
    ap (λ found. found ++ (sort_of (lexeme token.kind (bytes_of text token) ∷ []) ∷ [])) are
    ∙ ap (λ last. take at (all_sorts list) ++ (last ∷ [])) (sym here)
    ∙ sym (take-suc (all_sorts list) at sorts.End within)
    ∙ ap (λ n. take n (all_sorts list)) next
