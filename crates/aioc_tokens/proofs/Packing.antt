-- What packed tokens show: the pass that packs them, and a look at them.
use Rattle.std.proofs.Common.{◌≡◌, ◌≢◌, ℕ, zero, suc, ◌+◌, ◌-◌, ◌<◌, ◌≤◌, Bool, true, false, cond, List, [], ◌∷◌, ◌++◌, length, get_or, take, drop, map, Option, Some, None, refl, ap, ap₂, sym, ◌∙◌, subst, arith, All, max}
use Rattle.std.specs.Prelude.{nat_le}
use Rattle.std.specs.Option.{option_map_or}
use Rattle.std.specs.Char.{is_ascii_alphabetic, is_ascii_digit}
use Rattle.std.specs.List.{list_all, prefix_len}
use Rattle.std.proofs.lemmas.Bool.{and_parts}
use Rattle.std.proofs.lemmas.List.{length-map, map-append, drop_all}
use Rattle.aioc_tokens.specs.declared.kinds.Kind.{Kind}
use Rattle.aioc_tokens.specs.declared.kinds.Kind.TheVariants as kinds
use Rattle.aioc_tokens.specs.declared.kinds.Token.{Token}
use Rattle.limits.specs.Limits.{most_name_bytes, most_text_bytes}
use Rattle.aioc_tokens.specs.declared.words.Punctuator.{Punctuator}
use Rattle.aioc_tokens.specs.declared.words.Word.{Word}
use Rattle.aioc_tokens.specs.declared.words.Sort.{Sort}
use Rattle.aioc_tokens.specs.declared.words.Sort.TheVariants as sorts
use Rattle.aioc_tokens.specs.Words.{word_of, punctuator_of}
use Rattle.aioc_tokens.specs.Tokens.{is_name_byte, Spells, IsBlank, IsLongestToken}
use Rattle.aioc_tokens.specs.Lexing.{Lexes, Breaks, bytes_of, IsLongestAt}
use Rattle.aioc_tokens.specs.Lexemes.{Lexeme, Name, Long, Number, Text, Reserved, Symbol, lexeme, lexemes, sort_of, all_sorts, AreKnown, value_of, HasLexemes, HasSpelling}
use Rattle.aioc_tokens.specs.Packed.{front_name, front_number, front_text, shown, all_shown, starts_of, ArePacked, IsSortedToken, HasNoToken, shown_by, IsSourceOf}
use Rattle.aioc_tokens.proofs.Runs.{name_longest, number_longest}
use Rattle.aioc_tokens.proofs.Quotes.{front_end}
use Rattle.aioc_tokens.proofs.Unique.{same_count}
use Rattle.aioc_tokens.proofs.Walk.{IsBefore, begun, over_blank, over_token, at_end, at_bad}
use Rattle.aioc_tokens.proofs.Order.{lexes_longest, lexes_few}
use Rattle.aioc_tokens.proofs.Looks.{token_at, sort_at, known_sort, sort_within, lexeme_past, name_shown, number_shown, text_shown}

-- a name begins with a letter, and a number with a digit
first_letter : (from : List ℕ) (count : ℕ) → Spells kinds.Name (take count from) → is_ascii_alphabetic (get_or from 0 0) ≡ true
first_letter [] zero spells = absurd spells
first_letter [] (suc count) spells = absurd spells
first_letter (first ∷ others) zero spells = absurd spells
first_letter (first ∷ others) (suc count) spells = spells.0

first_digit : (from : List ℕ) (count : ℕ) → Spells kinds.Number (take count from) → is_ascii_digit (get_or from 0 0) ≡ true
first_digit [] zero spells = absurd (omega (arith, spells.0))
first_digit [] (suc count) spells = absurd (omega (arith, spells.0))
first_digit (first ∷ others) zero spells = absurd (omega (arith, spells.0))
first_digit (first ∷ others) (suc count) spells = (and_parts (is_ascii_digit first) (list_all is_ascii_digit (take count others)) spells.1).0

-- what the bytes from a token on begin with is that token, since the longest token is one
name_front : (from : List ℕ) (count : ℕ) → IsLongestToken from kinds.Name count → front_name from ≡ take count from
name_front from count token =
    let run = name_longest from (first_letter from count token.front.spells) in
    ap (λ n. take n from) (same_count from kinds.Name kinds.Name (prefix_len is_name_byte from) count run token)

number_front : (from : List ℕ) (count : ℕ) → IsLongestToken from kinds.Number count → front_number from ≡ take count from
number_front from count token =
    let run = number_longest from (first_digit from count token.front.spells) in
    ap (λ n. take n from) (same_count from kinds.Number kinds.Number (prefix_len is_ascii_digit from) count run token)

pub text_front : (from : List ℕ) (count : ℕ) → IsLongestToken from kinds.Text count → front_text from ≡ take count from
text_front from count token =
    let (less, found, is) = front_end from count token.front in
    rw found (ap (λ n. take n from) (sym is))

-- The sort of a token and the bytes from its first one on show its lexeme.
shown_lexeme : (from : List ℕ) (kind : Kind) (count : ℕ) → IsLongestToken from kind count → shown (sort_of (lexeme kind (take count from) ∷ [])) from ≡ lexeme kind (take count from)
shown_lexeme from kinds.Name count token = go (word_of (take count from)) (nat_le (length (take count from)) most_name_bytes) (name_front from count token)
  where
    go : (reserved : Option Word) (short : Bool) → front_name from ≡ take count from
        → shown (sort_of (option_map_or Reserved reserved (cond short (Name (take count from)) Long) ∷ [])) from ≡ option_map_or Reserved reserved (cond short (Name (take count from)) Long)
    go (Some word) short same = refl
    go None true same = ap Name same
    go None false same = refl
shown_lexeme from kinds.Number count token = ap Number (number_front from count token)
shown_lexeme from kinds.Text count token = go (nat_le (length (value_of (take count from))) most_text_bytes) (text_front from count token)
  where
    go : (short : Bool) → front_text from ≡ take count from
        → shown (sort_of (cond short (Text (value_of (take count from))) Long ∷ [])) from ≡ cond short (Text (value_of (take count from))) Long
    go true same = ap (λ bytes. Text (value_of bytes)) same
    go false same = refl
shown_lexeme from kinds.Symbol count token = go (punctuator_of (take count from))
  where
    go : (punctuator : Option Punctuator) → shown (sort_of (option_map_or Symbol punctuator Long ∷ [])) from ≡ option_map_or Symbol punctuator Long
    go (Some punctuator) = refl
    go None = refl

-- so the sorts and places of all tokens show the lexemes of the text
shown_from : (text : List ℕ) (tokens : List Token) → All (IsLongestAt text) tokens → all_shown text (starts_of tokens) (all_sorts (lexemes text tokens)) ≡ lexemes text tokens
shown_from text [] all = refl
shown_from text (token ∷ tokens) all =
    ap₂ ◌∷◌ (shown_lexeme (drop token.start text) token.kind (token.end - token.start) (all 0 token (omega arith)))
    (shown_from text tokens (λ at other inside. all (suc at) other (omega arith)))

shown_packed : (text starts : List ℕ) (marks : List Sort) (packed : ArePacked text starts marks) → all_shown text starts marks ≡ lexemes text packed.tokens
shown_packed text starts marks packed =
    rw (packed.starts_are, packed.sorts_are) (shown_from text packed.tokens (lexes_longest text packed.tokens packed.lexes))

-- What the pass keeps: the tokens so far, of which the places and the sorts are kept.
pub record PacksBefore (text starts : List ℕ) (marks : List Sort) (at : ℕ) : Type 0 where
  pub tokens : List Token
  pub before : IsBefore text tokens at
  pub starts_are : starts ≡ starts_of tokens
  pub sorts_are : marks ≡ all_sorts (lexemes text tokens)

pub packs_begun : (text : List ℕ) → PacksBefore text [] [] 0
packs_begun text = record { tokens = []; before = begun text; starts_are = refl; sorts_are = refl }

module _ (text starts : List ℕ) (marks : List Sort) (at : ℕ) (packs : PacksBefore text starts marks at) where
  pub packs_blank : (count : ℕ) → IsBlank (drop at text) count → PacksBefore text starts marks (at + count)
  packs_blank count blank = record {
    tokens = packs.tokens;
    before = over_blank text packs.tokens at packs.before count blank;
    starts_are = packs.starts_are;
    sorts_are = packs.sorts_are;
  }

  -- one token more
  pub packs_token : (sort : Sort) (count : ℕ) → IsSortedToken (drop at text) sort count → PacksBefore text (starts ++ at ∷ []) (marks ++ sort ∷ []) (at + count)
  packs_token sort count sorted =
      let token : Token = record { kind = sorted.kind; start = at; end = at + count } in
      let shown = λ (token : Token). lexeme token.kind (bytes_of text token) in
      let size : at + count - at ≡ count = omega arith in
      record {
        tokens = packs.tokens ++ token ∷ [];
        before = over_token text packs.tokens at packs.before sorted.kind count sorted.token;
        starts_are = ap (λ starts. starts ++ at ∷ []) packs.starts_are ∙ sym (map-append (λ (token : Token). token.start) packs.tokens (token ∷ []));
        sorts_are = ap₂ (λ marks sort. marks ++ sort ∷ []) packs.sorts_are (sorted.sort_is ∙ ap (λ n. sort_of (lexeme sorted.kind (take n (drop at text)) ∷ [])) (sym size))
            ∙ sym (ap (map (λ (first : Lexeme). sort_of (first ∷ []))) (map-append shown packs.tokens (token ∷ [])) ∙ map-append (λ (first : Lexeme). sort_of (first ∷ [])) (map shown packs.tokens) (shown token ∷ []));
      }

  pub packs_end : length text ≤ at → ArePacked text starts marks
  packs_end past = record { tokens = packs.tokens; lexes = at_end text packs.tokens at packs.before past; starts_are = packs.starts_are; sorts_are = packs.sorts_are }

  pub packs_bad : at < length text → ((count : ℕ) → IsBlank (drop at text) count → ⊥) × HasNoToken (drop at text) → Breaks 0 text at
  packs_bad inside none = at_bad text packs.tokens at packs.before inside none.0 none.1

-- there are no more tokens than bytes
pub packs_few : (text starts : List ℕ) (marks : List Sort) → ArePacked text starts marks → length marks ≤ length text
packs_few text starts marks packed =
    let shown = λ (token : Token). lexeme token.kind (bytes_of text token) in
    omega (arith, ap length packed.sorts_are, length-map (lexemes text packed.tokens) (λ (first : Lexeme). sort_of (first ∷ [])), length-map packed.tokens shown, lexes_few 0 text packed.tokens packed.lexes)

drop_shown : (text starts : List ℕ) (marks : List Sort) (at : ℕ) → length starts ≡ length marks → at < length starts
    → drop at (all_shown text starts marks) ≡ shown (get_or marks at sorts.End) (drop (get_or starts at 0) text) ∷ drop (suc at) (all_shown text starts marks)
drop_shown text (start ∷ starts) (sort ∷ marks) zero same inside = refl
drop_shown text (start ∷ starts) (sort ∷ marks) (suc at) same inside = drop_shown text starts marks at (omega arith) (omega arith)
drop_shown text [] marks at same inside = absurd (omega arith)
drop_shown text (start ∷ starts) [] at same inside = absurd (omega arith)

start_at : (tokens : List Token) (at : ℕ) (other : Token) → at < length tokens → get_or (starts_of tokens) at 0 ≡ (get_or tokens at other).start
start_at [] at other inside = absurd (omega arith)
start_at (token ∷ tokens) zero other inside = refl
start_at (token ∷ tokens) (suc at) other inside = start_at tokens at other (omega arith)

same_first : {first other : Lexeme} {behind others : List Lexeme} → first ∷ behind ≡ other ∷ others → first ≡ other
same_first is = cc

-- the lexeme that stands first at a place, and can be written
pub record Stands (all : List Lexeme) (at : ℕ) (first : Lexeme) : Type 0 where
  pub value : drop at all ≡ first ∷ drop (at + 1) all
  pub valid : HasSpelling first

-- What a look at packed tokens shows, where the lexemes have another name.
module _ (text starts : List ℕ) (marks : List Sort) (packed : ArePacked text starts marks) where
  sorts_many : length marks ≡ length packed.tokens
  sorts_many =
      let shown = λ (token : Token). lexeme token.kind (bytes_of text token) in
      ap length packed.sorts_are ∙ length-map (lexemes text packed.tokens) (λ (first : Lexeme). sort_of (first ∷ [])) ∙ length-map packed.tokens shown

  starts_many : length starts ≡ length packed.tokens
  starts_many = ap length packed.starts_are ∙ length-map packed.tokens (λ (token : Token). token.start)

  module _ (all : List Lexeme) (view : all_shown text starts marks ≡ all) where
    whole : lexemes text packed.tokens ≡ all
    whole = sym (shown_packed text starts marks packed) ∙ view

    packed_len : length starts ≡ length all
    packed_len =
        let shown = λ (token : Token). lexeme token.kind (bytes_of text token) in
        starts_many ∙ sym (length-map packed.tokens shown) ∙ ap length whole

    module _ (at : ℕ) where
      packed_sort : get_or marks at sorts.End ≡ sort_of (drop at all)
      packed_sort = ap (λ marks. get_or marks at sorts.End) packed.sorts_are ∙ sort_at (lexemes text packed.tokens) at ∙ ap (λ all. sort_of (drop at all)) whole

      none : Token
      none = record { kind = kinds.Name; start = 0; end = 0 }

      module _ (inside : at < length starts) where
        among : at < length packed.tokens
        among = omega (arith, starts_many)

        start_is : get_or starts at 0 ≡ (get_or packed.tokens at none).start
        start_is = ap (λ starts. get_or starts at 0) packed.starts_are ∙ start_at packed.tokens at none among

        packed_start : get_or starts at 0 ≤ length text
        packed_start =
            let token = token_at text packed.tokens packed.lexes at none among in
            omega (arith, start_is, token.ordered, token.within)

        -- the lexeme of the sort there stands first, with the bytes from its first one on
        shown_at : (sort : Sort) → sort_of (drop at all) ≡ sort → drop at all ≡ shown sort (drop (get_or starts at 0) text) ∷ drop (at + 1) all
        shown_at sort is =
            let next : suc at ≡ at + 1 = omega arith in
            ap (drop at) (sym view)
            ∙ drop_shown text starts marks at (starts_many ∙ sym sorts_many) inside
            ∙ ap₂ (λ sort others. shown sort (drop (get_or starts at 0) text) ∷ others) (packed_sort ∙ is) (ap (drop (suc at)) view ∙ ap (λ n. drop n all) next)

        packed_name : sort_of (drop at all) ≡ sorts.Name → Stands all at (Name (front_name (drop (get_or starts at 0) text)))
        packed_name sort =
            let first = shown_at sorts.Name sort in
            let that = name_shown text packed.tokens packed.lexes at none all whole sort in
            record { value = first; valid = subst HasSpelling (same_first (sym that.first ∙ first)) that.formed }

        packed_number : sort_of (drop at all) ≡ sorts.Number → Stands all at (Number (front_number (drop (get_or starts at 0) text)))
        packed_number sort =
            let first = shown_at sorts.Number sort in
            let that = number_shown text packed.tokens packed.lexes at none all whole sort in
            record { value = first; valid = subst HasSpelling (same_first (sym that.first ∙ first)) that.formed }

        packed_text : sort_of (drop at all) ≡ sorts.Text → Stands all at (Text (value_of (front_text (drop (get_or starts at 0) text))))
        packed_text sort =
            let first = shown_at sorts.Text sort in
            let that = (text_shown text packed.tokens packed.lexes at none all whole sort).1 in
            record { value = first; valid = subst HasSpelling (same_first (sym that.first ∙ first)) that.formed }

        packed_quote : sort_of (drop at all) ≡ sorts.Text → (count : ℕ) × IsLongestToken (drop (get_or starts at 0) text) kinds.Text count
        packed_quote sort =
            let token = get_or packed.tokens at none in
            let kind = (text_shown text packed.tokens packed.lexes at none all whole sort).0 in
            let longest = lexes_longest text packed.tokens packed.lexes at none among in (
              token.end - token.start,
              subst (λ start. IsLongestToken (drop start text) kinds.Text (token.end - token.start)) (sym start_is)
                  (subst (λ kind. IsLongestToken (drop token.start text) kind (token.end - token.start)) kind longest),
            )

-- packed tokens are what a text's lexemes are shown by
pub packed_source : (text starts : List ℕ) (marks : List Sort) → ArePacked text starts marks → IsSourceOf text starts marks []
packed_source text (start ∷ starts) marks packed = (packed, refl)
packed_source text [] marks packed =
    let none : [] ≡ packed.tokens = no_tokens packed.tokens packed.starts_are in
    let lexes : Lexes 0 text [] = subst (Lexes 0 text) (sym none) packed.lexes in
    let marks_are : [] ≡ marks = ap (λ tokens. all_sorts (lexemes text tokens)) none ∙ sym packed.sorts_are in
    (lexes, subst (λ marks. AreKnown marks (lexemes text [])) marks_are refl)
  where
    no_tokens : (tokens : List Token) → [] ≡ starts_of tokens → [] ≡ tokens
    no_tokens [] is = refl
    no_tokens (token ∷ tokens) is = absurd cc

pub packed_view : (text starts : List ℕ) (marks : List Sort) → ArePacked text starts marks → HasLexemes text (shown_by text starts marks [])
packed_view text (start ∷ starts) marks packed =
    record { tokens = packed.tokens; lexes = packed.lexes; lexemes_are = sym (shown_packed text (start ∷ starts) marks packed) }
packed_view text [] marks packed = record { tokens = []; lexes = (packed_source text [] marks packed).0; lexemes_are = refl }

-- the same where what is kept has other names
module _ (text starts others : List ℕ) (marks more : List Sort) (tokens : List Token) (packed : ArePacked text others more) where
  pub packed_named : starts ≡ others → marks ≡ more → tokens ≡ [] → IsSourceOf text starts marks tokens × HasLexemes text (shown_by text starts marks tokens)
  packed_named starts_are marks_are none =
      subst (λ starts. IsSourceOf text starts marks tokens × HasLexemes text (shown_by text starts marks tokens)) (sym starts_are)
      (subst (λ marks. IsSourceOf text others marks tokens × HasLexemes text (shown_by text others marks tokens)) (sym marks_are)
      (subst (λ tokens. IsSourceOf text others more tokens × HasLexemes text (shown_by text others more tokens)) (sym none)
      (packed_source text others more packed, packed_view text others more packed)))

-- a text has no more lexemes than bytes
pub few_lexemes : (text : List ℕ) (found : List Lexeme) → HasLexemes text found → length found ≤ length text
few_lexemes text found has =
    let shown = λ (token : Token). lexeme token.kind (bytes_of text token) in
    omega (arith, ap length has.lexemes_are, length-map has.tokens shown, lexes_few 0 text has.tokens has.lexes)

-- What a look at a place shows, by what is kept of the tokens.
module _ (text : List ℕ) (tokens : List Token) (all : List Lexeme) (at : ℕ) where
  pub many_shown : (starts : List ℕ) (marks : List Sort) → IsSourceOf text starts marks tokens → shown_by text starts marks tokens ≡ all → max (length starts) (length tokens) ≡ length all
  many_shown [] marks source view = omega (arith, length-map tokens (λ (token : Token). lexeme token.kind (bytes_of text token)), ap length view)
  many_shown (start ∷ starts) marks source view = omega (arith, packed_len text (start ∷ starts) marks source.0 all view, ap length source.1)

  -- past the last one there is none
  sort_past : length all ≤ at → sort_of (drop at all) ≡ sorts.End
  sort_past past = ap sort_of (drop_all at all past)

  pub known_shown : (starts : List ℕ) (marks : List Sort) → IsSourceOf text starts marks tokens → shown_by text starts marks tokens ≡ all → at < length marks → get_or marks at sorts.End ≡ sort_of (drop at all)
  known_shown [] marks source view inside = known_sort marks (lexemes text tokens) at source.1 inside ∙ ap (λ all. sort_of (drop at all)) view
  known_shown (start ∷ starts) marks source view inside = packed_sort text (start ∷ starts) marks source.0 all view at

  pub unknown_shown : (starts : List ℕ) (marks : List Sort) → IsSourceOf text starts marks tokens → shown_by text starts marks tokens ≡ all → length marks ≤ at → sort_of (drop at (lexemes text tokens)) ≡ sort_of (drop at all)
  unknown_shown [] marks source view past = ap (λ all. sort_of (drop at all)) view
  unknown_shown (start ∷ starts) marks source view past =
      let many = packed_len text (start ∷ starts) marks source.0 all view in
      let same = sorts_many text (start ∷ starts) marks source.0 in
      let here = starts_many text (start ∷ starts) marks source.0 in
      ap sort_of (lexeme_past text tokens at (omega (arith, ap length source.1))) ∙ sym (sort_past (omega (arith, many, same, here)))

  pub lexes_within : (starts : List ℕ) (marks : List Sort) → IsSourceOf text starts marks tokens → at < length tokens → Lexes 0 text tokens
  lexes_within [] marks source inside = source.0
  lexes_within (start ∷ starts) marks source inside = absurd (omega (arith, ap length source.1))

  module _ (sort : Sort) (is : sort_of (drop at all) ≡ sort) (some : sort ≢ sorts.End) where
    pub lexes_shown : (starts : List ℕ) (marks : List Sort) → IsSourceOf text starts marks tokens → shown_by text starts marks tokens ≡ all → length starts ≤ at → Lexes 0 text tokens × (lexemes text tokens ≡ all)
    lexes_shown [] marks source view past = (source.0, view)
    lexes_shown (start ∷ starts) marks source view past =
        let inside = sort_within all at (λ end. some (sym is ∙ end)) in
        absurd (omega (arith, packed_len text (start ∷ starts) marks source.0 all view))

-- What a packed token shows.
module _ (text : List ℕ) (tokens : List Token) (all : List Lexeme) (at : ℕ) where
  pub start_shown : (starts : List ℕ) (marks : List Sort) → IsSourceOf text starts marks tokens → shown_by text starts marks tokens ≡ all → at < length starts → get_or starts at 0 ≤ length text
  start_shown [] marks source view inside = absurd (omega arith)
  start_shown (start ∷ starts) marks source view inside = packed_start text (start ∷ starts) marks source.0 all view at inside

  pub name_packed : (starts : List ℕ) (marks : List Sort) → IsSourceOf text starts marks tokens → shown_by text starts marks tokens ≡ all → at < length starts → sort_of (drop at all) ≡ sorts.Name
      → Stands all at (Name (front_name (drop (get_or starts at 0) text)))
  name_packed [] marks source view inside sort = absurd (omega arith)
  name_packed (start ∷ starts) marks source view inside sort = packed_name text (start ∷ starts) marks source.0 all view at inside sort

  pub number_packed : (starts : List ℕ) (marks : List Sort) → IsSourceOf text starts marks tokens → shown_by text starts marks tokens ≡ all → at < length starts → sort_of (drop at all) ≡ sorts.Number
      → Stands all at (Number (front_number (drop (get_or starts at 0) text)))
  number_packed [] marks source view inside sort = absurd (omega arith)
  number_packed (start ∷ starts) marks source view inside sort = packed_number text (start ∷ starts) marks source.0 all view at inside sort

  pub text_packed : (starts : List ℕ) (marks : List Sort) → IsSourceOf text starts marks tokens → shown_by text starts marks tokens ≡ all → at < length starts → sort_of (drop at all) ≡ sorts.Text
      → Stands all at (Text (value_of (front_text (drop (get_or starts at 0) text))))
  text_packed [] marks source view inside sort = absurd (omega arith)
  text_packed (start ∷ starts) marks source view inside sort = packed_text text (start ∷ starts) marks source.0 all view at inside sort

  pub quote_packed : (starts : List ℕ) (marks : List Sort) → IsSourceOf text starts marks tokens → shown_by text starts marks tokens ≡ all → at < length starts → sort_of (drop at all) ≡ sorts.Text
      → (count : ℕ) × IsLongestToken (drop (get_or starts at 0) text) kinds.Text count
  quote_packed [] marks source view inside sort = absurd (omega arith)
  quote_packed (start ∷ starts) marks source view inside sort = packed_quote text (start ∷ starts) marks source.0 all view at inside sort
