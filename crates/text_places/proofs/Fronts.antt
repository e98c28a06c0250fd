-- The front of a text up to a token, with another token behind it on a line of its own.
use Rattle.std.proofs.Common.{◌≡◌, ℕ, zero, suc, ◌+◌, ◌-◌, ◌<◌, ◌≤◌, ◌==◌, ◌⊎◌, inl, inr, Bool, true, false, not, ◌&&◌, cond, List, [], ◌∷◌, ◌++◌, length, get_or, take, drop, map, Some, None, refl, ap, sym, ◌∙◌, subst, arith, length-append, length-drop, drop-drop, append_assoc, append-nil, take_at, drop_at, flat_map, zero-add, add-zero, one-add, codes, slice_range, drop_of_length-le}
use Rattle.std.specs.Prelude.{slice_get}
use Rattle.std.specs.Option.{option_map_or}
use Rattle.std.specs.List.{list_all, prefix_len}
use Rattle.std.specs.Char.{is_ascii_digit}
use Rattle.std.proofs.lemmas.Bool.{both_ways, and_from, cases_order}
use Rattle.std.proofs.lemmas.Bool.Decides.{nat_tests}
use Rattle.std.proofs.lemmas.List.{take-append-drop, take-append-le, take-take, drop-take, take-map, map-append, length-take-le, get_or-take}
use Rattle.std.proofs.lemmas.List.Folds.{list_all-append, list_all_at}
use Rattle.std.proofs.Math.Seq.{get_or-append_seam}
use Rattle.aioc_tokens.specs.declared.kinds.Kind.{Kind}
use Rattle.aioc_tokens.specs.declared.kinds.Kind.TheVariants as kinds
use Rattle.aioc_tokens.specs.declared.kinds.Token.{Token}
use Rattle.aioc_tokens.specs.declared.words.Punctuator.{Punctuator}
use Rattle.aioc_tokens.specs.declared.words.Punctuator.TheVariants.{LeftBrace, RightBrace}
use Rattle.aioc_tokens.specs.Words.{punctuator_spelling}
use Rattle.aioc_tokens.specs.Tokens.{is_name_byte, is_printable, needs_pair, escaped, quoted, line_length, Spells, IsBlank, space, comment, IsFront, IsLongestToken, BeginsComment}
use Rattle.aioc_tokens.specs.Lexing.{Lexes, ended, blank_first, token_first, bytes_of, place_of}
use Rattle.aioc_tokens.specs.Lexemes.{Lexeme, lexeme, lexemes, HasLexemes, HasSpelling}
use Rattle.aioc_tokens.specs.Spelling.{spelling}
use Rattle.aioc_tokens.proofs.Blanks.{blank_size}
use Rattle.aioc_tokens.proofs.Walk.{token_size}
use Rattle.aioc_tokens.proofs.Runs.{name_bytes}
use Rattle.aioc_tokens.proofs.Written.{IsRead, nothing_read, space_read, lexeme_read, space_ends}

abbrev no_feed : ℕ → Bool
no_feed byte = not (byte == 10)

-- ---- no token has a line feed

all_pass : (passes others : ℕ → Bool) → ((byte : ℕ) → passes byte ≡ true → others byte ≡ true) → (bytes : List ℕ) → list_all passes bytes ≡ true → list_all others bytes ≡ true
all_pass passes others so [] all = refl
all_pass passes others so (byte ∷ bytes) all = go (passes byte) refl all (all_pass passes others so bytes)
  where
    go : (pass : Bool) → passes byte ≡ pass → (pass && list_all passes bytes) ≡ true → (list_all passes bytes ≡ true → list_all others bytes ≡ true) → (others byte && list_all others bytes) ≡ true
    go true is rest then = and_from _ _ (so byte is) (then rest)
    go false is rest then = absurd cc

name_byte_feeds_not : (byte : ℕ) → is_name_byte byte ≡ true → no_feed byte ≡ true
name_byte_feeds_not byte is = grind (arith, nat_tests)

digit_feeds_not : (byte : ℕ) → is_ascii_digit byte ≡ true → no_feed byte ≡ true
digit_feeds_not byte is = grind (arith, nat_tests)

printable_feeds_not : (byte : ℕ) → is_printable byte ≡ true → no_feed byte ≡ true
printable_feeds_not byte is = grind (arith, nat_tests)

escaped_feeds_not : (value : List ℕ) → list_all no_feed value ≡ true → list_all no_feed (flat_map escaped value) ≡ true
escaped_feeds_not [] all = refl
escaped_feeds_not (byte ∷ value) all = go (no_feed byte) (needs_pair byte) refl all (escaped_feeds_not value)
  where
    go : (pass pair : Bool) → no_feed byte ≡ pass → (pass && list_all no_feed value) ≡ true → (list_all no_feed value ≡ true → list_all no_feed (flat_map escaped value) ≡ true)
        → list_all no_feed (cond pair (92 ∷ byte ∷ []) (byte ∷ []) ++ flat_map escaped value) ≡ true
    go true true is rest then = and_from _ _ is (then rest)
    go true false is rest then = and_from _ _ is (then rest)
    go false _ is rest then = absurd cc

symbol_feeds_not : (punctuator : Punctuator) → list_all no_feed (punctuator_spelling punctuator) ≡ true
symbol_feeds_not LeftBrace = refl
symbol_feeds_not RightBrace = refl
symbol_feeds_not _ = refl

token_feeds_not : (kind : Kind) (bytes : List ℕ) → Spells kind bytes → list_all no_feed bytes ≡ true
token_feeds_not kinds.Name bytes spells = all_pass is_name_byte no_feed name_byte_feeds_not bytes (name_bytes bytes spells)
token_feeds_not kinds.Number bytes spells = all_pass is_ascii_digit no_feed digit_feeds_not bytes spells.1
token_feeds_not kinds.Text bytes spells =
    let inside = flat_map escaped spells.0 in
    let all = escaped_feeds_not spells.0 (all_pass is_printable no_feed printable_feeds_not spells.0 spells.1) in
    ap (list_all no_feed) spells.2 ∙ (list_all-append no_feed inside (34 ∷ []) ∙ and_from _ _ all refl)
token_feeds_not kinds.Symbol bytes spells = ap (list_all no_feed) spells.1 ∙ symbol_feeds_not spells.0

-- ---- what stands at a front stays with a line feed behind the front

line_kept : (front back tail : List ℕ) → line_length (front ++ back) ≤ length front → line_length (front ++ 10 ∷ tail) ≡ line_length (front ++ back)
line_kept [] back tail within = omega arith
line_kept (byte ∷ front) back tail within = go (no_feed byte) within (line_kept front back tail)
  where
    go : (pass : Bool) → cond pass (1 + line_length (front ++ back)) 0 ≤ suc (length front) → (line_length (front ++ back) ≤ length front → line_length (front ++ 10 ∷ tail) ≡ line_length (front ++ back))
        → cond pass (1 + line_length (front ++ 10 ∷ tail)) 0 ≡ cond pass (1 + line_length (front ++ back)) 0
    go true within then = ap (λ n. 1 + n) (then (omega arith))
    go false within then = refl

comment_long : (text : List ℕ) → BeginsComment text → 2 ≤ line_length text
comment_long [] begins = absurd cc
comment_long (first ∷ []) begins = absurd cc
comment_long (first ∷ second ∷ text) begins =
    let one : first ≡ 47 = ap (λ word. get_or word 0 0) begins in
    let two : second ≡ 47 = ap (λ word. get_or word 1 0) begins in
    rw (one, two) (omega arith)

same_take : (count : ℕ) (front back others : List ℕ) → count ≤ length front → take count (front ++ others) ≡ take count (front ++ back)
same_take count front back others within = take-append-le count front others within ∙ sym (take-append-le count front back within)

blank_kept : (front back tail : List ℕ) (count : ℕ) → count ≤ length front → IsBlank (front ++ back) count → IsBlank (front ++ 10 ∷ tail) count
blank_kept [] back tail count within blank = let size = blank_size back count blank in absurd (omega (arith, size.0))
blank_kept (byte ∷ front) back tail count within (space is) = space is
blank_kept (byte ∷ front) back tail count within (comment begins is) =
    let long = comment_long (byte ∷ front ++ back) begins in
    comment (same_take 2 (byte ∷ front) back (10 ∷ tail) (omega arith) ∙ begins) (is ∙ sym (line_kept (byte ∷ front) back tail (omega arith)))

-- the byte behind the front is in no token
beyond : (front tail : List ℕ) (kind : Kind) (more : ℕ) → length front < more → IsFront (front ++ 10 ∷ tail) kind more → ⊥
beyond front tail kind more past that =
    let bytes = take more (front ++ 10 ∷ tail) in
    let feed : get_or bytes (length front) 0 ≡ 10 = get_or-take more (front ++ 10 ∷ tail) (length front) 0 past ∙ get_or-append_seam front 10 tail 0 in
    let inside : length front < length bytes = omega (arith, length-take-le more (front ++ 10 ∷ tail) that.within) in
    both_ways _ (list_all_at no_feed bytes (length front) 0 inside (ap no_feed feed)) (token_feeds_not kind bytes that.spells)

token_kept : (front back tail : List ℕ) (kind : Kind) (count : ℕ) → count ≤ length front → IsLongestToken (front ++ back) kind count → IsLongestToken (front ++ 10 ∷ tail) kind count
token_kept front back tail kind count within token = record {
  front = record {
    within = omega (arith, length-append front (10 ∷ tail));
    spells = subst (Spells kind) (sym (same_take count front back (10 ∷ tail) within)) token.front.spells;
  };
  longest = λ other more that. longest other more that (cases_order more (length front));
  no_comment = λ begins. no_comment begins (cases_order 2 (length front));
}
  where
    near_front : (other : Kind) (more : ℕ) → IsFront (front ++ 10 ∷ tail) other more → more ≤ length front → more ≤ count
    near_front other more that near = token.longest other more (record {
      within = omega (arith, length-append front back);
      spells = subst (Spells other) (same_take more front back (10 ∷ tail) near) that.spells;
    })

    longest : (other : Kind) (more : ℕ) → IsFront (front ++ 10 ∷ tail) other more → ((more ≡ length front) ⊎ ((more < length front) ⊎ (length front < more))) → more ≤ count
    longest other more that (inl same) = near_front other more that (omega arith)
    longest other more that (inr (inl near)) = near_front other more that (omega arith)
    longest other more that (inr (inr far)) = absurd (beyond front tail other more far that)

    no_comment_near : BeginsComment (front ++ 10 ∷ tail) → 2 ≤ length front → ⊥
    no_comment_near begins near = token.no_comment (sym (same_take 2 front back (10 ∷ tail) near) ∙ begins)

    no_comment : BeginsComment (front ++ 10 ∷ tail) → ((2 ≡ length front) ⊎ ((2 < length front) ⊎ (length front < 2))) → ⊥
    no_comment begins (inl same) = no_comment_near begins (omega arith)
    no_comment begins (inr (inl near)) = no_comment_near begins (omega arith)
    no_comment begins (inr (inr far)) =
        let size = token_size (front ++ back) kind count token in
        let one : length front ≡ 1 = omega (arith, size.0) in
        let second : get_or (front ++ 10 ∷ tail) 1 0 ≡ 10 = ap (λ at. get_or (front ++ 10 ∷ tail) at 0) (sym one) ∙ get_or-append_seam front 10 tail 0 in
        let slash : get_or (front ++ 10 ∷ tail) 1 0 ≡ 47 = sym (get_or-take 2 (front ++ 10 ∷ tail) 1 0 (omega arith)) ∙ ap (λ word. get_or word 1 0) begins in
        omega arith

-- ---- the front up to a token

-- two texts with the same front have the same bytes in it
slice_same : (whole other : List ℕ) (most start end : ℕ) → start ≤ end → end ≤ most → take most whole ≡ take most other → slice_range whole start end ≡ slice_range other start end
slice_same whole other most start end ordered within same =
    cut whole ∙ (ap (λ front. drop start (take end front)) same ∙ sym (cut other))
  where
    cut : (text : List ℕ) → slice_range text start end ≡ drop start (take end (take most text))
    cut text =
        let joined : start + (end - start) ≡ end = omega arith in
        sym (drop-take start (end - start) text) ∙ (ap (λ count. drop start (take count text)) joined ∙ ap (drop start) (sym (take-take end most text within)))

-- where the token at a place begins, in a text that begins at `at`
abbrev start_of : ℕ → List ℕ → List Token → ℕ → ℕ
start_of at text tokens k = option_map_or (λ (token : Token). token.start) (slice_get tokens k) (at + length text)

-- The text up to the token at a place of the list: behind a line feed, other tokens may follow.
record Front (at : ℕ) (text : List ℕ) (tokens : List Token) (k : ℕ) : Type 0 where
  front : List ℕ
  back : List ℕ
  split : text ≡ front ++ back
  place : start_of at text tokens k ≡ at + length front
  kept : (tail : List ℕ) (more : List Token) → Lexes (at + length front) (10 ∷ tail) more → Lexes at (front ++ 10 ∷ tail) (take k tokens ++ more)
  same : (whole other : List ℕ) → take (at + length front) whole ≡ take (at + length front) other → lexemes whole (take k tokens) ≡ lexemes other (take k tokens)

nothing_before : (at : ℕ) (text : List ℕ) (tokens : List Token) (k : ℕ) → start_of at text tokens k ≡ at → take k tokens ≡ [] → Front at text tokens k
nothing_before at text tokens k place none = record {
  front = [];
  back = text;
  split = refl;
  place = omega arith;
  kept = λ tail more lexes. subst (λ tokens. Lexes at (10 ∷ tail) (tokens ++ more)) (sym none) (subst (λ at. Lexes at (10 ∷ tail) more) (add-zero at) lexes);
  same = λ whole other same. subst (λ tokens. lexemes whole tokens ≡ lexemes other tokens) (sym none) refl;
}

module _ (at count : ℕ) (text : List ℕ) (within : count ≤ length text) where
  whole_split : (front back : List ℕ) → drop count text ≡ front ++ back → text ≡ (take count text ++ front) ++ back
  whole_split front back split = sym (take-append-drop count text) ∙ (ap (λ rest. take count text ++ rest) split ∙ sym (append_assoc (take count text) front back))

  longer : (front : List ℕ) → at + length (take count text ++ front) ≡ at + count + length front
  longer front = omega (arith, length-append (take count text) front, length-take-le count text within)

  reaches : (front : List ℕ) → count ≤ length (take count text ++ front)
  reaches front = omega (arith, length-append (take count text) front, length-take-le count text within)

  left_over : (front tail : List ℕ) → drop count ((take count text ++ front) ++ 10 ∷ tail) ≡ front ++ 10 ∷ tail
  left_over front tail = ap (drop count) (append_assoc (take count text) front (10 ∷ tail)) ∙ drop_at (take count text) (front ++ 10 ∷ tail) count (length-take-le count text within)

  same_end : at + count + length (drop count text) ≡ at + length text
  same_end = omega (arith, length-drop count text)

front_of : (at : ℕ) (text : List ℕ) (tokens : List Token) → Lexes at text tokens → (k : ℕ) → Front at text tokens k
front_of at text tokens ended zero = nothing_before at [] [] zero (add-zero at) refl
front_of at text tokens ended (suc k) = nothing_before at [] [] (suc k) (add-zero at) refl
front_of at text tokens (blank_first {count = count} blank rest) k =
    let within = (blank_size text count blank).1 in
    let inner = front_of (at + count) (drop count text) tokens rest k in
    let front = take count text ++ inner.front in
    let split = whole_split at count text within inner.front inner.back inner.split in
    record {
      front = front;
      back = inner.back;
      split = split;
      place = ap (λ end. option_map_or (λ (token : Token). token.start) (slice_get tokens k) end) (sym (same_end at count text within)) ∙ (inner.place ∙ sym (longer at count text within inner.front));
      kept = λ tail more lexes.
          blank_first (blank_kept front inner.back tail count (reaches at count text within inner.front) (subst (λ text. IsBlank text count) split blank))
          (subst (λ left. Lexes (at + count) left (take k tokens ++ more)) (sym (left_over at count text within inner.front tail))
          (inner.kept tail more (subst (λ at. Lexes at (10 ∷ tail) more) (longer at count text within inner.front) lexes)));
      same = λ whole other same. inner.same whole other (subst (λ most. take most whole ≡ take most other) (longer at count text within inner.front) same);
    }
front_of at text tokens (token_first {count = count} {kind = kind} {tokens = others} token rest) zero = nothing_before at text (record { kind = kind; start = at; end = at + count } ∷ others) zero refl refl
front_of at text tokens (token_first {count = count} {kind = kind} {tokens = others} token rest) (suc k) =
    let within = (token_size text kind count token).1 in
    let inner = front_of (at + count) (drop count text) others rest k in
    let front = take count text ++ inner.front in
    let split = whole_split at count text within inner.front inner.back inner.split in
    record {
      front = front;
      back = inner.back;
      split = split;
      place = ap (λ end. option_map_or (λ (token : Token). token.start) (slice_get others k) end) (sym (same_end at count text within)) ∙ (inner.place ∙ sym (longer at count text within inner.front));
      kept = λ tail more lexes.
          token_first (token_kept front inner.back tail kind count (reaches at count text within inner.front) (subst (λ text. IsLongestToken text kind count) split token))
          (subst (λ left. Lexes (at + count) left (take k others ++ more)) (sym (left_over at count text within inner.front tail))
          (inner.kept tail more (subst (λ at. Lexes at (10 ∷ tail) more) (longer at count text within inner.front) lexes)));
      same = λ whole other same.
          let first = ap (lexeme kind) (slice_same whole other (at + length front) at (at + count) (omega arith) (omega (arith, longer at count text within inner.front)) same) in
          let later = inner.same whole other (subst (λ most. take most whole ≡ take most other) (longer at count text within inner.front) same) in
          λ i. first i ∷ later i;
    }

-- The front of a text with a line feed behind it is read as the lexemes of the front, and what is read behind the line feed.
tail_read : (text : List ℕ) (tokens : List Token) (at : ℕ) (tail : List ℕ) (more : List Lexeme) → Lexes 0 text tokens
    → ((whole : List ℕ) (size : ℕ) → drop size whole ≡ 10 ∷ tail → IsRead whole size (10 ∷ tail) more)
    → HasLexemes (take (place_of text tokens at) text ++ 10 ∷ tail) (take at (lexemes text tokens) ++ more)
tail_read text tokens at tail more lexes reads =
    let cut = front_of 0 text tokens lexes at in
    let front = cut.front in
    let whole = front ++ 10 ∷ tail in
    let size = length front in
    let place : place_of text tokens at ≡ size = ap (λ end. option_map_or (λ (token : Token). token.start) (slice_get tokens at) end) (sym (zero-add (length text))) ∙ (cut.place ∙ zero-add size) in
    let front_is : take size text ≡ front = ap (take size) cut.split ∙ take_at front cut.back size refl in
    let read = reads whole size (drop_at front (10 ∷ tail) size refl) in
    let kept = cut.kept tail read.tokens (subst (λ at. Lexes at (10 ∷ tail) read.tokens) (sym (zero-add size)) read.lexes) in
    let fronts : take size whole ≡ take size text = take_at front (10 ∷ tail) size refl ∙ sym front_is in
    let same = cut.same whole text (subst (λ most. take most whole ≡ take most text) (sym (zero-add size)) fronts) in
    let shown = λ (text : List ℕ) (token : Token). lexeme token.kind (bytes_of text token) in
    let found : HasLexemes whole (take at (lexemes text tokens) ++ more) = record {
      tokens = take at tokens ++ read.tokens;
      lexes = kept;
      lexemes_are = map-append (shown whole) (take at tokens) read.tokens ∙ (λ i. (same ∙ sym (take-map (shown text) at tokens)) i ++ read.lexemes_are i);
    } in
    subst (λ bytes. HasLexemes (bytes ++ 10 ∷ tail) (take at (lexemes text tokens) ++ more)) (sym (ap (λ size. take size text) place ∙ front_is)) found

-- a lexeme on a line of its own is read
pub front_read : (text : List ℕ) (tokens : List Token) (at : ℕ) (last : Lexeme) → Lexes 0 text tokens → HasSpelling last
    → HasLexemes (take (place_of text tokens at) text ++ 10 ∷ spelling last) (take at (lexemes text tokens) ++ last ∷ [])
front_read text tokens at last lexes formed = tail_read text tokens at (spelling last) (last ∷ []) lexes (λ whole size left.
    let further : drop (size + 1) whole ≡ spelling last ++ [] = sym (drop-drop 1 size whole) ∙ (ap (drop 1) left ∙ sym (append-nil (spelling last))) in
    let over : drop (size + 1 + length (spelling last)) whole ≡ [] = sym (drop-drop (length (spelling last)) (size + 1) whole) ∙ (ap (drop (length (spelling last))) further ∙ drop_at (spelling last) [] (length (spelling last)) refl) in
    let word = lexeme_read whole (size + 1) last [] [] formed (space_ends last [] tt) further (nothing_read whole (size + 1 + length (spelling last)) over) in
    space_read whole size 10 (spelling last) (last ∷ []) refl left (subst (λ text. IsRead whole (size + 1) text (last ∷ [])) (append-nil (spelling last)) word))

-- and nothing is
pub front_alone : (text : List ℕ) (tokens : List Token) (at : ℕ) → Lexes 0 text tokens → HasLexemes (take (place_of text tokens at) text ++ 10 ∷ []) (take at (lexemes text tokens))
front_alone text tokens at lexes =
    subst (HasLexemes (take (place_of text tokens at) text ++ 10 ∷ [])) (append-nil (take at (lexemes text tokens)))
    (tail_read text tokens at [] [] lexes (λ whole size left.
    space_read whole size 10 [] [] refl left (nothing_read whole (size + 1) (sym (drop-drop 1 size whole) ∙ ap (drop 1) left))))
