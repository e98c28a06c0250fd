-- Cutting a text into parts: whatever is left completes what was found.
use Rattle.std.proofs.Common.{◌≡◌, ℕ, suc, ◌+◌, ◌-◌, ◌<◌, ◌≤◌, ◌==◌, cond, not, Bool, true, false, List, [], ◌∷◌, ◌++◌, length, get_or, take, drop, Option, Some, None, option_map, slice_get, refl, ap, sym, ◌∙◌, subst, arith, one-add, append_assoc, append-nil, length-drop, drop-drop, drop_of_length-le, codes}
use Rattle.std.specs.List.{All, list_all, prefix_len}
use Rattle.std.proofs.lemmas.Bool.{and_from}
use Rattle.std.proofs.lemmas.List.{drop_more, map-append}
use Rattle.std.proofs.lemmas.List.Elements.{All-nil, All-cons, All-append}
use Rattle.std.proofs.lemmas.Option.{slice_get_within, get_or_from_slice_get, slice_get-get_or, slice_get-map}
use Rattle.aioc_tokens.specs.declared.kinds.Kind.{Kind}
use Rattle.aioc_tokens.specs.declared.kinds.Token.{Token}
use Rattle.aioc_tokens.specs.declared.words.Sort.{Sort}
use Rattle.aioc_tokens.specs.declared.words.Sort.TheVariants as sorts
use Rattle.aioc_tokens.specs.Packed.{starts_of, ArePacked}
use Rattle.aioc_tokens.specs.Tokens.{IsBlank, space, comment, IsLongestToken, BeginsComment, line_length}
use Rattle.aioc_tokens.specs.Lexing.{Lexes, ended, blank_first, token_first, InOrder}
use Rattle.aioc_tokens.proofs.Blanks.{same_blank, blank_size}
use Rattle.aioc_tokens.proofs.Walk.{token_size}
use Rattle.aioc_tokens.proofs.Order.{lexes_in_order}
use Rattle.aioc_tokens.proofs.Unique.{same_count}
use Rattle.bundle_layout.specs.declared.parts.PartKind.{PartKind}
use Rattle.bundle_layout.specs.declared.parts.PartKind.TheVariants as kinds
use Rattle.bundle_layout.specs.declared.parts.Part.{Part}
use Rattle.bundle_layout.specs.Pieces.{Piece, IsFirst, HasPieces, no_piece, piece_first, space_first}
use Rattle.bundle_layout.specs.Parts.{bytes_of, pieces_of, IsSpelled, LiesIn}

-- each byte of the run passes
run_passes : (passes : ℕ → Bool) (text : List ℕ) → list_all passes (take (prefix_len passes text) text) ≡ true
run_passes passes [] = refl
run_passes passes (byte ∷ others) = go (passes byte) refl (run_passes passes others)
  where
    go : (pass : Bool) → passes byte ≡ pass → list_all passes (take (prefix_len passes others) others) ≡ true
        → list_all passes (take (cond pass (1 + prefix_len passes others) 0) (byte ∷ others)) ≡ true
    go true is rest = rw one-add (and_from _ _ is rest)
    go false is rest = refl

two_slashes : (count : ℕ) (others : List ℕ) → take 2 (take (1 + (1 + count)) (47 ∷ 47 ∷ others)) ≡ codes "//"
two_slashes count others = let same : 1 + (1 + count) ≡ suc (suc count) = omega arith in rw same refl

-- a comment up to the end of its line
begins_alone : (text : List ℕ) → BeginsComment text → BeginsComment (take (line_length text) text)
begins_alone [] begins = absurd cc
begins_alone (first ∷ []) begins = absurd cc
begins_alone (first ∷ second ∷ others) begins =
    let one : first ≡ 47 = cc in
    let two : second ≡ 47 = cc in
    rw (one, two) (two_slashes (line_length others) others)

first_spelled : (kind : PartKind) (text : List ℕ) (count : ℕ) → IsFirst kind text count → IsSpelled kind (take count text)
first_spelled (kinds.Token kind) text count first = first.front.spells
first_spelled kinds.Comment text count first =
    subst (λ count. IsSpelled kinds.Comment (take count text)) (sym first.1) (begins_alone text first.0, run_passes (λ byte. not (byte == 10)) text)

first_size : (kind : PartKind) (text : List ℕ) (count : ℕ) → IsFirst kind text count → (0 < count) × (count ≤ length text)
first_size (kinds.Token kind) text count first = token_size text kind count first
first_size kinds.Comment text count first = blank_size text count (comment first.0 first.1)

-- the parts so far, where the tokens from the next one on are those of what is left
pub record IsCut (text : List ℕ) (tokens : List Token) (next : ℕ) (parts : List Part) (at : ℕ) : Type 0 where
  pub within : at ≤ length text
  pub lexes : Lexes at (drop at text) (drop next tokens)
  pub pieces : (more : List Piece) → HasPieces (drop at text) more → HasPieces text (pieces_of text parts ++ more)
  pub lie : All (LiesIn text) parts

pub cut_begun : (text : List ℕ) (tokens : List Token) → Lexes 0 text tokens → IsCut text tokens 0 [] 0
cut_begun text tokens lexes = record { within = omega arith; lexes = lexes; pieces = λ more has. has; lie = All-nil (LiesIn text) }

-- what a token that begins here says of what is left
record IsHere (at : ℕ) (text : List ℕ) (token : Token) (others : List Token) : Type 0 where
  after : at < token.end
  longest : IsLongestToken text token.kind (token.end - at)
  rest : Lexes token.end (drop (token.end - at) text) others

here : (at : ℕ) (text : List ℕ) (tokens : List Token) (token : Token) (others : List Token) → Lexes at text tokens → tokens ≡ token ∷ others → token.start ≡ at → IsHere at text token others
here at text tokens token others ended same begins = absurd cc
here at text tokens token others (blank_first {count = count} blank rest) same begins =
    let order = subst (λ tokens. (to : ℕ) × InOrder (at + count) to tokens) same (at + count + length (drop count text), lexes_in_order (at + count) (drop count text) tokens rest) in
    absurd (omega (arith, order.1.0, (blank_size text count blank).0))
here at text tokens token others (token_first {count = count} {kind = kind} {tokens = left} longest rest) same begins =
    let first : Token = record { kind = kind; start = at; end = at + count } in
    let is : first ≡ token = cc in
    let left_is : left ≡ others = cc in
    let size = (token_size text kind count longest).0 in
    let far : at + count - at ≡ count = omega arith in
    let shown : IsHere at text first left = record {
      after = omega (arith, size);
      longest = subst (IsLongestToken text kind) (sym far) longest;
      rest = subst (λ count. Lexes (first.end) (drop count text) left) (sym far) rest;
    } in
    subst (λ token. IsHere at text token others) is (subst (IsHere at text first) left_is shown)

-- where no token begins a space or a comment does
record IsBlankHere (at : ℕ) (text : List ℕ) (tokens : List Token) : Type 0 where
  count : ℕ
  blank : IsBlank text count
  rest : Lexes (at + count) (drop count text) tokens

blank_here : (at : ℕ) (text : List ℕ) (tokens : List Token) → Lexes at text tokens → 0 < length text → ((token : Token) (others : List Token) → tokens ≡ token ∷ others → token.start ≡ at → ⊥)
    → IsBlankHere at text tokens
blank_here at text tokens ended some no_token = absurd (omega arith)
blank_here at text tokens (blank_first {count = count} blank rest) some no_token = record { count = count; blank = blank; rest = rest }
blank_here at text tokens (token_first {count = count} {kind = kind} {tokens = left} longest rest) some no_token = absurd (no_token (record { kind = kind; start = at; end = at + count }) left refl refl)

-- one space
spaced : (text : List ℕ) (count : ℕ) → IsBlank text count → (¬ BeginsComment text) → (count ≡ 1) × ((more : List Piece) → HasPieces (drop 1 text) more → HasPieces text more)
spaced text count (space is) no_comment = (refl, λ more has. space_first is has)
spaced text count (comment begins _) no_comment = absurd (no_comment begins)

module _ (text : List ℕ) (tokens : List Token) (next : ℕ) (parts : List Part) (at : ℕ) (cut : IsCut text tokens next parts at) where
  -- a part more
  part_more : (kind : PartKind) (end after : ℕ) (part : Part) → part.kind ≡ kind → part.start ≡ at → part.end ≡ end → at < end → IsFirst kind (drop at text) (end - at) → Lexes end (drop (end - at) (drop at text)) (drop after tokens)
      → IsCut text tokens after (parts ++ part ∷ []) end
  part_more kind end after part kind_is start_is end_is more first rest =
      let size = first_size kind (drop at text) (end - at) first in
      let within : end ≤ length text = omega (arith, size.1, length-drop at text, cut.within) in
      let joined : drop (end - at) (drop at text) ≡ drop end text = drop-drop (end - at) at text ∙ ap (λ place. drop place text) (omega arith) in
      let piece : Piece = record { kind = part.kind; bytes = bytes_of text part } in
      let bytes : bytes_of text part ≡ take (end - at) (drop at text) = rw (start_is, end_is) refl in
      let same : piece ≡ record { kind = kind; bytes = take (end - at) (drop at text) } = λ i. record { kind = kind_is i; bytes = bytes i } in
      let shown = λ (part : Part). let piece : Piece = record { kind = part.kind; bytes = bytes_of text part } in piece in
      record {
        within = within;
        lexes = subst (λ left. Lexes end left (drop after tokens)) joined rest;
        pieces = λ others has.
            let whole = cut.pieces (piece ∷ others) (subst (λ piece. HasPieces (drop at text) (piece ∷ others)) (sym same) (piece_first (end - at) first (subst (λ left. HasPieces left others) (sym joined) has))) in
            subst (HasPieces text) (sym (append_assoc (pieces_of text parts) (piece ∷ []) others) ∙ ap (λ front. front ++ others) (sym (map-append shown parts (part ∷ [])))) whole;
        lie = All-append (LiesIn text) parts (part ∷ []) cut.lie (All-cons (LiesIn text) part [] (record {
          some = omega (arith, start_is, end_is);
          within = omega (arith, end_is, within);
          spelled = subst (λ (piece : Piece). IsSpelled piece.kind piece.bytes) (sym same) (first_spelled kind (drop at text) (end - at) first);
        }) (All-nil (LiesIn text)));
      }

  -- the token that the next one of the list is
  token_here : (token : Token) → slice_get tokens next ≡ Some token → token.start ≡ at → IsHere at (drop at text) token (drop (next + 1) tokens)
  token_here token found begins =
      let inside = slice_get_within tokens next token found in
      let is : get_or tokens next token ≡ token = get_or_from_slice_get tokens next token token found in
      let left : drop next tokens ≡ token ∷ drop (next + 1) tokens = drop_more tokens next token inside ∙ ap (λ first. first ∷ drop (next + 1) tokens) is in
      here at (drop at text) (drop next tokens) token (drop (next + 1) tokens) cut.lexes left begins

  token_more : (token : Token) (kind : Kind) (count : ℕ) (sort : Sort) → slice_get tokens next ≡ Some token → token.start ≡ at → IsLongestToken (drop at text) kind count
      → IsCut text tokens (next + 1) (parts ++ record { kind = kinds.Token kind; sort = sort; start = at; end = at + count } ∷ []) (at + count)
  token_more token kind count sort found begins longest =
      let shown = token_here token found begins in
      let size = (token_size (drop at text) kind count longest).0 in
      let far : token.end - at ≡ count = same_count (drop at text) token.kind kind (token.end - at) count shown.longest longest in
      let end_is : token.end ≡ at + count = omega (arith, shown.after) in
      let near : at + count - at ≡ count = omega arith in
      let rest = subst (λ count. Lexes token.end (drop count (drop at text)) (drop (next + 1) tokens)) (far ∙ sym near) shown.rest in
      part_more (kinds.Token kind) (at + count) (next + 1) (record { kind = kinds.Token kind; sort = sort; start = at; end = at + count }) refl refl refl (omega (arith, size))
      (subst (IsLongestToken (drop at text) kind) (sym near) longest)
      (subst (λ end. Lexes end (drop (at + count - at) (drop at text)) (drop (next + 1) tokens)) end_is rest)

  no_token_here : ((token : Token) → slice_get tokens next ≡ Some token → token.start ≡ at → ⊥) → (token : Token) (others : List Token) → drop next tokens ≡ token ∷ others → token.start ≡ at → ⊥
  no_token_here none token others same begins =
      let inside : next < length tokens = omega (arith, length-drop next tokens, ap length same) in
      let first : get_or tokens next token ≡ token = ap (λ list. get_or list 0 token) (sym (drop_more tokens next token inside) ∙ same) in
      none token (slice_get-get_or tokens next token inside ∙ ap Some first) begins

  comment_more : ((token : Token) → slice_get tokens next ≡ Some token → token.start ≡ at → ⊥) → at < length text → BeginsComment (drop at text)
      → IsCut text tokens next (parts ++ record { kind = kinds.Comment; sort = sorts.End; start = at; end = at + line_length (drop at text) } ∷ []) (at + line_length (drop at text)) × (0 < line_length (drop at text))
  comment_more none inside begins =
      let left = drop at text in
      let count = line_length left in
      let blank = blank_here at left (drop next tokens) cut.lexes (omega (arith, length-drop at text)) (no_token_here none) in
      let same : blank.count ≡ count = same_blank left blank.count count blank.blank (comment begins refl) in
      let size = blank_size left count (comment begins refl) in
      let far : at + count - at ≡ count = omega arith in (
        part_more kinds.Comment (at + count) next (record { kind = kinds.Comment; sort = sorts.End; start = at; end = at + count }) refl refl refl (omega (arith, size.0)) (begins, far)
            (subst (λ count. Lexes (at + line_length left) (drop count left) (drop next tokens)) (sym far) (subst (λ count. Lexes (at + count) (drop count left) (drop next tokens)) same blank.rest)),
        size.0,
      )

  space_more : ((token : Token) → slice_get tokens next ≡ Some token → token.start ≡ at → ⊥) → at < length text → (¬ BeginsComment (drop at text)) → IsCut text tokens next parts (at + 1)
  space_more none inside no_comment =
      let left = drop at text in
      let blank = blank_here at left (drop next tokens) cut.lexes (omega (arith, length-drop at text)) (no_token_here none) in
      let one = spaced left blank.count blank.blank no_comment in
      let joined : drop 1 left ≡ drop (at + 1) text = drop-drop 1 at text in
      record {
        within = omega arith;
        lexes = subst (λ left. Lexes (at + 1) left (drop next tokens)) joined (subst (λ count. Lexes (at + count) (drop count left) (drop next tokens)) one.0 blank.rest);
        pieces = λ more has. cut.pieces more (one.1 more (subst (λ left. HasPieces left more) (sym joined) has));
        lie = cut.lie;
      }

  cut_ended : length text ≤ at → HasPieces text (pieces_of text parts)
  cut_ended past =
      subst (HasPieces text) (append-nil (pieces_of text parts)) (cut.pieces [] (subst (λ left. HasPieces left []) (sym (drop_of_length-le text past)) no_piece))

-- the parts so far, where only the places are known at which the tokens begin
pub record IsCutBy (text starts : List ℕ) (next : ℕ) (parts : List Part) (at : ℕ) : Type 0 where
  pub tokens : List Token
  pub starts_are : starts ≡ starts_of tokens
  pub cut : IsCut text tokens next parts at

pub packed_begun : (text starts : List ℕ) (marks : List Sort) → ArePacked text starts marks → IsCutBy text starts 0 [] 0
packed_begun text starts marks packed = record { tokens = packed.tokens; starts_are = packed.starts_are; cut = cut_begun text packed.tokens packed.lexes }

-- the token whose place stands there
started : (tokens : List Token) (next at : ℕ) → slice_get (starts_of tokens) next ≡ Some at → (token : Token) × (slice_get tokens next ≡ Some token) × (token.start ≡ at)
started tokens next at found = go (slice_get tokens next) refl (sym (slice_get-map (λ (token : Token). token.start) tokens next) ∙ found)
  where
    go : (first : Option Token) → slice_get tokens next ≡ first → option_map (λ (token : Token). token.start) first ≡ Some at → (token : Token) × (slice_get tokens next ≡ Some token) × (token.start ≡ at)
    go (Some token) is same = (token, is, cc)
    go None is same = absurd cc

module _ (text starts : List ℕ) (next : ℕ) (parts : List Part) (at : ℕ) (by : IsCutBy text starts next parts at) where
  no_start : (slice_get starts next ≡ Some at → ⊥) → (token : Token) → slice_get by.tokens next ≡ Some token → token.start ≡ at → ⊥
  no_start none token found begins =
      none (ap (λ starts. slice_get starts next) by.starts_are ∙ slice_get-map (λ (token : Token). token.start) by.tokens next ∙ ap (option_map (λ (token : Token). token.start)) found ∙ ap Some begins)

  -- a token stands where the next one begins
  pub stands_here : slice_get starts next ≡ Some at → (kind : Kind) × (count : ℕ) × IsLongestToken (drop at text) kind count
  stands_here found =
      let (token, is, begins) = started by.tokens next at (ap (λ starts. slice_get starts next) (sym by.starts_are) ∙ found) in
      let shown = token_here text by.tokens next parts at by.cut token is begins in
      (token.kind, token.end - at, shown.longest)

  pub token_added : (kind : Kind) (count : ℕ) (sort : Sort) → slice_get starts next ≡ Some at → IsLongestToken (drop at text) kind count
      → IsCutBy text starts (next + 1) (parts ++ record { kind = kinds.Token kind; sort = sort; start = at; end = at + count } ∷ []) (at + count)
  token_added kind count sort found longest =
      let (token, is, begins) = started by.tokens next at (ap (λ starts. slice_get starts next) (sym by.starts_are) ∙ found) in
      record { tokens = by.tokens; starts_are = by.starts_are; cut = token_more text by.tokens next parts at by.cut token kind count sort is begins longest }

  pub comment_added : (slice_get starts next ≡ Some at → ⊥) → at < length text → BeginsComment (drop at text)
      → IsCutBy text starts next (parts ++ record { kind = kinds.Comment; sort = sorts.End; start = at; end = at + line_length (drop at text) } ∷ []) (at + line_length (drop at text)) × (0 < line_length (drop at text))
  comment_added none inside begins =
      let more = comment_more text by.tokens next parts at by.cut (no_start none) inside begins in
      (record { tokens = by.tokens; starts_are = by.starts_are; cut = more.0 }, more.1)

  pub space_added : (slice_get starts next ≡ Some at → ⊥) → at < length text → (¬ BeginsComment (drop at text)) → IsCutBy text starts next parts (at + 1)
  space_added none inside no_comment =
      record { tokens = by.tokens; starts_are = by.starts_are; cut = space_more text by.tokens next parts at by.cut (no_start none) inside no_comment }

  pub all_cut : length text ≤ at → HasPieces text (pieces_of text parts)
  all_cut past = cut_ended text by.tokens next parts at by.cut past
