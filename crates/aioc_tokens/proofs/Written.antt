-- What is written is read again.
use Rattle.std.proofs.Common.{◌≡◌, ℕ, suc, ◌+◌, ◌<◌, ◌≤◌, ◌==◌, ◌||◌, ◌&&◌, Bool, true, false, cond, List, [], ◌∷◌, ◌++◌, length, get_or, take, drop, Some, refl, ap, sym, ◌∙◌, subst, arith, length-append, drop-drop, append_assoc, take_at, drop_at, flat_map, append-nil, add-zero, zero-add, drop_of_length-le, codes, nat_le}
use Rattle.std.specs.List.{list_all, prefix_len, AllByRecursion}
use Rattle.std.specs.Char.{is_ascii_digit}
use Rattle.std.proofs.lemmas.Bool.Decides.{nat_tests}
use Rattle.aioc_tokens.specs.declared.kinds.Kind.{Kind}
use Rattle.aioc_tokens.specs.declared.kinds.Kind.TheVariants as kinds
use Rattle.aioc_tokens.specs.declared.kinds.Token.{Token}
use Rattle.limits.specs.Limits.{most_name_bytes, most_text_bytes}
use Rattle.aioc_tokens.specs.declared.words.Word.{Word}
use Rattle.aioc_tokens.specs.declared.words.Word.TheVariants.{Aioc, Skip}
use Rattle.aioc_tokens.specs.declared.words.Punctuator.{Punctuator}
use Rattle.aioc_tokens.specs.declared.words.Punctuator.TheVariants.{LeftBrace, RightBrace}
use Rattle.aioc_tokens.specs.Words.{word_spelling, punctuator_spelling, punctuator_of}
use Rattle.aioc_tokens.specs.Tokens.{is_space, is_name_byte, is_printable, escaped, quoted, IsNameSpelling, IsFront, IsLongestToken, BeginsComment, space}
use Rattle.aioc_tokens.specs.Lexing.{Lexes, ended, blank_first, token_first, bytes_of}
use Rattle.aioc_tokens.specs.Lexemes.{Lexeme, Name, Long, Number, Text, Reserved, Symbol, lexeme, lexemes, HasLexemes, HasSpelling}
use Rattle.aioc_tokens.specs.Spelling.{spelling, spelled}
use Rattle.aioc_tokens.proofs.Runs.{name_longest, number_longest, name_bytes}
use Rattle.aioc_tokens.specs.Packed.{text_end}
use Rattle.aioc_tokens.proofs.Quotes.{text_end_closes, text_longest}
use Rattle.aioc_tokens.proofs.Spellings.{word_found, punctuator_found}
use Rattle.aioc_tokens.proofs.Symbols.{two_longest, one_longest, punctuator_short}
use Rattle.aioc_tokens.proofs.Firsts.{punctuator_first}
use Rattle.aioc_tokens.proofs.Values.{value_of-quoted}

-- the kind of a lexeme's token
abbrev pub kind_of : Lexeme → Kind
kind_of (Name bytes) = kinds.Name
kind_of Long = kinds.Name
kind_of (Number digits) = kinds.Number
kind_of (Text value) = kinds.Text
kind_of (Reserved word) = kinds.Name
kind_of (Symbol punctuator) = kinds.Symbol

-- a second byte of a symbol or of the two that begin a comment
abbrev pub goes_on : ℕ → Bool
goes_on byte = byte == 61 || byte == 43 || byte == 62 || byte == 47

-- a token of this lexeme ends where these bytes follow
abbrev pub Ends : Lexeme → List ℕ → Type 0
Ends (Name bytes) others = prefix_len is_name_byte others ≡ 0
Ends Long others = Unit {0}
Ends (Number digits) others = prefix_len is_ascii_digit others ≡ 0
Ends (Text value) others = Unit {0}
Ends (Reserved word) others = prefix_len is_name_byte others ≡ 0
Ends (Symbol punctuator) others = prefix_len goes_on others ≡ 0

-- a run of bytes that all pass ends where one that doesn't follows
run_ends : (passes : ℕ → Bool) (bytes others : List ℕ) → list_all passes bytes ≡ true → prefix_len passes others ≡ 0 → prefix_len passes (bytes ++ others) ≡ length bytes
run_ends passes [] others all stops = stops
run_ends passes (byte ∷ bytes) others all stops = go (passes byte) all (run_ends passes bytes others)
  where
    go : (pass : Bool) → (pass && list_all passes bytes) ≡ true → (list_all passes bytes ≡ true → prefix_len passes others ≡ 0 → prefix_len passes (bytes ++ others) ≡ length bytes)
        → cond pass (1 + prefix_len passes (bytes ++ others)) 0 ≡ suc (length bytes)
    go true rest ends = let same = ends rest stops in omega arith
    go false rest ends = absurd cc

name_front : (bytes others : List ℕ) → IsNameSpelling bytes → prefix_len is_name_byte others ≡ 0 → IsLongestToken (bytes ++ others) kinds.Name (length bytes)
name_front [] others spells ends = absurd spells
name_front (first ∷ bytes) others spells ends =
    subst (IsLongestToken (first ∷ bytes ++ others) kinds.Name) (run_ends is_name_byte (first ∷ bytes) others (name_bytes (first ∷ bytes) spells) ends) (name_longest (first ∷ bytes ++ others) spells.0)

number_front : (digits others : List ℕ) → 0 < length digits → list_all is_ascii_digit digits ≡ true → prefix_len is_ascii_digit others ≡ 0 → IsLongestToken (digits ++ others) kinds.Number (length digits)
number_front [] others some all ends = absurd (omega arith)
number_front (first ∷ digits) others some all ends =
    subst (IsLongestToken (first ∷ digits ++ others) kinds.Number) (run_ends is_ascii_digit (first ∷ digits) others all ends) (number_longest (first ∷ digits ++ others) (first_passes _ _ all))
  where
    first_passes : (a b : Bool) → (a && b) ≡ true → a ≡ true
    first_passes true b both = refl
    first_passes false b both = both

text_front : (value others : List ℕ) → list_all is_printable value ≡ true → IsLongestToken (quoted value ++ others) kinds.Text (length (quoted value))
text_front value others printable =
    let inside = flat_map escaped value in
    let ends = ap (text_end false) (append_assoc inside (34 ∷ []) others) ∙ text_end_closes value others printable in
    subst (IsLongestToken (quoted value ++ others) kinds.Text) (omega (arith, length-append inside (34 ∷ []))) (text_longest (quoted value ++ others) (suc (length inside)) refl ends)

-- each second byte of a symbol goes on a symbol
second_goes_on : (punctuator : Punctuator) → goes_on (get_or (punctuator_spelling punctuator) 1 61) ≡ true
second_goes_on LeftBrace = refl
second_goes_on RightBrace = refl
second_goes_on _ = refl

first_stops : (passes : ℕ → Bool) (byte : ℕ) (others : List ℕ) → prefix_len passes (byte ∷ others) ≡ 0 → passes byte ≡ true → ⊥
first_stops passes byte others stops pass = let more : 1 + prefix_len passes others ≡ 0 = rw pass at stops in omega arith

-- no comment is a symbol
no_comment_punctuator : (punctuator : Punctuator) → punctuator_spelling punctuator ≡ codes "//" → ⊥
unfolding punctuator_of
no_comment_punctuator punctuator same = let found : punctuator_of (codes "//") ≡ Some punctuator = ap punctuator_of (sym same) ∙ punctuator_found punctuator in cc

lone_front : (punctuator : Punctuator) (byte : ℕ) (others : List ℕ) → punctuator_spelling punctuator ≡ byte ∷ [] → prefix_len goes_on others ≡ 0 → IsLongestToken (byte ∷ others) kinds.Symbol 1
lone_front punctuator byte others is stops = one_longest (byte ∷ others) (record { within = omega arith; spells = (punctuator, sym is) }) (no_two others stops) (no_comment others stops)
  where
    no_two : (others : List ℕ) → prefix_len goes_on others ≡ 0 → IsFront (byte ∷ others) kinds.Symbol 2 → ⊥
    no_two [] stops front = absurd (omega (arith, front.within))
    no_two (next ∷ others) stops front =
        first_stops goes_on next others stops (ap (λ word. goes_on (get_or word 1 61)) front.spells.1 ∙ second_goes_on front.spells.0)

    no_comment : (others : List ℕ) → prefix_len goes_on others ≡ 0 → BeginsComment (byte ∷ others) → ⊥
    no_comment [] stops begins = absurd cc
    no_comment (next ∷ others) stops begins = first_stops goes_on next others stops (ap (λ word. goes_on (get_or word 1 61)) begins)

pair_front : (punctuator : Punctuator) (first second : ℕ) (others : List ℕ) → punctuator_spelling punctuator ≡ first ∷ second ∷ [] → IsLongestToken (first ∷ second ∷ others) kinds.Symbol 2
pair_front punctuator first second others is = two_longest (first ∷ second ∷ others) (record { within = omega arith; spells = (punctuator, sym is) }) (λ begins. no_comment_punctuator punctuator (is ∙ begins))

symbol_front : (punctuator : Punctuator) (others : List ℕ) → prefix_len goes_on others ≡ 0 → IsLongestToken (punctuator_spelling punctuator ++ others) kinds.Symbol (length (punctuator_spelling punctuator))
symbol_front punctuator others stops = go (punctuator_spelling punctuator) refl
  where
    go : (bytes : List ℕ) → punctuator_spelling punctuator ≡ bytes → IsLongestToken (bytes ++ others) kinds.Symbol (length bytes)
    go [] is = absurd (omega (arith, (punctuator_first punctuator).1, ap length is))
    go (byte ∷ []) is = lone_front punctuator byte others is stops
    go (first ∷ second ∷ []) is = pair_front punctuator first second others is
    go (first ∷ second ∷ third ∷ bytes) is = absurd (omega (arith, punctuator_short punctuator, ap length is))

-- a reserved word is spelled as a name
word_spells : (word : Word) → IsNameSpelling (word_spelling word)
word_spells Aioc = (refl, refl)
word_spells Skip = (refl, refl)
word_spells _ = (refl, refl)

-- what is written is the longest token where it ends
pub spelling_front : (first : Lexeme) (others : List ℕ) → HasSpelling first → Ends first others → IsLongestToken (spelling first ++ others) (kind_of first) (length (spelling first))
spelling_front (Name bytes) others formed ends = name_front bytes others formed.0 ends
spelling_front Long others formed ends = absurd formed
spelling_front (Number digits) others formed ends = number_front digits others formed.0 formed.1 ends
spelling_front (Text value) others formed ends = text_front value others formed.0
spelling_front (Reserved word) others formed ends = name_front (word_spelling word) others (word_spells word) ends
spelling_front (Symbol punctuator) others formed ends = symbol_front punctuator others ends

fits : (count most : ℕ) → count ≤ most → nat_le count most ≡ true
fits count most within = grind (arith, nat_tests)

-- and its lexeme is that which was written
pub lexeme_spelled : (first : Lexeme) → HasSpelling first → lexeme (kind_of first) (spelling first) ≡ first
lexeme_spelled (Name bytes) formed = rw (formed.2, fits (length bytes) most_name_bytes formed.1) refl
lexeme_spelled Long formed = absurd formed
lexeme_spelled (Number digits) formed = refl
lexeme_spelled (Text value) formed = rw (value_of-quoted value, fits (length value) most_text_bytes formed.1) refl
lexeme_spelled (Reserved word) formed = rw (word_found word) refl
lexeme_spelled (Symbol punctuator) formed = rw (punctuator_found punctuator) refl

-- From this place on, where what is left of the whole is the text, these lexemes are read.
pub record IsRead (whole : List ℕ) (at : ℕ) (text : List ℕ) (found : List Lexeme) : Type 0 where
  pub rest_is : drop at whole ≡ text
  pub tokens : List Token
  pub lexes : Lexes at text tokens
  pub lexemes_are : lexemes whole tokens ≡ found

pub nothing_read : (whole : List ℕ) (at : ℕ) → drop at whole ≡ [] → IsRead whole at [] []
nothing_read whole at rest = record { rest_is = rest; tokens = []; lexes = ended; lexemes_are = refl }

-- a space stands before what is read
pub space_read : (whole : List ℕ) (at byte : ℕ) (others : List ℕ) (found : List Lexeme) → is_space byte ≡ true → drop at whole ≡ byte ∷ others → IsRead whole (at + 1) others found
    → IsRead whole at (byte ∷ others) found
space_read whole at byte others found is rest read = record {
  rest_is = rest;
  tokens = read.tokens;
  lexes = blank_first (space is) read.lexes;
  lexemes_are = read.lexemes_are;
}

-- a lexeme stands before what is read, and ends there
pub lexeme_read : (whole : List ℕ) (at : ℕ) (first : Lexeme) (others : List ℕ) (found : List Lexeme) → HasSpelling first → Ends first others → drop at whole ≡ spelling first ++ others
    → IsRead whole (at + length (spelling first)) others found → IsRead whole at (spelling first ++ others) (first ∷ found)
lexeme_read whole at first others found formed ends rest read =
    let count = length (spelling first) in
    let token : Token = record { kind = kind_of first; start = at; end = at + count } in
    let bytes : bytes_of whole token ≡ spelling first = ap (λ most. take most (drop at whole)) (omega arith) ∙ ap (take count) rest ∙ take_at (spelling first) others count refl in
    record {
      rest_is = rest;
      tokens = token ∷ read.tokens;
      lexes = token_first (spelling_front first others formed ends) (subst (λ left. Lexes (at + count) left read.tokens) (sym (drop_at (spelling first) others count refl)) read.lexes);
      lexemes_are = λ i. (ap (lexeme (kind_of first)) bytes ∙ lexeme_spelled first formed) i ∷ read.lexemes_are i;
    }

-- what is read from the front on is the whole
pub whole_read : (whole : List ℕ) (found : List Lexeme) → IsRead whole 0 whole found → HasLexemes whole found
whole_read whole found read = record { tokens = read.tokens; lexes = read.lexes; lexemes_are = read.lexemes_are }

-- a space begins here, or the text ends
abbrev pub SpaceOrEnd : List ℕ → Type 0
SpaceOrEnd [] = Unit {0}
SpaceOrEnd (byte ∷ others) = is_space byte ≡ true

space_stops : (passes : ℕ → Bool) (others : List ℕ) → ((byte : ℕ) → is_space byte ≡ true → passes byte ≡ false) → SpaceOrEnd others → prefix_len passes others ≡ 0
space_stops passes [] apart stops = refl
space_stops passes (byte ∷ others) apart stops = rw (apart byte stops) refl

no_name_byte : (byte : ℕ) → is_space byte ≡ true → is_name_byte byte ≡ false
no_name_byte byte is = grind (arith, nat_tests)

no_digit : (byte : ℕ) → is_space byte ≡ true → is_ascii_digit byte ≡ false
no_digit byte is = grind (arith, nat_tests)

no_second : (byte : ℕ) → is_space byte ≡ true → goes_on byte ≡ false
no_second byte is = grind (arith, nat_tests)

-- a space ends each token, and so does the end
pub space_ends : (first : Lexeme) (others : List ℕ) → SpaceOrEnd others → Ends first others
space_ends (Name bytes) others stops = space_stops is_name_byte others no_name_byte stops
space_ends Long others stops = tt
space_ends (Number digits) others stops = space_stops is_ascii_digit others no_digit stops
space_ends (Text value) others stops = tt
space_ends (Reserved word) others stops = space_stops is_name_byte others no_name_byte stops
space_ends (Symbol punctuator) others stops = space_stops goes_on others no_second stops

-- Lexemes that are written with one space between two stand before what is read.
pub spelled_read : (whole : List ℕ) (at : ℕ) (written : List Lexeme) (others : List ℕ) (found : List Lexeme) → AllByRecursion HasSpelling written → SpaceOrEnd others → drop at whole ≡ spelled written ++ others
    → IsRead whole (at + length (spelled written)) others found → IsRead whole at (spelled written ++ others) (written ++ found)
spelled_read whole at [] others found formed stops rest read = subst (λ place. IsRead whole place others found) (add-zero at) read
spelled_read whole at (last ∷ []) others found formed stops rest read = lexeme_read whole at last others found formed.0 (space_ends last others stops) rest read
spelled_read whole at (first ∷ next ∷ written) others found formed stops rest read =
    let count = length (spelling first) in
    let tail = spelled (next ∷ written) in
    let joined = append_assoc (spelling first) (32 ∷ tail) others in
    let left : drop (at + count) whole ≡ 32 ∷ (tail ++ others) = sym (drop-drop count at whole) ∙ ap (drop count) (rest ∙ joined) ∙ drop_at (spelling first) (32 ∷ (tail ++ others)) count refl in
    let further : drop (at + count + 1) whole ≡ tail ++ others = sym (drop-drop 1 (at + count) whole) ∙ ap (drop 1) left in
    let place : at + length (spelling first ++ 32 ∷ tail) ≡ at + count + 1 + length tail = omega (arith, length-append (spelling first) (32 ∷ tail)) in
    let after = spelled_read whole (at + count + 1) (next ∷ written) others found formed.1 stops further (subst (λ place. IsRead whole place others found) place read) in
    subst (λ text. IsRead whole at text (first ∷ next ∷ written ++ found)) (sym joined)
    (lexeme_read whole at first (32 ∷ (tail ++ others)) (next ∷ written ++ found) formed.0 (space_ends first (32 ∷ (tail ++ others)) refl) (rest ∙ joined) (space_read whole (at + count) 32 (tail ++ others) (next ∷ written ++ found) refl left after))

-- lexemes that are written with one space between two are read again
pub spelled_lexemes : (written : List Lexeme) → AllByRecursion HasSpelling written → HasLexemes (spelled written) written
spelled_lexemes written formed =
    let text = spelled written in
    let at_end : drop (length text) text ≡ [] = drop_of_length-le text (omega arith) in
    let read = spelled_read text 0 written [] [] formed tt (sym (append-nil text)) (nothing_read text (0 + length text) (subst (λ place. drop place text ≡ []) (sym (zero-add (length text))) at_end)) in
    whole_read text written (subst (IsRead text 0 text) (append-nil written) (subst (λ end. IsRead text 0 end (written ++ [])) (append-nil text) read))

-- two lists that aren't empty are written with a space between them
pub spelled-append : (first : Lexeme) (written : List Lexeme) (next : Lexeme) (others : List Lexeme) → spelled ((first ∷ written) ++ next ∷ others) ≡ spelled (first ∷ written) ++ 32 ∷ spelled (next ∷ others)
spelled-append first [] next others = refl
spelled-append first (second ∷ written) next others =
    ap (λ rest. spelling first ++ 32 ∷ rest) (spelled-append second written next others) ∙ sym (append_assoc (spelling first) (32 ∷ spelled (second ∷ written)) (32 ∷ spelled (next ∷ others)))
