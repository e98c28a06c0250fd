-- What a step of a reader found, taken apart.
use Rattle.std.proofs.Common.{◌≡◌, ℕ, Bool, true, false, cond, List, [], ◌∷◌, Option, Some, None, refl, ap, ◌∙◌, subst}
use Rattle.std.specs.List.{find}
use Rattle.std.specs.Str.{bytes_eq}
use Rattle.std.proofs.lemmas.Slice.Eq.{bytes_eq-Decides}
use Rattle.aioc_tokens.specs.declared.words.Punctuator.{Punctuator}
use Rattle.aioc_tokens.specs.Words.{punctuator_spelling}
use Rattle.aioc_tokens.specs.Lexemes.{Lexeme, Name, Long, Number, Symbol}
use Rattle.expr_syntax.specs.Constants.{number_up_to}
use Rattle.trace_syntax.specs.Words.{line_word_spelling, line_words, line_word_of}
use Rattle.trace_syntax.specs.Reading.{◌>>=◌, behind_symbol, behind_word, first_name, first_number}
use Rattle.trace_syntax.specs.declared.words.LineWord.{LineWord}
use Rattle.trace_syntax.proofs.Fronts.{same_symbol}

-- the value of a step that found one
pub bind_some : {A B : Type 0} (found : Option A) (next : A → Option B) (y : B) → (found >>= next) ≡ Some y → (x : A) × (found ≡ Some x) × (next x ≡ Some y)
bind_some (Some x) next y e = (x, refl, e)
bind_some None next y e = absurd cc

abbrev some : {A : Type 0} → A → Option A
some x = Some x

pub some_is : {A : Type 0} (x y : A) → some x ≡ some y → x ≡ y
some_is x y e = cc

passed : {A : Type 0} (test : Bool) (x y : A) → cond test (Some x) None ≡ Some y → (test ≡ true) × (x ≡ y)
passed true x y e = (refl, cc)
passed false x y e = absurd cc

pub symbol_read : (sign : Punctuator) (from to : List Lexeme) → behind_symbol sign from ≡ Some to → from ≡ Symbol sign ∷ to
unfolding behind_symbol
symbol_read sign (Symbol first ∷ others) to e =
    let (same, rest) = passed (bytes_eq (punctuator_spelling first) (punctuator_spelling sign)) others to e in
    ap (λ found. Symbol found ∷ others) (same_symbol first sign ((bytes_eq-Decides (punctuator_spelling first) (punctuator_spelling sign)).0 same)) ∙ ap (λ r. Symbol sign ∷ r) rest
symbol_read sign [] to e = absurd cc
symbol_read sign (Long ∷ others) to e = absurd cc
symbol_read sign (_ ∷ others) to e = absurd cc

pub word_read : (word : List ℕ) (from to : List Lexeme) → behind_word word from ≡ Some to → from ≡ Name word ∷ to
unfolding behind_word
word_read word (Name first ∷ others) to e =
    let (same, rest) = passed (bytes_eq first word) others to e in
    ap (λ found. Name found ∷ others) ((bytes_eq-Decides first word).0 same) ∙ ap (λ r. Name word ∷ r) rest
word_read word [] to e = absurd cc
word_read word (Long ∷ others) to e = absurd cc
word_read word (_ ∷ others) to e = absurd cc

pub name_read : (from : List Lexeme) (x : List ℕ × List Lexeme) → first_name from ≡ Some x → from ≡ Name x.0 ∷ x.1
unfolding first_name
name_read (Name first ∷ others) x e = ap (λ (y : List ℕ × List Lexeme). Name y.0 ∷ y.1) (some_is (first, others) x e)
name_read [] x e = absurd cc
name_read (Long ∷ others) x e = absurd cc
name_read (_ ∷ others) x e = absurd cc

pub number_read : (most : ℕ) (from : List Lexeme) (x : ℕ × List Lexeme) → first_number most from ≡ Some x → (digits : List ℕ) × (from ≡ Number digits ∷ x.1) × (number_up_to most digits ≡ Some x.0)
unfolding first_number
number_read most (Number digits ∷ others) x e =
    let s = bind_some (number_up_to most digits) (λ n. Some (n, others)) x e in
    let same = some_is (s.0, others) x s.2 in
    (digits, ap (λ (y : ℕ × List Lexeme). Number digits ∷ y.1) same, s.1 ∙ ap (λ (y : ℕ × List Lexeme). Some y.0) same)
number_read most [] x e = absurd cc
number_read most (Long ∷ others) x e = absurd cc
number_read most (_ ∷ others) x e = absurd cc

-- what a table gives for a spelling has it
find_spelled : {Row : Type 0} (spelling : Row → List ℕ) (rows : List Row) (bytes : List ℕ) (row : Row) → find (λ other. bytes_eq bytes (spelling other)) rows ≡ Some row → bytes ≡ spelling row
find_spelled spelling [] bytes row found = absurd cc
find_spelled spelling (next ∷ rows) bytes row found = go (bytes_eq bytes (spelling next)) refl found (find_spelled spelling rows bytes row)
  where
    go : (same : Bool) → bytes_eq bytes (spelling next) ≡ same → cond same (Some next) (find (λ other. bytes_eq bytes (spelling other)) rows) ≡ Some row
        → (find (λ other. bytes_eq bytes (spelling other)) rows ≡ Some row → bytes ≡ spelling row) → bytes ≡ spelling row
    go true same is rest = let next_is : next ≡ row = cc in subst (λ found. bytes ≡ spelling found) next_is ((bytes_eq-Decides bytes (spelling next)).0 same)
    go false same is rest = rest is

pub line_word_spelled : (bytes : List ℕ) (begin : LineWord) → line_word_of bytes ≡ Some begin → bytes ≡ line_word_spelling begin
unfolding line_word_of
line_word_spelled bytes begin found = find_spelled line_word_spelling line_words bytes begin found
