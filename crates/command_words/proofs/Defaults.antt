-- What the matches show, once the flags that are not given have their default.
use Rattle.std.proofs.Common.{◌≡◌, ◌∙◌, ℕ, ◌+◌, min, Bool, true, false, cond, not, ◌&&◌, ◌||◌, List, [], ◌∷◌, ◌++◌, fold, Option, Some, None, refl, sym, ap, ap₂, codes}
use Rattle.std.specs.Prelude.{option_map, option_and_then, slice_get}
use Rattle.std.specs.List.{find}
use Rattle.std.specs.Str.{bytes_eq}
use Rattle.std.proofs.lemmas.Slice.Eq.{bytes_eq-Decides}
use Rattle.clap.specs.Lexer.{usize_max}
use Rattle.clap.specs.Walk.{Row, Rule, Text, default_rows, first_of, has_row, more_values, with_default}
use Rattle.clap.specs.declared.builder.value_parser.Reading.TheVariants as reading
use Rattle.clap.specs.declared.parser.matches.ValueSource.TheVariants.{DefaultValue}
use Rattle.command_words.specs.Words.{KnownOptions, GivenTexts, text_of}
use Rattle.command_words.specs.Commands.{known_options, positional_names}
use Rattle.command_words.specs.Splits.{is_flag, shown_text}
use Rattle.command_words.specs.declared.commands.Verb.{Verb}
use Rattle.command_words.proofs.Rules.{at_row-missing, has_row-given, option_rule, row_for, rows_for}
use Rattle.command_words.proofs.Built.{options_in, table, words_from}

abbrev default_row : Text → Row
default_row name = record {
  id = name;
  values = codes "false" ∷ [];
  count = None;
  source = Some DefaultValue;
  reading = reading.AsWritten;
}

first_of-missing : (name : Text) (rows : List Row) → has_row name rows ≡ false → first_of name rows ≡ None
first_of-missing name [] none = refl
first_of-missing name (row ∷ rows) none = go (bytes_eq row.id name) none (first_of-missing name rows)
  where
    go : (b : Bool) → (b || has_row name rows) ≡ false → (has_row name rows ≡ false → first_of name rows ≡ None)
        → option_and_then (λ r. slice_get r.values 0) (cond b (Some row) (find (λ r. bytes_eq r.id name) rows)) ≡ None
    go true e later = cc
    go false e later = later e

has_row-append : (name first : Text) (rows : List Row)
    → has_row name (rows ++ default_row first ∷ []) ≡ (has_row name rows || (bytes_eq first name || false))
has_row-append name first [] = refl
has_row-append name first (row ∷ rows) = ap (λ b. bytes_eq row.id name || b) (has_row-append name first rows) ∙ go (bytes_eq row.id name)
  where
    go : (b : Bool) → (b || (has_row name rows || (bytes_eq first name || false))) ≡ ((b || has_row name rows) || (bytes_eq first name || false))
    go true = refl
    go false = refl

first_of-append : (name first : Text) (rows : List Row)
    → first_of name (rows ++ default_row first ∷ [])
    ≡ cond (has_row name rows) (first_of name rows) (cond (bytes_eq first name) (Some (codes "false")) None)
first_of-append name first [] = go (bytes_eq first name)
  where
    go : (b : Bool) → option_and_then (λ r. slice_get r.values 0) (cond b (Some (default_row first)) None) ≡ cond b (Some (codes "false")) None
    go true = refl
    go false = refl
first_of-append name first (row ∷ rows) = go (bytes_eq row.id name) (first_of-append name first rows)
  where
    go : (b : Bool) → first_of name (rows ++ default_row first ∷ [])
        ≡ cond (has_row name rows) (first_of name rows) (cond (bytes_eq first name) (Some (codes "false")) None)
        → option_and_then (λ r. slice_get r.values 0) (cond b (Some row) (find (λ r. bytes_eq r.id name) (rows ++ default_row first ∷ [])))
        ≡ cond (b || has_row name rows) (option_and_then (λ r. slice_get r.values 0) (cond b (Some row) (find (λ r. bytes_eq r.id name) rows)))
        (cond (bytes_eq first name) (Some (codes "false")) None)
    go true later = refl
    go false later = later

-- an argument with no default leaves the rows
same_rows : (b : Bool) (rows : List Row) → cond b rows rows ≡ rows
same_rows true rows = refl
same_rows false rows = refl

words_rows : (place : ℕ) (names : List Text) (rows : List Row) → fold with_default rows (words_from place names) ≡ rows
words_rows place [] rows = refl
words_rows place (name ∷ names) rows =
    ap (λ rs. fold with_default rs (words_from (min (place + 1) usize_max) names)) (same_rows (has_row name rows) rows)
    ∙ words_rows (min (place + 1) usize_max) names rows

-- the text of a name: that of its row, else `false` where it is one of these flags
abbrev shown_after : KnownOptions → List Row → Text → Option Text
shown_after known rows name =
    cond (has_row name rows) (first_of name rows) (cond (is_flag known name) (Some (codes "false")) None)

options_show : (known : KnownOptions) (words : List Rule) → ((rows : List Row) → fold with_default rows words ≡ rows)
    → (rows : List Row) (name : Text) → first_of name (fold with_default rows (options_in known ++ words)) ≡ shown_after known rows name
options_show [] words kept rows name = ap (first_of name) (kept rows) ∙ go (has_row name rows) refl
  where
    go : (b : Bool) → has_row name rows ≡ b → first_of name rows ≡ cond b (first_of name rows) None
    go true has = refl
    go false has = first_of-missing name rows has
options_show (one ∷ known) words kept rows name = by_option (options_show known words kept) one.1
  where
    -- a flag that is given keeps its row
    given_flag : (b : Bool) → bytes_eq one.0 name ≡ b → has_row one.0 rows ≡ true
        → cond (has_row name rows) (first_of name rows) (cond (is_flag known name) (Some (codes "false")) None)
        ≡ cond (has_row name rows) (first_of name rows) (cond ((b && true) || is_flag known name) (Some (codes "false")) None)
    given_flag true is has =
        let here : has_row name rows ≡ true = ap (λ n. has_row n rows) (sym ((bytes_eq-Decides one.0 name).0 is)) ∙ has in
        rw here refl
    given_flag false is has = refl

    -- one that isn't gets a row
    new_flag : (given same later : Bool) (text : Option Text)
        → cond (given || (same || false)) (cond given text (cond same (Some (codes "false")) None)) (cond later (Some (codes "false")) None)
        ≡ cond given text (cond ((same && true) || later) (Some (codes "false")) None)
    new_flag true same later text = refl
    new_flag false true later text = refl
    new_flag false false later text = refl

    by_row : ((rs : List Row) (n : Text) → first_of n (fold with_default rs (options_in known ++ words)) ≡ shown_after known rs n)
        → (b : Bool) → has_row one.0 rows ≡ b
        → first_of name (fold with_default (cond b rows (default_rows one.0 reading.AsWritten (codes "false" ∷ []) rows)) (options_in known ++ words))
        ≡ cond (has_row name rows) (first_of name rows) (cond ((bytes_eq one.0 name && true) || is_flag known name) (Some (codes "false")) None)
    by_row later true has = later rows name ∙ given_flag (bytes_eq one.0 name) refl has
    by_row later false has =
        let added = at_row-missing one.0 (more_values DefaultValue (codes "false" ∷ [])) (default_row one.0 ∷ []) rows has in
        ap (λ rs. first_of name (fold with_default rs (options_in known ++ words))) added
        ∙ later (rows ++ default_row one.0 ∷ []) name
        ∙ ap₂ (λ b text. cond b text (cond (is_flag known name) (Some (codes "false")) None)) (has_row-append name one.0 rows) (first_of-append name one.0 rows)
        ∙ new_flag (has_row name rows) (bytes_eq one.0 name) (is_flag known name) (first_of name rows)

    valued : (b : Bool) → ((b && false) || is_flag known name) ≡ is_flag known name
    valued true = refl
    valued false = refl

    by_option : ((rs : List Row) (n : Text) → first_of n (fold with_default rs (options_in known ++ words)) ≡ shown_after known rs n)
        → (takes : Bool)
        → first_of name (fold with_default (with_default rows (option_rule one.0 takes)) (options_in known ++ words))
        ≡ cond (has_row name rows) (first_of name rows) (cond ((bytes_eq one.0 name && not takes) || is_flag known name) (Some (codes "false")) None)
    by_option later true =
        ap (λ rs. first_of name (fold with_default rs (options_in known ++ words))) (same_rows (has_row one.0 rows) rows)
        ∙ later rows name
        ∙ sym (ap (λ b. cond (has_row name rows) (first_of name rows) (cond b (Some (codes "false")) None)) (valued (bytes_eq one.0 name)))
    by_option later false = by_row later (has_row one.0 rows) refl

first_of-given : (given : GivenTexts) (name : Text) → first_of name (rows_for given) ≡ text_of given name
first_of-given [] name = refl
first_of-given (pair ∷ rest) name = go (bytes_eq pair.0 name) (first_of-given rest name)
  where
    go : (b : Bool) → first_of name (rows_for rest) ≡ text_of rest name
        → option_and_then (λ r. slice_get r.values 0) (cond b (Some (row_for pair)) (find (λ r. bytes_eq r.id name) (rows_for rest)))
        ≡ option_map (λ p. p.1) (cond b (Some pair) (find (λ p. bytes_eq p.0 name) rest))
    go true later = refl
    go false later = later

pub first_shown : (verb : Verb) (given : GivenTexts) (name : Text)
    → first_of name (fold with_default (rows_for given) (table verb)) ≡ shown_text (known_options verb) given name
first_shown verb given name =
    options_show (known_options verb) (words_from 1 (positional_names verb)) (words_rows 1 (positional_names verb)) (rows_for given) name
    ∙ ap₂ (λ b text. cond b text (cond (is_flag (known_options verb) name) (Some (codes "false")) None)) (has_row-given given name) (first_of-given given name)
