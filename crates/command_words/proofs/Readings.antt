-- What the proofs of the functions that read a command cite.
use Rattle.std.proofs.Common.{◌≡◌, ◌∙◌, ℕ, ◌+◌, ◌<◌, ◌≤◌, ◌^◌, ◌==◌, ◌&&◌, ◌||◌, Bool, true, false, cond, length, take, List, [], ◌∷◌, ◌++◌, map, Some, None, refl, sym, ap, codes, arith, nat_lt, zero, suc}
use Rattle.std.specs.Prelude.{Vec, option_map, nat_le, is_some}
use Rattle.std.specs.List.{find, list_all, list_any, slice_index_or}
use Rattle.std.specs.Str.{IsUtf8, is_utf8, bytes_eq}
use Rattle.std.specs.Str.Parse.{AllDigits, IsNumeral, digits_value, without_leading_plus}
use Rattle.std.specs.Char.{digit_value}
use Rattle.std.specs.Borrow.{Bor}
use Rattle.std.specs.declared.alloc.Global.{Global}
use Rattle.std.proofs.Math.Bool.{and-false}
use Rattle.std.proofs.lemmas.Bool.Decides.{nat_tests}
use Rattle.std.proofs.lemmas.Str.{IsUtf8-from_is_utf8, is_utf8-from_IsUtf8}
use Rattle.std.proofs.lemmas.List.{map_more, map-append}
use Rattle.dioc_terms.specs.Names.{is_digit, is_name, is_reserved, reserved_words}
use Rattle.aioc_tokens.specs.Words.{word_of, word_spelling, reserved_words as tokens_words}
use Rattle.clap.specs.Matches.{first_value, found_of}
use Rattle.clap.specs.declared.parser.matches.ArgMatches.{ArgMatches}
use Rattle.command_words.specs.Words.{Text, KnownOptions, GivenTexts, is_given, text_of}
use Rattle.command_words.specs.Commands.{Texts, are_digits, known_options, command_by, command_with, is_set, monitor_by, number_within, options_of, word_texts}
use Rattle.command_words.specs.Splits.{Splits, is_flag, shown_text}
use Rattle.command_words.specs.declared.commands.Command.TheVariants as command
use Rattle.command_words.specs.declared.commands.Verb.{Verb}
use Rattle.command_words.specs.declared.commands.Verb.TheVariants.{Run, Step, Check, Project, Replay, Gen, Upgrade, Mend, Drive, Resume, Monitor, Sessions}
use Rattle.command_words.proofs.Splitting.{both}

-- ---- numbers

digit_small : (byte : ℕ) → is_digit byte ≡ true → digit_value byte < 10
digit_small byte is = grind (arith, nat_tests)

digits_all : (text : Text) → list_all is_digit text ≡ true → AllDigits 10 text
digits_all [] all = tt
digits_all (byte ∷ rest) all =
    let parts = both (is_digit byte) (list_all is_digit rest) all in
    (digit_small byte parts.0, digits_all rest parts.1)

plus_no_digit : (byte : ℕ) → is_digit byte ≡ true → (byte == 43) ≡ false
plus_no_digit byte is = grind (arith, nat_tests)

no_plus : (text : Text) → list_all is_digit text ≡ true → without_leading_plus text ≡ text
no_plus [] all = refl
no_plus (byte ∷ rest) all = rw (plus_no_digit byte (both (is_digit byte) (list_all is_digit rest) all).0) refl

some_bytes : (n : ℕ) → nat_lt 0 n ≡ true → 0 < n
some_bytes n is = grind (arith, nat_tests)

at_most : (n most : ℕ) → nat_le n most ≡ true → most < 2 ^ 64 → n < 2 ^ 64
at_most n most is low = let under : n ≤ most = grind (arith, nat_tests) in omega arith

-- a numeral that is no number of 64 bits lies in no bounds of 64 bits
pub number_none : (least most : ℕ) (text : Text) → most < 2 ^ 64 → are_digits text ≡ true
    → (IsNumeral 10 (without_leading_plus text) × (digits_value 10 (without_leading_plus text) < 2 ^ 64) → ⊥)
    → None ≡ number_within least most text
number_none least most text low digits none =
    go (nat_le least (digits_value 10 text)) (nat_le (digits_value 10 text) most) refl
    ∙ sym (ap (λ b. cond (b && (nat_le least (digits_value 10 text) && nat_le (digits_value 10 text) most)) (Some (digits_value 10 text)) None) digits)
  where
    fits : digits_value 10 text < 2 ^ 64 → ⊥
    fits small =
        let parts = both (nat_lt 0 (length text)) (list_all is_digit text) digits in
        let same = no_plus text parts.1 in
        none (rw same (some_bytes (length text) parts.0, digits_all text parts.1), rw same small)

    go : (c d : Bool) → nat_le (digits_value 10 text) most ≡ d → None ≡ cond (c && d) (Some (digits_value 10 text)) None
    go true true e = absurd (fits (at_most (digits_value 10 text) most e low))
    go true false e = refl
    go false d e = refl

-- ---- the role

found_any : {X : Type 0} (p : X → Bool) (xs : List X) → is_some (find p xs) ≡ list_any p xs
found_any p [] = refl
found_any p (x ∷ xs) = go (p x) (found_any p xs)
  where
    go : (b : Bool) → is_some (find p xs) ≡ list_any p xs → is_some (cond b (Some x) (find p xs)) ≡ (b || list_any p xs)
    go true later = refl
    go false later = later

pub reserved_word : (text : Text) → is_some (word_of text) ≡ is_reserved text
unfolding word_of is_reserved reserved_words
reserved_word text = found_any (λ word. bytes_eq text (word_spelling word)) tokens_words

pub role_reserved : (role : Text) → is_reserved role ≡ true → None ≡ monitor_by role
role_reserved role is = rw (is, and-false) refl

pub role_named : (role name : Text) → is_reserved role ≡ false → is_name role ≡ true → name ≡ role
    → Some (command.Monitor (record { 0 = name })) ≡ monitor_by role
role_named role name free named same = rw (free, named, same) refl

pub is_not_refused : (role : Text) → (is_name role ≡ false → ⊥) → is_name role ≡ true
is_not_refused role refused = go (is_name role) refl
  where
    go : (b : Bool) → is_name role ≡ b → is_name role ≡ true
    go true e = e
    go false e = absurd (refused e)

-- ---- the texts

not_all : (words : List (Vec ℕ Global)) (i : ℕ) (d : Vec ℕ Global) → i < length words → is_utf8 (slice_index_or words i d).items ≡ false
    → list_all is_utf8 (word_texts words) ≡ false
not_all [] i d inside bad = absurd (omega arith)
not_all (word ∷ words) zero d inside bad = rw bad refl
not_all (word ∷ words) (suc i) d inside bad = rw (not_all words i d (omega arith) bad, and-false) refl

is_no_text : (bytes : Text) → (IsUtf8 bytes → ⊥) → is_utf8 bytes ≡ false
is_no_text bytes no_text = go (is_utf8 bytes) refl
  where
    go : (b : Bool) → is_utf8 bytes ≡ b → is_utf8 bytes ≡ false
    go true e = absurd (no_text (IsUtf8-from_is_utf8 bytes e))
    go false e = e

pub word_fails : (words : List (Vec ℕ Global)) (i : ℕ) (word : Vec ℕ Global) (bytes : Text) → i < length words
    → word ≡ slice_index_or words i word → bytes ≡ word.items → (IsUtf8 bytes → ⊥) → list_all is_utf8 (word_texts words) ≡ false
word_fails words i word bytes inside is same no_text =
    not_all words i word inside (ap (λ (w : Vec ℕ Global). is_utf8 w.items) (sym is) ∙ ap is_utf8 (sym same) ∙ is_no_text bytes no_text)

all_push : (words : List Text) (word : Text) → list_all is_utf8 words ≡ true → is_utf8 word ≡ true
    → list_all is_utf8 (words ++ word ∷ []) ≡ true
all_push [] word all is = rw is refl
all_push (first ∷ words) word all is =
    let parts = both (is_utf8 first) (list_all is_utf8 words) all in
    rw (parts.0, all_push words word parts.1 is) refl

module _ (words : List (Vec ℕ Global)) (i : ℕ) (word : Vec ℕ Global) (inside : i < length words) (is : word ≡ slice_index_or words i word) where
  one_word : word_texts (take (i + 1) words) ≡ word_texts (take i words) ++ word.items ∷ []
  one_word = map_more (λ (w : Vec ℕ Global). w.items) words i word inside
      ∙ sym (ap (λ (w : Vec ℕ Global). word_texts (take i words) ++ w.items ∷ []) is)

  pub texts_more : (before after : List (Bor Text)) (text : Bor Text) → after ≡ before ++ text ∷ [] → text.now ≡ word.items
      → map (λ t. t.now) before ≡ word_texts (take i words) → map (λ t. t.now) after ≡ word_texts (take (i + 1) words)
  texts_more before after text added same so_far =
      ap (map (λ (t : Bor Text). t.now)) added ∙ map-append (λ (t : Bor Text). t.now) before (text ∷ [])
      ∙ ap (λ (ts : List Text). ts ++ text.now ∷ []) so_far ∙ ap (λ (t : Text). word_texts (take i words) ++ t ∷ []) same ∙ sym one_word

  pub utf8_more : IsUtf8 word.items → list_all is_utf8 (word_texts (take i words)) ≡ true
      → list_all is_utf8 (word_texts (take (i + 1) words)) ≡ true
  utf8_more utf8 so_far = ap (list_all is_utf8) one_word ∙ all_push (word_texts (take i words)) word.items so_far (is_utf8-from_IsUtf8 word.items utf8)

-- ---- the command

text_of-missing : (given : GivenTexts) (name : Text) → is_given given name ≡ false → text_of given name ≡ None
text_of-missing [] name none = refl
text_of-missing (pair ∷ given) name none = go (bytes_eq pair.0 name) none (text_of-missing given name)
  where
    go : (b : Bool) → (b || is_given given name) ≡ false → (is_given given name ≡ false → text_of given name ≡ None)
        → option_map (λ p. p.1) (cond b (Some pair) (find (λ p. bytes_eq p.0 name) given)) ≡ None
    go true e later = cc
    go false e later = later e

-- what is shown of a name that is no flag, and of a flag
text_shown : (known : KnownOptions) (given : GivenTexts) (name : Text) → is_flag known name ≡ false → shown_text known given name ≡ text_of given name
text_shown known given name no_flag = go (is_given given name) refl
  where
    go : (b : Bool) → is_given given name ≡ b
        → cond b (text_of given name) (cond (is_flag known name) (Some (codes "false")) None) ≡ text_of given name
    go true is = refl
    go false is = rw no_flag (sym (text_of-missing given name is))

flag_shown : (known : KnownOptions) (given : GivenTexts) (name : Text) → is_set (shown_text known given name) ≡ is_set (text_of given name)
flag_shown known given name = go (is_given given name) refl (is_flag known name)
  where
    go : (b : Bool) → is_given given name ≡ b → (f : Bool)
        → is_set (cond b (text_of given name) (cond f (Some (codes "false")) None)) ≡ is_set (text_of given name)
    go true is f = refl
    go false is true = sym (ap is_set (text_of-missing given name is))
    go false is false = sym (ap is_set (text_of-missing given name is))

module _ (given : GivenTexts) (texts : Texts) where
  module _ (verb : Verb) (shows : (name : Text) → texts name ≡ shown_text (known_options verb) given name) where
    text_same : (name : Text) → is_flag (known_options verb) name ≡ false → texts name ≡ text_of given name
    text_same name no_flag = shows name ∙ text_shown (known_options verb) given name no_flag

    flag_same : (name : Text) → is_set (texts name) ≡ is_set (text_of given name)
    flag_same name = ap is_set (shows name) ∙ flag_shown (known_options verb) given name

    options_same : is_flag (known_options verb) (codes "seed") ≡ false → is_flag (known_options verb) (codes "steps") ≡ false
        → is_flag (known_options verb) (codes "workers") ≡ false → options_of verb texts ≡ options_of verb (text_of given)
    options_same seed steps workers =
        rw (
          text_same (codes "seed") seed,
          text_same (codes "steps") steps,
          text_same (codes "workers") workers,
          flag_same (codes "aux"),
          flag_same (codes "json"),
        ) refl

  command_same : (verb : Verb) → ((name : Text) → texts name ≡ shown_text (known_options verb) given name)
      → command_with verb texts ≡ command_with verb (text_of given)
  command_same Run shows = ap (option_map command.Run) (options_same Run shows refl refl refl)
  command_same Step shows = ap (option_map command.Step) (options_same Step shows refl refl refl)
  command_same Check shows = refl
  command_same Project shows = refl
  command_same Replay shows = refl
  command_same Gen shows = rw (text_same Gen shows (codes "size") refl, text_same Gen shows (codes "number") refl) refl
  command_same Upgrade shows = refl
  command_same Mend shows = refl
  command_same Drive shows = ap (option_map command.Drive) (options_same Drive shows refl refl refl)
  command_same Resume shows = ap (option_map command.Resume) (options_same Resume shows refl refl refl)
  command_same Monitor shows = rw (text_same Monitor shows (codes "role") refl) refl
  command_same Sessions shows = ap (option_map command.Sessions) (options_same Sessions shows refl refl refl)

pub command_here : (verb : Verb) (words : List Text) (matches : ArgMatches) → Splits verb words (Some matches)
    → command_with verb (first_value (found_of matches)) ≡ command_by words verb
command_here verb words matches splits =
    command_same splits.0 (first_value (found_of matches)) verb splits.2
    ∙ sym (ap (Rattle.std.specs.Prelude.option_and_then (λ given. command_with verb (text_of given))) splits.1)
