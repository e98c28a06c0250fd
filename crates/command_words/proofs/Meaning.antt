-- The walk gives what the definition of the words gives.
use Rattle.std.proofs.Common.{◌≡◌, ◌∙◌, ℕ, ◌+◌, min, true, false, cond, List, [], ◌∷◌, map, Option, Some, None, refl, sym, ap, inl, inr}
use Rattle.std.specs.Prelude.{option_map, option_and_then}
use Rattle.std.specs.Str.{bytes_eq}
use Rattle.std.proofs.lemmas.Slice.Eq.{bytes_eq-Decides}
use Rattle.clap.specs.Lexer.{long_of, short_of, usize_max}
use Rattle.clap.specs.Walk.{Row, Rule, Text, arg_by_id, arg_by_index, idle, option, settled_rows, used}
use Rattle.clap.specs.Faults.{settle_fault, use_fault}
use Rattle.command_words.specs.Words.{KnownOptions, GivenTexts, Item, named, word, is_plain, text_sight, items, put_first, first, with_given, with_positional}
use Rattle.command_words.proofs.Rules.{Uses, passes, option_rule, word_rule, rows_for, option_uses, flag_uses, word_uses, use_given}
use Rattle.command_words.proofs.Walking.{IsPlace, dashes, hold, run, state, run_ends, run_flag, run_flag_joined, run_joined, run_last, run_opens, run_plain, run_short, run_stray, run_trailing, run_unknown, open_nil, open_trailing, open_ends, open_unknown, open_long, open_short, open_plain}
use Rattle.command_words.proofs.Sights.{Reads, Seen, seen, end, unknown, joined, flag, flag_joined, opening, short, plain}
use Rattle.command_words.proofs.Settling.{AreTexts, settles_at_once, trailing_settles}

-- from this place on stand the arguments of these names
abbrev pub Places : List Rule → ℕ → List Text → Type 0
Places c place [] = arg_by_index c place ≡ None
Places c place (name ∷ names) = (arg_by_index c place ≡ Some (word_rule name place)) × (arg_by_id c name ≡ Some (word_rule name place))
    × Places c (min (place + 1) usize_max) names

pub place_of : (c : List Rule) (place : ℕ) (names : List Text) → Places c place names → IsPlace c place
place_of c place [] at_place = inl at_place
place_of c place (name ∷ names) at_place = inr (name, place, at_place.0)

-- an item more
and_then_before : (names : List Text) (given : GivenTexts) (item : Item) (more : Option GivenTexts) (next : List Text) (found : Option (List Item))
    → ((rest : List Item) → with_positional names given (item ∷ rest) ≡ option_and_then (λ g. with_positional next g rest) more)
    → option_and_then (with_positional names given) (put_first item found) ≡ option_and_then (λ g. option_and_then (with_positional next g) found) more
and_then_before names given item None next None by = refl
and_then_before names given item (Some g) next None by = refl
and_then_before names given item None next (Some rest) by = by rest
and_then_before names given item (Some g) next (Some rest) by = by rest

-- both go on alike from what is given after a use
same_after : (next : List Row → Option (List Row)) (names : List Text) (found : Option (List Item)) (more : Option GivenTexts)
    → ((given : GivenTexts) → next (rows_for given) ≡ option_map rows_for (option_and_then (with_positional names given) found))
    → option_and_then (λ given. next (rows_for given)) more
    ≡ option_map rows_for (option_and_then (λ given. option_and_then (with_positional names given) found) more)
same_after next names found None by = refl
same_after next names found (Some given) by = by given

module _ (known : KnownOptions) (c : List Rule) (reads : Reads known c) where
  -- a use, and then the rest of the words
  use_then : (rule : Rule) (values : List Text) (name text : Text) (given : GivenTexts) (names next_names : List Text) (item : Item)
      (found : Option (List Item)) (next : List Row → Option (List Row)) → Uses rule values name text
      → ((rest : List Item) → with_positional names given (item ∷ rest) ≡ option_and_then (λ g. with_positional next_names g rest) (with_given name text given))
      → ((more : GivenTexts) → next (rows_for more) ≡ option_map rows_for (option_and_then (with_positional next_names more) found))
      → cond (passes (use_fault false rule values (rows_for given))) (next (used rule values (rows_for given))) None
      ≡ option_map rows_for (option_and_then (with_positional names given) (put_first item found))
  use_then rule values name text given names next_names item found next uses by later =
      use_given rule values name text given next uses ∙ same_after next next_names found (with_given name text given) later
      ∙ sym (ap (option_map rows_for) (and_then_before names given item (with_given name text given) next_names found by))

  -- a pending use, which comes to its fault and its rows
  pending_is : (id : Text) (values : List Text) (rule : Rule) (rows : List Row) (next : List Row → Option (List Row)) → arg_by_id c id ≡ Some rule
      → cond (passes (settle_fault c false (hold rows (Some (id, values))))) (next (settled_rows c (Some (id, values)) rows)) None
      ≡ cond (passes (use_fault false rule values rows)) (next (used rule values rows)) None
  pending_is id values rule rows next is = rw is refl

  -- behind `--`
  pub trailing_given : (words names : List Text) (given : GivenTexts) (place : ℕ) → Places c place names
      → run c (state idle (hold (rows_for given) None) place true) words
      ≡ option_map rows_for (option_and_then (with_positional names given) (Some (map word words)))
  unfolding run
  trailing_given [] names given place at_place = nothing names
    where
      nothing : (names : List Text) → Some (rows_for given) ≡ option_map rows_for (with_positional names given [])
      nothing [] = refl
      nothing (name ∷ others) = refl
  trailing_given (text ∷ rest) [] given place at_place = run_last c (rows_for given) None place text rest at_place
  trailing_given (text ∷ rest) (name ∷ names) given place at_place =
      let later = min (place + 1) usize_max in
      let next : List Row → Option (List Row) = λ rows. run c (state idle (hold rows None) later true) rest in
      run_trailing c (rows_for given) None place text rest name place at_place.0
      ∙ trailing_settles known c reads (rows_for given) (Some (name, text ∷ [])) later rest (place_of c later names at_place.2)
      ∙ pending_is name (text ∷ []) (word_rule name place) (rows_for given) next at_place.1
      ∙ use_then (word_rule name place) (text ∷ []) name text given (name ∷ names) names (word text) (Some (map word rest)) next
      (word_uses name text place) (λ others. refl) (λ more. trailing_given rest names more later at_place.2)

  -- a positional word
  plain_given : (text : Text) (rest names : List Text) (given : GivenTexts) (place : ℕ) (found : Option (List Item)) → AreTexts rest
      → Places c place names → bytes_eq text dashes ≡ false → long_of text ≡ None → short_of text ≡ None
      → ((more : GivenTexts) (names : List Text) (place : ℕ) → Places c place names
      → run c (state idle (hold (rows_for more) None) place false) rest ≡ option_map rows_for (option_and_then (with_positional names more) found))
      → run c (state idle (hold (rows_for given) None) place false) (text ∷ rest)
      ≡ option_map rows_for (option_and_then (with_positional names given) (put_first (word text) found))
  plain_given text rest [] given place found texts at_place no_dashes no_long no_short later =
      run_stray c (rows_for given) None place text rest no_dashes no_long no_short at_place ∙ nowhere found
    where
      nowhere : (found : Option (List Item)) → None ≡ option_map rows_for (option_and_then (with_positional [] given) (put_first (word text) found))
      nowhere None = refl
      nowhere (Some others) = refl
  plain_given text rest (name ∷ names) given place found texts at_place no_dashes no_long no_short later =
      let following = min (place + 1) usize_max in
      let next : List Row → Option (List Row) = λ rows. run c (state idle (hold rows None) following false) rest in
      run_plain c (rows_for given) None place text rest name place no_dashes no_long no_short at_place.0
      ∙ settles_at_once known c reads (rows_for given) (Some (name, text ∷ [])) following rest texts (place_of c following names at_place.2)
      ∙ pending_is name (text ∷ []) (word_rule name place) (rows_for given) next at_place.1
      ∙ use_then (word_rule name place) (text ∷ []) name text given (name ∷ names) names (word text) found next
      (word_uses name text place) (λ others. refl) (λ more. later more names following at_place.2)

  -- an item of one word
  named_given : (name text : Text) (rule : Rule) (values : List Text) (rest names : List Text) (given : GivenTexts) (place : ℕ)
      (found : Option (List Item)) → Uses rule values name text → Places c place names
      → ((more : GivenTexts) (names : List Text) (place : ℕ) → Places c place names
      → run c (state idle (hold (rows_for more) None) place false) rest ≡ option_map rows_for (option_and_then (with_positional names more) found))
      → cond (passes (use_fault false rule values (rows_for given)))
      (run c (state idle (hold (used rule values (rows_for given)) None) place false) rest) None
      ≡ option_map rows_for (option_and_then (with_positional names given) (put_first (named name text) found))
  named_given name text rule values rest names given place found uses at_place later =
      use_then rule values name text given names names (named name text) found
      (λ rows. run c (state idle (hold rows None) place false) rest) uses (named_next names)
      (λ more. later more names place at_place)
    where
      named_next : (names : List Text) (others : List Item)
          → with_positional names given (named name text ∷ others) ≡ option_and_then (λ g. with_positional names g others) (with_given name text given)
      named_next [] others = refl
      named_next (place_name ∷ names) others = refl

  -- what the first word comes to, by what it is, where the rest is known
  first_given : (text : Text) (rest names : List Text) (given : GivenTexts) (place : ℕ) (found : Option (List Item))
      (valued : Text → Option (List Item)) → Seen known c text → AreTexts rest → Places c place names
      → ((more : GivenTexts) (names : List Text) (place : ℕ) → Places c place names
      → run c (state idle (hold (rows_for more) None) place false) rest ≡ option_map rows_for (option_and_then (with_positional names more) found))
      → ((name : Text) → arg_by_id c name ≡ Some (option_rule name true)
      → run c (state (option name) (hold (rows_for given) (Some (name, []))) place false) rest
      ≡ option_map rows_for (option_and_then (with_positional names given) (valued name)))
      → run c (state idle (hold (rows_for given) None) place false) (text ∷ rest)
      ≡ option_map rows_for (option_and_then (with_positional names given) (first (text_sight known text) rest found valued))
  first_given text rest names given place found valued (end is sees no_plain) texts at_place later opened =
      rw sees (run_ends c (rows_for given) None place text rest is ∙ trailing_given rest names given place at_place)
  first_given text rest names given place found valued (unknown name value other_word is_long none sees no_plain) texts at_place later opened =
      rw sees (run_unknown c (rows_for given) None place text rest name value other_word is_long none)
  first_given text rest names given place found valued (joined name value other_word is_long is sees no_plain) texts at_place later opened =
      rw sees (run_joined c (rows_for given) None place text rest name value (option_rule name true) other_word is_long is refl
      ∙ named_given name value (option_rule name true) (value ∷ []) rest names given place found (option_uses name value) at_place later)
  first_given text rest names given place found valued (flag name other_word is_long is sees no_plain) texts at_place later opened =
      rw sees (run_flag c (rows_for given) None place text rest name (option_rule name false) other_word is_long is refl
      ∙ named_given name _ (option_rule name false) [] rest names given place found (flag_uses name) at_place later)
  first_given text rest names given place found valued (flag_joined name value other_word is_long is sees no_plain) texts at_place later opened =
      rw sees (run_flag_joined c (rows_for given) None place text rest name value (option_rule name false) other_word is_long is refl)
  first_given text rest names given place found valued (opening name other_word is_long is has sees no_plain) texts at_place later opened =
      rw sees (run_opens c (rows_for given) None place text rest name (option_rule name true) other_word is_long is refl ∙ opened name has)
  first_given text rest names given place found valued (short byte bytes char other_word no_long is_short has_char none sees no_plain) texts at_place later opened =
      rw sees (run_short c (rows_for given) None place text rest byte bytes char other_word no_long is_short has_char none)
  first_given text rest names given place found valued (plain other_word no_long no_short sees plain_word) texts at_place later opened =
      rw sees (plain_given text rest names given place found texts at_place other_word no_long no_short later)

  -- the word behind an option that takes a value
  value_given : (value : Text) (rest names : List Text) (given : GivenTexts) (place : ℕ) (found : Option (List Item)) (name : Text)
      → Seen known c value → AreTexts rest → Places c place names → arg_by_id c name ≡ Some (option_rule name true)
      → ((more : GivenTexts) (names : List Text) (place : ℕ) → Places c place names
      → run c (state idle (hold (rows_for more) None) place false) rest ≡ option_map rows_for (option_and_then (with_positional names more) found))
      → run c (state (option name) (hold (rows_for given) (Some (name, []))) place false) (value ∷ rest)
      ≡ option_map rows_for (option_and_then (with_positional names given) (cond (is_plain value) (put_first (named name value) found) None))
  value_given value rest names given place found name (end is sees no_plain) texts at_place has later =
      rw no_plain (open_ends c (rows_for given) name place value rest has is
      ∙ open_trailing c (rows_for given) name place has rest (place_of c place names at_place))
  value_given value rest names given place found name (unknown other v other_word is_long none sees no_plain) texts at_place has later =
      rw no_plain (open_unknown c (rows_for given) name place value rest has other v other_word is_long none)
  value_given value rest names given place found name (joined other v other_word is_long is sees no_plain) texts at_place has later =
      rw no_plain (open_long c (rows_for given) name place value rest has other (Some v) true other_word is_long is)
  value_given value rest names given place found name (flag other other_word is_long is sees no_plain) texts at_place has later =
      rw no_plain (open_long c (rows_for given) name place value rest has other None false other_word is_long is)
  value_given value rest names given place found name (flag_joined other v other_word is_long is sees no_plain) texts at_place has later =
      rw no_plain (open_long c (rows_for given) name place value rest has other (Some v) false other_word is_long is)
  value_given value rest names given place found name (opening other other_word is_long is has_other sees no_plain) texts at_place has later =
      rw no_plain (open_long c (rows_for given) name place value rest has other None true other_word is_long is)
  value_given value rest names given place found name (short byte bytes char other_word no_long is_short has_char none sees no_plain) texts at_place has later =
      rw no_plain (open_short c (rows_for given) name place value rest has byte bytes char other_word no_long is_short has_char none)
  value_given value rest names given place found name (plain other_word no_long no_short sees plain_word) texts at_place has later =
      let next : List Row → Option (List Row) = λ rows. run c (state idle (hold rows None) place false) rest in
      rw plain_word (open_plain c (rows_for given) name place value rest has ((bytes_eq-Decides name name).1 refl) other_word no_long no_short
      ∙ settles_at_once known c reads (rows_for given) (Some (name, value ∷ [])) place rest texts (place_of c place names at_place)
      ∙ pending_is name (value ∷ []) (option_rule name true) (rows_for given) next has
      ∙ named_given name value (option_rule name true) (value ∷ []) rest names given place found (option_uses name value) at_place later)

  no_words : (given : GivenTexts) (names : List Text) (place : ℕ) → Places c place names
      → run c (state idle (hold (rows_for given) None) place false) []
      ≡ option_map rows_for (option_and_then (with_positional names given) (Some []))
  unfolding run
  no_words given [] place at_place = refl
  no_words given (name ∷ names) place at_place = refl

  -- all words
  pub words_given : (words : List Text) (given : GivenTexts) (names : List Text) (place : ℕ) → AreTexts words → Places c place names
      → run c (state idle (hold (rows_for given) None) place false) words
      ≡ option_map rows_for (option_and_then (with_positional names given) (items known words))
  unfolding AreTexts
  words_given [] given names place texts at_place = no_words given names place at_place
  words_given (text ∷ []) given names place texts at_place =
      first_given text [] names given place (Some []) (λ name. None) (seen known c reads text texts.0) tt at_place
      no_words (λ name has. open_nil c (rows_for given) name place has false)
  words_given (text ∷ value ∷ rest) given names place texts at_place =
      first_given text (value ∷ rest) names given place (items known (value ∷ rest)) _ (seen known c reads text texts.0) texts.1 at_place
      (λ more names place at_place. words_given (value ∷ rest) more names place texts.1 at_place)
      (λ name has. value_given value rest names given place (items known rest) name (seen known c reads value texts.1.0) texts.1.1 at_place has
      (λ more names place at_place. words_given rest more names place texts.1.1 at_place))
