-- `clap`'s walk over the words of a command with no subcommand, one word at a time.
use Rattle.std.proofs.Common.{◌≡◌, ℕ, ◌+◌, min, Bool, true, false, cond, List, [], ◌∷◌, Option, Some, None, refl, codes, inl, inr, ◌⊎◌}
use Rattle.std.specs.Prelude.{slice_get}
use Rattle.std.proofs.Math.Bool.{and-false}
use Rattle.std.specs.Str.{bytes_eq, chars}
use Rattle.clap.specs.Lexer.{long_of, short_of, usize_max}
use Rattle.clap.specs.Walk.{Held, Row, Rule, Text, Waiting, Walk, arg_by_id, arg_by_index, arg_by_long, arg_by_short, bundle_met, idle, option, reacted, settled, settled_rows, takes_values, walked}
use Rattle.clap.specs.Simple.{Shape, new_shape}
use Rattle.clap.specs.Faults.{flags_fault, react_fault, settle_fault, turn_fault}
use Rattle.command_words.proofs.Rules.{passes, or_else-nil, option_rule, word_rule}

-- the built command of these arguments
abbrev pub shape : List Rule → Shape
shape rules = record (new_shape (codes "aioc")) {
  rules = rules;
  no_binary_name = true;
  disable_help_flag = true;
  disable_help_subcommand = true;
  is_built = true;
}

abbrev pub hold : List Row → Option (Text × List Text) → Held
hold rows pending = record { rows = rows; pending = pending; skip = 0 }

-- the walk between two words
abbrev pub state : Waiting → Held → ℕ → Bool → Walk
state waiting held place trailing =
    record { held = held; waiting = waiting; position = place; is_trailing = trailing; stopped = None }

-- the rows at the end of a walk that has no fault
unfoldable pub run : List Rule → Walk → List Text → Option (List Row)
run c w [] = cond (passes (settle_fault c false w.held)) (Some (settled c w.held).rows) None
run c w (word ∷ rest) = cond (passes (turn_fault (shape c) [] w word)) (run c (walked c [] w word) rest) None

abbrev pub dashes : Text
dashes = 45 ∷ 45 ∷ []

-- what takes a word of this place: nothing, or a positional word
abbrev pub IsPlace : List Rule → ℕ → Type 0
IsPlace c place = (arg_by_index c place ≡ None) ⊎ ((name : Text) × (k : ℕ) × (arg_by_index c place ≡ Some (word_rule name k)))

module _ (c : List Rule) (rows : List Row) (pending : Option (Text × List Text)) (place : ℕ) (word : Text) (rest : List Text) where
  pub run_ends : bytes_eq word dashes ≡ true
      → run c (state idle (hold rows pending) place false) (word ∷ rest) ≡ run c (state idle (hold rows pending) place true) rest
  unfolding run walked
  run_ends is_dashes = rw is_dashes refl

  pub run_unknown : (name : Text) (value : Option Text) → bytes_eq word dashes ≡ false → long_of word ≡ Some (name, value)
      → arg_by_long c name ≡ None → run c (state idle (hold rows pending) place false) (word ∷ rest) ≡ None
  unfolding run walked
  run_unknown name value no_dashes is_long none = rw (no_dashes, is_long, none) refl

  pub run_joined : (name value : Text) (rule : Rule) → bytes_eq word dashes ≡ false → long_of word ≡ Some (name, Some value)
      → arg_by_long c name ≡ Some rule → takes_values rule ≡ true
      → run c (state idle (hold rows pending) place false) (word ∷ rest)
      ≡ cond (passes (react_fault c false rule (value ∷ []) (hold rows pending)))
      (run c (state idle (reacted c rule (value ∷ []) (hold rows pending)) place false) rest) None
  unfolding run walked
  run_joined name value rule no_dashes is_long is takes = rw (no_dashes, is_long, is, takes, or_else-nil) refl

  pub run_flag : (name : Text) (rule : Rule) → bytes_eq word dashes ≡ false → long_of word ≡ Some (name, None)
      → arg_by_long c name ≡ Some rule → takes_values rule ≡ false
      → run c (state idle (hold rows pending) place false) (word ∷ rest)
      ≡ cond (passes (react_fault c false rule [] (hold rows pending)))
      (run c (state idle (reacted c rule [] (hold rows pending)) place false) rest) None
  unfolding run walked
  run_flag name rule no_dashes is_long is takes = rw (no_dashes, is_long, is, takes, or_else-nil) refl

  pub run_flag_joined : (name value : Text) (rule : Rule) → bytes_eq word dashes ≡ false → long_of word ≡ Some (name, Some value)
      → arg_by_long c name ≡ Some rule → takes_values rule ≡ false
      → run c (state idle (hold rows pending) place false) (word ∷ rest) ≡ None
  unfolding run walked
  run_flag_joined name value rule no_dashes is_long is takes = rw (no_dashes, is_long, is, takes) refl

  pub run_opens : (name : Text) (rule : Rule) → bytes_eq word dashes ≡ false → long_of word ≡ Some (name, None)
      → arg_by_long c name ≡ Some rule → takes_values rule ≡ true
      → run c (state idle (hold rows pending) place false) (word ∷ rest)
      ≡ cond (passes (settle_fault c false (hold rows pending)))
      (run c (state (option rule.id) (hold (settled_rows c pending rows) (Some (rule.id, []))) place false) rest) None
  unfolding run walked
  run_opens name rule no_dashes is_long is takes = rw (no_dashes, is_long, is, takes, or_else-nil) refl

  pub run_short : (byte : ℕ) (bytes : Text) (char : ℕ) → bytes_eq word dashes ≡ false → long_of word ≡ None
      → short_of word ≡ Some (byte ∷ bytes) → slice_get (chars (byte ∷ bytes)) 0 ≡ Some char → arg_by_short c char ≡ None
      → run c (state idle (hold rows pending) place false) (word ∷ rest) ≡ None
  unfolding run walked flags_fault bundle_met
  run_short byte bytes char no_dashes no_long is_short has_char none = rw (no_dashes, no_long, is_short, has_char, none) refl

  pub run_stray : bytes_eq word dashes ≡ false → long_of word ≡ None → short_of word ≡ None → arg_by_index c place ≡ None
      → run c (state idle (hold rows pending) place false) (word ∷ rest) ≡ None
  unfolding run walked
  run_stray no_dashes no_long no_short none = rw (no_dashes, no_long, no_short, none) refl

  pub run_plain : (name : Text) (k : ℕ) → bytes_eq word dashes ≡ false → long_of word ≡ None → short_of word ≡ None
      → arg_by_index c place ≡ Some (word_rule name k)
      → run c (state idle (hold rows pending) place false) (word ∷ rest)
      ≡ cond (passes (settle_fault c false (hold rows pending)))
      (run c (state idle (hold (settled_rows c pending rows) (Some (name, word ∷ []))) (min (place + 1) usize_max) false) rest) None
  unfolding run walked
  run_plain name k no_dashes no_long no_short is = rw (no_dashes, no_long, no_short, is, and-false) refl

  pub run_last : arg_by_index c place ≡ None
      → run c (state idle (hold rows pending) place true) (word ∷ rest) ≡ None
  unfolding run walked
  run_last none = rw none refl

  pub run_trailing : (name : Text) (k : ℕ) → arg_by_index c place ≡ Some (word_rule name k)
      → run c (state idle (hold rows pending) place true) (word ∷ rest)
      ≡ cond (passes (settle_fault c false (hold rows pending)))
      (run c (state idle (hold (settled_rows c pending rows) (Some (name, word ∷ []))) (min (place + 1) usize_max) true) rest) None
  unfolding run walked
  run_trailing name k is = rw (is, and-false) refl

-- ---- behind an option whose value is the next word

module _ (c : List Rule) (rows : List Row) (id : Text) (place : ℕ) (has_option : arg_by_id c id ≡ Some (option_rule id true)) where
  pub open_nil : (trailing : Bool) → run c (state (option id) (hold rows (Some (id, []))) place trailing) [] ≡ None
  unfolding run
  open_nil trailing = rw has_option refl

  pub open_trailing : (words : List Text) → IsPlace c place
      → run c (state (option id) (hold rows (Some (id, []))) place true) words ≡ None
  unfolding run walked
  open_trailing [] at_place = rw has_option refl
  open_trailing (word ∷ rest) (inl none) = rw none refl
  open_trailing (word ∷ rest) (inr (name, k, is)) = rw (is, and-false, has_option) refl

module _ (c : List Rule) (rows : List Row) (id : Text) (place : ℕ) (word : Text) (rest : List Text)
    (has_option : arg_by_id c id ≡ Some (option_rule id true)) where
  pub open_ends : bytes_eq word dashes ≡ true
      → run c (state (option id) (hold rows (Some (id, []))) place false) (word ∷ rest)
      ≡ run c (state (option id) (hold rows (Some (id, []))) place true) rest
  unfolding run walked
  open_ends is_dashes = rw is_dashes refl

  pub open_unknown : (name : Text) (value : Option Text) → bytes_eq word dashes ≡ false → long_of word ≡ Some (name, value)
      → arg_by_long c name ≡ None → run c (state (option id) (hold rows (Some (id, []))) place false) (word ∷ rest) ≡ None
  unfolding run walked
  open_unknown name value no_dashes is_long none = rw (no_dashes, is_long, none) refl

  pub open_long : (name : Text) (value : Option Text) (takes : Bool) → bytes_eq word dashes ≡ false
      → long_of word ≡ Some (name, value) → arg_by_long c name ≡ Some (option_rule name takes)
      → run c (state (option id) (hold rows (Some (id, []))) place false) (word ∷ rest) ≡ None
  unfolding run walked
  open_long name (Some value) true no_dashes is_long is = rw (no_dashes, is_long, is, has_option) refl
  open_long name None true no_dashes is_long is = rw (no_dashes, is_long, is, has_option) refl
  open_long name (Some value) false no_dashes is_long is = rw (no_dashes, is_long, is) refl
  open_long name None false no_dashes is_long is = rw (no_dashes, is_long, is, has_option) refl

  pub open_short : (byte : ℕ) (bytes : Text) (char : ℕ) → bytes_eq word dashes ≡ false → long_of word ≡ None
      → short_of word ≡ Some (byte ∷ bytes) → slice_get (chars (byte ∷ bytes)) 0 ≡ Some char → arg_by_short c char ≡ None
      → run c (state (option id) (hold rows (Some (id, []))) place false) (word ∷ rest) ≡ None
  unfolding run walked flags_fault bundle_met
  open_short byte bytes char no_dashes no_long is_short has_char none = rw (no_dashes, no_long, is_short, has_char, none) refl

  pub open_plain : bytes_eq id id ≡ true → bytes_eq word dashes ≡ false → long_of word ≡ None → short_of word ≡ None
      → run c (state (option id) (hold rows (Some (id, []))) place false) (word ∷ rest)
      ≡ run c (state idle (hold rows (Some (id, word ∷ []))) place false) rest
  unfolding run walked
  open_plain same no_dashes no_long no_short = rw (no_dashes, no_long, no_short, has_option, same) refl
