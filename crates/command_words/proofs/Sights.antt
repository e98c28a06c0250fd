-- What a word is by the definition, beside what `clap` makes of it.
use Rattle.std.proofs.Common.{◌≡◌, ◌∙◌, ℕ, ◌==◌, Bool, true, false, List, [], ◌∷◌, Option, Some, None, refl, ap, codes}
use Rattle.std.specs.Prelude.{option_map, slice_get}
use Rattle.std.specs.Str.{IsUtf8, bytes_eq, chars}
use Rattle.clap.specs.Lexer.{long_of, short_of}
use Rattle.clap.specs.Walk.{Rule, arg_by_id, arg_by_long, arg_by_short}
use Rattle.command_words.specs.Words.{Text, KnownOptions, named, word, is_plain, text_sight, name_in, value_behind_equals, ends, whole, opens, wrong, takes_value, long_sight}
use Rattle.command_words.proofs.Rules.{option_rule}
use Rattle.command_words.proofs.Walking.{dashes}
use Rattle.command_words.proofs.Characters.{has_char}

-- the arguments are these options, and perhaps positional words
pub record Reads (known : KnownOptions) (c : List Rule) : Type 0 where
  pub long : (name : Text) → arg_by_long c name ≡ option_map (option_rule name) (takes_value known name)
  pub by_id : (name : Text) (takes : Bool) → takes_value known name ≡ Some takes → arg_by_id c name ≡ Some (option_rule name takes)
  pub short : (char : ℕ) → arg_by_short c char ≡ None

-- the kinds of words
pub data Seen (known : KnownOptions) (c : List Rule) (text : Text) : Type 0 where
  end : bytes_eq text dashes ≡ true → text_sight known text ≡ ends → is_plain text ≡ false → Seen known c text
  unknown : (name : Text) (value : Option Text) → bytes_eq text dashes ≡ false → long_of text ≡ Some (name, value)
      → arg_by_long c name ≡ None → text_sight known text ≡ wrong → is_plain text ≡ false → Seen known c text
  joined : (name value : Text) → bytes_eq text dashes ≡ false → long_of text ≡ Some (name, Some value)
      → arg_by_long c name ≡ Some (option_rule name true) → text_sight known text ≡ whole (named name value) → is_plain text ≡ false
      → Seen known c text
  flag : (name : Text) → bytes_eq text dashes ≡ false → long_of text ≡ Some (name, None)
      → arg_by_long c name ≡ Some (option_rule name false) → text_sight known text ≡ whole (named name (codes "true"))
      → is_plain text ≡ false → Seen known c text
  flag_joined : (name value : Text) → bytes_eq text dashes ≡ false → long_of text ≡ Some (name, Some value)
      → arg_by_long c name ≡ Some (option_rule name false) → text_sight known text ≡ wrong → is_plain text ≡ false → Seen known c text
  opening : (name : Text) → bytes_eq text dashes ≡ false → long_of text ≡ Some (name, None)
      → arg_by_long c name ≡ Some (option_rule name true) → arg_by_id c name ≡ Some (option_rule name true)
      → text_sight known text ≡ opens name → is_plain text ≡ false → Seen known c text
  short : (byte : ℕ) (bytes : Text) (char : ℕ) → bytes_eq text dashes ≡ false → long_of text ≡ None
      → short_of text ≡ Some (byte ∷ bytes) → slice_get (chars (byte ∷ bytes)) 0 ≡ Some char → arg_by_short c char ≡ None
      → text_sight known text ≡ wrong → is_plain text ≡ false → Seen known c text
  plain : bytes_eq text dashes ≡ false → long_of text ≡ None → short_of text ≡ None
      → text_sight known text ≡ whole (word text) → is_plain text ≡ true → Seen known c text

module _ (known : KnownOptions) (c : List Rule) (reads : Reads known c) where
  -- `--name` or `--name=value`
  seen_long : (text name : Text) (value : Option Text) (takes : Option Bool) → takes_value known name ≡ takes
      → bytes_eq text dashes ≡ false → long_of text ≡ Some (name, value) → text_sight known text ≡ long_sight name takes value
      → is_plain text ≡ false → Seen known c text
  seen_long text name value None is no_dashes is_long sees no_plain =
      unknown name value no_dashes is_long (reads.long name ∙ ap (option_map (option_rule name)) is) sees no_plain
  seen_long text name (Some value) (Some true) is no_dashes is_long sees no_plain =
      joined name value no_dashes is_long (reads.long name ∙ ap (option_map (option_rule name)) is) sees no_plain
  seen_long text name None (Some true) is no_dashes is_long sees no_plain =
      opening name no_dashes is_long (reads.long name ∙ ap (option_map (option_rule name)) is) (reads.by_id name true is) sees no_plain
  seen_long text name (Some value) (Some false) is no_dashes is_long sees no_plain =
      flag_joined name value no_dashes is_long (reads.long name ∙ ap (option_map (option_rule name)) is) sees no_plain
  seen_long text name None (Some false) is no_dashes is_long sees no_plain =
      flag name no_dashes is_long (reads.long name ∙ ap (option_map (option_rule name)) is) sees no_plain

  pub seen : (text : Text) → IsUtf8 text → Seen known c text
  seen [] utf8 = plain refl refl refl refl refl
  seen (first ∷ rest) utf8 = seen_first (first == 45) refl rest utf8
    where
      seen_third : (second : ℕ) (others : Text) → (first == 45) ≡ true → (second == 45) ≡ true
          → Seen known c (first ∷ second ∷ others)
      seen_third second [] one two = end (rw (one, two) refl) (rw (one, two) refl) (rw (one, two) refl)
      seen_third second (third ∷ others) one two =
          seen_long (first ∷ second ∷ third ∷ others) (name_in (third ∷ others)) (value_behind_equals (third ∷ others))
          (takes_value known (name_in (third ∷ others))) refl
          (rw (one, two) refl) (rw (one, two) refl) (rw (one, two) refl) (rw (one, two) refl)

      seen_second : (second : ℕ) (others : Text) (b : Bool) → (first == 45) ≡ true → (second == 45) ≡ b
          → IsUtf8 (first ∷ second ∷ others) → Seen known c (first ∷ second ∷ others)
      seen_second second others true one two utf8 = seen_third second others one two
      seen_second second others false one two utf8 =
          let char = has_char first second others one utf8 in
          short second others char.0 (rw (one, two) refl) (rw (one, two) refl) (rw (one, two) refl) char.1 (reads.short char.0)
          (rw (one, two) refl) (rw (one, two) refl)

      seen_first : (b : Bool) → (first == 45) ≡ b → (others : Text) → IsUtf8 (first ∷ others) → Seen known c (first ∷ others)
      seen_first false one others utf8 =
          plain (rw one refl) (rw one refl) (rw one refl) (rw one refl) (rw one refl)
      seen_first true one [] utf8 = plain (rw one refl) (rw one refl) (rw one refl) (rw one refl) (rw one refl)
      seen_first true one (second ∷ others) utf8 = seen_second second others (second == 45) one refl utf8
