-- `clap` uses a pending argument only when the next one comes. The walk is the same where it is used at once.
use Rattle.std.proofs.Common.{◌≡◌, ◌∙◌, ℕ, Bool, true, false, cond, List, [], ◌∷◌, Option, None, refl, sym, ap, inl, inr}
use Rattle.std.specs.Str.{IsUtf8, bytes_eq}
use Rattle.clap.specs.Lexer.{long_of, short_of}
use Rattle.clap.specs.Walk.{Row, Rule, Text, idle, settled_rows, used}
use Rattle.clap.specs.Kinds.{Kinds, or_else}
use Rattle.clap.specs.Faults.{settle_fault, use_fault}
use Rattle.command_words.specs.Words.{KnownOptions}
use Rattle.command_words.proofs.Rules.{passes, cond-none, option_rule}
use Rattle.command_words.proofs.Walking.{IsPlace, dashes, hold, run, state, run_ends, run_flag, run_flag_joined, run_joined, run_last, run_opens, run_plain, run_short, run_stray, run_trailing, run_unknown}
use Rattle.command_words.proofs.Sights.{Reads, seen, end, unknown, joined, flag, flag_joined, opening, short, plain}

-- each word is a text
unfoldable pub AreTexts : List Text → Type 0
AreTexts [] = Unit {0}
AreTexts (word ∷ words) = IsUtf8 word × AreTexts words

-- one fault after another
glue : {X : Type 0} (a b : Kinds) (found : Option X)
    → cond (passes (or_else a b)) found None ≡ cond (passes a) (cond (passes b) found None) None
glue [] b found = refl
glue (kind ∷ kinds) b found = refl

module _ (known : KnownOptions) (c : List Rule) (reads : Reads known c) (rows : List Row) (pending : Option (Text × List Text)) where
  abbrev settles : Bool
  settles = passes (settle_fault c false (hold rows pending))

  abbrev then : List Row
  then = settled_rows c pending rows

  nothing_left : (place : ℕ) (trailing : Bool) → run c (state idle (hold rows pending) place trailing) []
      ≡ cond settles (run c (state idle (hold then None) place trailing) []) None
  unfolding run
  nothing_left place trailing = refl

  both_none : (left right : Option (List Row)) → left ≡ None → right ≡ None → left ≡ cond settles right None
  both_none left right one two = one ∙ sym (ap (λ found. cond settles found None) two ∙ cond-none settles)

  both_same : (left right next : Option (List Row)) → left ≡ cond settles next None → right ≡ next → left ≡ cond settles right None
  both_same left right next one two = one ∙ sym (ap (λ found. cond settles found None) two)

  pub trailing_settles : (place : ℕ) (words : List Text) → IsPlace c place
      → run c (state idle (hold rows pending) place true) words
      ≡ cond settles (run c (state idle (hold then None) place true) words) None
  trailing_settles place [] at_place = nothing_left place true
  trailing_settles place (word ∷ rest) (inl none) =
      both_none _ _ (run_last c rows pending place word rest none) (run_last c then None place word rest none)
  trailing_settles place (word ∷ rest) (inr (name, k, is)) =
      both_same _ _ _ (run_trailing c rows pending place word rest name k is) (run_trailing c then None place word rest name k is)

  -- the use of one more argument
  use_settles : (rule : Rule) (values : List Text) (found : List Row → Option (List Row)) (left right : Option (List Row))
      → left ≡ cond (passes (or_else (settle_fault c false (hold rows pending)) (use_fault false rule values then))) (found (used rule values then)) None
      → right ≡ cond (passes (use_fault false rule values then)) (found (used rule values then)) None
      → left ≡ cond settles right None
  use_settles rule values found left right one two =
      both_same left right _ (one ∙ glue (settle_fault c false (hold rows pending)) (use_fault false rule values then) (found (used rule values then))) two

  pub settles_at_once : (place : ℕ) (words : List Text) → AreTexts words → IsPlace c place
      → run c (state idle (hold rows pending) place false) words
      ≡ cond settles (run c (state idle (hold then None) place false) words) None
  unfolding AreTexts
  settles_at_once place [] texts at_place = nothing_left place false
  settles_at_once place (word ∷ rest) texts at_place = elim (seen known c reads word texts.0) [
    | end is sees no_plain ↦
        run_ends c rows pending place word rest is ∙ trailing_settles place rest at_place
        ∙ sym (ap (λ found. cond settles found None) (run_ends c then None place word rest is))
    | unknown name value other_word is_long none sees no_plain ↦
        both_none _ _ (run_unknown c rows pending place word rest name value other_word is_long none)
        (run_unknown c then None place word rest name value other_word is_long none)
    | joined name value other_word is_long is sees no_plain ↦
        use_settles (option_rule name true) (value ∷ []) (λ rs. run c (state idle (hold rs None) place false) rest) _ _
        (run_joined c rows pending place word rest name value (option_rule name true) other_word is_long is refl)
        (run_joined c then None place word rest name value (option_rule name true) other_word is_long is refl)
    | flag name other_word is_long is sees no_plain ↦
        use_settles (option_rule name false) [] (λ rs. run c (state idle (hold rs None) place false) rest) _ _
        (run_flag c rows pending place word rest name (option_rule name false) other_word is_long is refl)
        (run_flag c then None place word rest name (option_rule name false) other_word is_long is refl)
    | flag_joined name value other_word is_long is sees no_plain ↦
        both_none _ _ (run_flag_joined c rows pending place word rest name value (option_rule name false) other_word is_long is refl)
        (run_flag_joined c then None place word rest name value (option_rule name false) other_word is_long is refl)
    | opening name other_word is_long is has sees no_plain ↦
        both_same _ _ _ (run_opens c rows pending place word rest name (option_rule name true) other_word is_long is refl)
        (run_opens c then None place word rest name (option_rule name true) other_word is_long is refl)
    | short byte bytes char other_word no_long is_short has_char none sees no_plain ↦
        both_none _ _ (run_short c rows pending place word rest byte bytes char other_word no_long is_short has_char none)
        (run_short c then None place word rest byte bytes char other_word no_long is_short has_char none)
    | plain other_word no_long no_short sees plain_word ↦ plain_settles at_place other_word no_long no_short
  ]
    where
      plain_settles : IsPlace c place → bytes_eq word dashes ≡ false → long_of word ≡ None → short_of word ≡ None
          → run c (state idle (hold rows pending) place false) (word ∷ rest)
          ≡ cond settles (run c (state idle (hold then None) place false) (word ∷ rest)) None
      plain_settles (inl none) other_word no_long no_short =
          both_none _ _ (run_stray c rows pending place word rest other_word no_long no_short none)
          (run_stray c then None place word rest other_word no_long no_short none)
      plain_settles (inr (name, k, is)) other_word no_long no_short =
          both_same _ _ _ (run_plain c rows pending place word rest name k other_word no_long no_short is)
          (run_plain c then None place word rest name k other_word no_long no_short is)
