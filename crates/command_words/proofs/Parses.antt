-- The faults and the matches of a whole parse.
use Rattle.std.proofs.Common.{◌≡◌, ◌∙◌, ℕ, Bool, true, false, cond, ◌&&◌, ◌||◌, List, [], ◌∷◌, ◌++◌, map, fold, Option, Some, None, refl, sym, ap, ap₂, codes}
use Rattle.std.specs.Prelude.{option_map, is_some}
use Rattle.clap.specs.Walk.{Held, Names, Row, Rule, Text, Walk, finished, nothing_held, settled, walk, walk_from, walked, with_default}
use Rattle.clap.specs.Simple.{App, Shape, built, entered, matches_of, names_of}
use Rattle.clap.specs.Kinds.{Kinds, or_else}
use Rattle.clap.specs.Faults.{built_fault, check_fault, defaults_fault, entered_fault, fault_of, level_fault, settle_fault, turn_fault, walk_fault}
use Rattle.command_words.specs.Words.{KnownOptions, GivenTexts, given_by}
use Rattle.command_words.proofs.Rules.{or_else-nil, passes, rows_for}
use Rattle.command_words.proofs.Walking.{run, shape}
use Rattle.command_words.proofs.Sights.{Reads}
use Rattle.command_words.proofs.Settling.{AreTexts}
use Rattle.command_words.proofs.Meaning.{Places, words_given}

-- a walk over all words
abbrev end_of : List Rule → Walk → List Text → Held
end_of c w words = (fold (walked c []) w words).held

abbrev both_faults : List Rule → Walk → List Text → Kinds
both_faults c w words = or_else (walk_fault (shape c) [] w words) (settle_fault c false (end_of c w words))

passes-or_else : (a b : Kinds) → passes (or_else a b) ≡ cond (passes a) (passes b) false
passes-or_else [] b = refl
passes-or_else (kind ∷ kinds) b = refl

run_is : (c : List Rule) (w : Walk) (words : List Text)
    → run c w words ≡ cond (passes (both_faults c w words)) (Some (settled c (end_of c w words)).rows) None
unfolding run walk_fault
run_is c w [] = refl
run_is c w (word ∷ rest) =
    ap (λ found. cond (passes (turn_fault (shape c) [] w word)) found None) (run_is c (walked c [] w word) rest)
    ∙ go (turn_fault (shape c) [] w word) (walk_fault (shape c) [] (walked c [] w word) rest)
    (settle_fault c false (end_of c (walked c [] w word) rest)) (Some (settled c (end_of c (walked c [] w word) rest)).rows)
  where
    go : (a b d : Kinds) (found : Option (List Row))
        → cond (passes a) (cond (passes (or_else b d)) found None) None ≡ cond (passes (or_else (or_else a b) d)) found None
    go [] b d found = refl
    go (kind ∷ kinds) b d found = refl

-- no default has a fault, and no argument is required
pub record IsEasy (c : List Rule) : Type 0 where
  pub defaults : (rows : List Row) → defaults_fault rows c ≡ []
  pub free : (rows : List Row) → check_fault (shape c) rows false ≡ []

-- the command, built, has these arguments and nothing else
pub record IsBuilt (app : App) (c : List Rule) : Type 0 where
  pub top : (built app).top ≡ shape c
  pub subs : (built app).subs ≡ []
  pub words : app.top.no_binary_name ≡ true

level_is : (c : List Rule) (words : List Text) → IsEasy c
    → level_fault (shape c) [] nothing_held words false [] ≡ both_faults c (walk_from nothing_held) words
level_is c words easy =
    ap (λ kinds. or_else (walk_fault (shape c) [] (walk_from nothing_held) words) kinds)
    (ap₂ (λ a b. or_else (settle_fault c false (end_of c (walk_from nothing_held) words)) (or_else a b))
    (easy.defaults _) (easy.free _) ∙ or_else-nil _)

-- of a command with no subcommand
app_is : (s : Shape) (words : List Text) → built_fault (record { top = s; subs = [] }) nothing_held words
    ≡ level_fault s [] nothing_held words false []
app_is s words = go (walk s.rules [] nothing_held words).stopped
  where
    go : (stop : Option (Text × List Text))
        → level_fault s [] nothing_held words (is_some (entered (record { top = s; subs = [] }) stop)) (entered_fault (record { top = s; subs = [] }) stop)
        ≡ level_fault s [] nothing_held words false []
    go None = refl
    go (Some stop) = refl

module _ (known : KnownOptions) (names : List Text) (app : App) (c : List Rule) (reads : Reads known c) (places : Places c 1 names)
    (easy : IsEasy c) (is : IsBuilt app c) (words : List Text) (texts : AreTexts words) where
  whole_app : built app ≡ record { top = shape c; subs = [] }
  whole_app = ap₂ (λ top subs. record { top = top; subs = subs }) is.top is.subs

  fault_is : fault_of app words ≡ both_faults c (walk_from nothing_held) words
  fault_is =
      ap (λ no_name. built_fault (built app) nothing_held (cond no_name words (Rattle.std.proofs.Common.drop 1 words))) is.words
      ∙ ap (λ (a : App). built_fault a nothing_held words) whole_app ∙ app_is (shape c) words ∙ level_is c words easy

  given_is : cond (passes (fault_of app words)) (Some (settled c (end_of c (walk_from nothing_held) words)).rows) None
      ≡ option_map rows_for (given_by known names words)
  given_is =
      ap (λ kinds. cond (passes kinds) (Some (settled c (end_of c (walk_from nothing_held) words)).rows) None) fault_is
      ∙ sym (run_is c (walk_from nothing_held) words) ∙ words_given known c reads words [] names 1 texts places

  -- the matches, before the defaults
  matches_are : matches_of app words ≡ fold with_default (settled c (end_of c (walk_from nothing_held) words)).rows c
  matches_are =
      ap (λ no_name. Rattle.clap.specs.Walk.rows_after (built app).top.rules (names_of (built app)) (cond no_name words (Rattle.std.proofs.Common.drop 1 words))) is.words
      ∙ ap (λ (a : App). Rattle.clap.specs.Walk.rows_after a.top.rules (names_of a) words) whole_app

  -- with no fault the words give something, and the matches are made from it
  pub taken : fault_of app words ≡ [] → (given : GivenTexts) × (given_by known names words ≡ Some given)
      × (matches_of app words ≡ fold with_default (rows_for given) c)
  taken none = go (given_by known names words)
      (sym (ap (λ kinds. cond (passes kinds) (Some (settled c (end_of c (walk_from nothing_held) words)).rows) None) none) ∙ given_is)
    where
      go : (found : Option GivenTexts) → Some (settled c (end_of c (walk_from nothing_held) words)).rows ≡ option_map rows_for found
          → (given : GivenTexts) × (found ≡ Some given) × (matches_of app words ≡ fold with_default (rows_for given) c)
      go None e = cc
      go (Some given) e =
          let same : (settled c (end_of c (walk_from nothing_held) words)).rows ≡ rows_for given = cc in
          (given, refl, matches_are ∙ ap (λ rows. fold with_default rows c) same)

  -- with a fault they give nothing
  pub refused : passes (fault_of app words) ≡ false → given_by known names words ≡ None
  refused fails = go (given_by known names words)
      (sym (ap (λ b. cond b (Some (settled c (end_of c (walk_from nothing_held) words)).rows) None) fails) ∙ given_is)
    where
      go : (found : Option GivenTexts) → None ≡ option_map rows_for found → found ≡ None
      go None e = refl
      go (Some given) e = cc
