-- The command that is built for each of the twelve, and its arguments.
use Rattle.std.proofs.Common.{◌≡◌, ℕ, ◌+◌, min, Bool, true, false, cond, ◌||◌, List, [], ◌∷◌, ◌++◌, map, fold, Some, None, refl, ap, ap₂, codes}
use Rattle.std.specs.Prelude.{option_map}
use Rattle.std.specs.List.{find}
use Rattle.std.specs.Str.{bytes_eq}
use Rattle.std.proofs.lemmas.Slice.Eq.{bytes_eq-Decides}
use Rattle.clap.specs.Lexer.{usize_max}
use Rattle.clap.specs.Walk.{Row, Rule, Text, arg_by_id, arg_by_long, arg_by_short, has_row, with_default}
use Rattle.clap.specs.Simple.{App, new_app, new_rule, on_top, with_rule}
use Rattle.clap.specs.Kinds.{Kinds, or_else}
use Rattle.clap.specs.Faults.{defaults_fault, is_simple_and_free}
use Rattle.command_words.specs.Words.{KnownOptions, takes_value}
use Rattle.command_words.specs.Commands.{known_options, positional_names}
use Rattle.command_words.specs.Splits.{given_rule}
use Rattle.command_words.specs.declared.commands.Verb.{Verb}
use Rattle.command_words.specs.declared.commands.Verb.TheVariants.{Run, Step, Check, Project, Replay, Gen, Upgrade, Mend, Drive, Resume, Monitor, Sessions}
use Rattle.command_words.proofs.Rules.{option_rule, word_rule}
use Rattle.command_words.proofs.Sights.{Reads}
use Rattle.command_words.proofs.Meaning.{Places}
use Rattle.command_words.proofs.Parses.{IsBuilt, IsEasy}

-- as the program makes it
abbrev pub started : App
started = on_top (λ s. record s { no_binary_name = true; disable_help_flag = true }) (new_app (codes "aioc"))

abbrev pub app_for : Verb → App
app_for verb = fold with_rule (fold with_rule started (map given_rule (known_options verb))) (map new_rule (positional_names verb))

-- its arguments, once it is built
abbrev pub options_in : KnownOptions → List Rule
options_in [] = []
options_in (one ∷ known) = option_rule one.0 one.1 ∷ options_in known

abbrev pub words_from : ℕ → List Text → List Rule
words_from place [] = []
words_from place (name ∷ names) = word_rule name place ∷ words_from (min (place + 1) usize_max) names

abbrev pub table : Verb → List Rule
table verb = options_in (known_options verb) ++ words_from 1 (positional_names verb)

-- ---- by the commands

pub simple_and_free : (verb : Verb) → is_simple_and_free (app_for verb) ≡ true
simple_and_free Run = refl
simple_and_free Step = refl
simple_and_free Check = refl
simple_and_free Project = refl
simple_and_free Replay = refl
simple_and_free Gen = refl
simple_and_free Upgrade = refl
simple_and_free Mend = refl
simple_and_free Drive = refl
simple_and_free Resume = refl
simple_and_free Monitor = refl
simple_and_free Sessions = refl

pub table_built : (verb : Verb) → IsBuilt (app_for verb) (table verb)
table_built Run = record { top = refl; subs = refl; words = refl }
table_built Step = record { top = refl; subs = refl; words = refl }
table_built Check = record { top = refl; subs = refl; words = refl }
table_built Project = record { top = refl; subs = refl; words = refl }
table_built Replay = record { top = refl; subs = refl; words = refl }
table_built Gen = record { top = refl; subs = refl; words = refl }
table_built Upgrade = record { top = refl; subs = refl; words = refl }
table_built Mend = record { top = refl; subs = refl; words = refl }
table_built Drive = record { top = refl; subs = refl; words = refl }
table_built Resume = record { top = refl; subs = refl; words = refl }
table_built Monitor = record { top = refl; subs = refl; words = refl }
table_built Sessions = record { top = refl; subs = refl; words = refl }

pub table_places : (verb : Verb) → Places (table verb) 1 (positional_names verb)
table_places Run = refl
table_places Step = refl
table_places Check = refl
table_places Project = refl
table_places Replay = refl
table_places Gen = (refl, refl, (refl, refl, refl))
table_places Upgrade = refl
table_places Mend = refl
table_places Drive = refl
table_places Resume = refl
table_places Monitor = (refl, refl, refl)
table_places Sessions = refl

-- ---- by the options

words_long : (place : ℕ) (names : List Text) (name : Text) → arg_by_long (words_from place names) name ≡ None
words_long place [] name = refl
words_long place (first ∷ names) name = words_long (min (place + 1) usize_max) names name

options_long : (known : KnownOptions) (words : List Rule) (name : Text) → arg_by_long words name ≡ None
    → arg_by_long (options_in known ++ words) name ≡ option_map (option_rule name) (takes_value known name)
options_long [] words name none = none
options_long (one ∷ known) words name none =
    go one.1 (bytes_eq one.0 name) refl (options_long known words name none)
  where
    go : (takes b : Bool) → bytes_eq one.0 name ≡ b
        → arg_by_long (options_in known ++ words) name ≡ option_map (option_rule name) (takes_value known name)
        → arg_by_long (option_rule one.0 takes ∷ (options_in known ++ words)) name
        ≡ option_map (option_rule name) (option_map (λ c. c.1) (cond (bytes_eq one.0 name) (Some (one.0, takes)) (find (λ c. bytes_eq c.0 name) known)))
    go true true is later = rw is (ap (λ n. Some (option_rule n true)) ((bytes_eq-Decides one.0 name).0 is))
    go false true is later = rw is (ap (λ n. Some (option_rule n false)) ((bytes_eq-Decides one.0 name).0 is))
    go true false is later = rw is later
    go false false is later = rw is later

options_by_id : (known : KnownOptions) (words : List Rule) (name : Text) (takes : Bool) → takes_value known name ≡ Some takes
    → arg_by_id (options_in known ++ words) name ≡ Some (option_rule name takes)
options_by_id [] words name takes has = cc
options_by_id (one ∷ known) words name takes has =
    go one.1 (bytes_eq one.0 name) refl has (options_by_id known words name takes)
  where
    go : (valued b : Bool) → bytes_eq one.0 name ≡ b
        → option_map (λ c. c.1) (cond (bytes_eq one.0 name) (Some (one.0, valued)) (find (λ c. bytes_eq c.0 name) known)) ≡ Some takes
        → (takes_value known name ≡ Some takes → arg_by_id (options_in known ++ words) name ≡ Some (option_rule name takes))
        → arg_by_id (option_rule one.0 valued ∷ (options_in known ++ words)) name ≡ Some (option_rule name takes)
    go true true is has later =
        let here : Some true ≡ Some takes = rw is at has in
        let same : true ≡ takes = cc in
        rw is (ap₂ (λ n t. Some (option_rule n t)) ((bytes_eq-Decides one.0 name).0 is) same)
    go false true is has later =
        let here : Some false ≡ Some takes = rw is at has in
        let same : false ≡ takes = cc in
        rw is (ap₂ (λ n t. Some (option_rule n t)) ((bytes_eq-Decides one.0 name).0 is) same)
    go true false is has later = rw is (later (rw is at has))
    go false false is has later = rw is (later (rw is at has))

words_short : (place : ℕ) (names : List Text) (char : ℕ) → arg_by_short (words_from place names) char ≡ None
words_short place [] char = refl
words_short place (first ∷ names) char = words_short (min (place + 1) usize_max) names char

options_short : (known : KnownOptions) (words : List Rule) (char : ℕ) → arg_by_short words char ≡ None
    → arg_by_short (options_in known ++ words) char ≡ None
options_short [] words char none = none
options_short (one ∷ known) words char none = go one.1 (options_short known words char none)
  where
    go : (takes : Bool) → arg_by_short (options_in known ++ words) char ≡ None
        → arg_by_short (option_rule one.0 takes ∷ (options_in known ++ words)) char ≡ None
    go true later = later
    go false later = later

pub table_reads : (verb : Verb) → Reads (known_options verb) (table verb)
table_reads verb = record {
  long = λ name. options_long (known_options verb) (words_from 1 (positional_names verb)) name (words_long 1 (positional_names verb) name);
  by_id = options_by_id (known_options verb) (words_from 1 (positional_names verb));
  short = λ char. options_short (known_options verb) (words_from 1 (positional_names verb)) char (words_short 1 (positional_names verb) char);
}

-- ---- no default has a fault, and nothing is required

none_either : (b : Bool) (kinds later : Kinds) → later ≡ [] → or_else (cond (b || true) [] kinds) later ≡ []
none_either true kinds later none = none
none_either false kinds later none = none

none_else : (b : Bool) (later : Kinds) → later ≡ [] → or_else (cond {A = Kinds} (b || false) [] []) later ≡ []
none_else true later none = none
none_else false later none = none

words_defaults : (place : ℕ) (names : List Text) (rows : List Row) → defaults_fault rows (words_from place names) ≡ []
unfolding defaults_fault
words_defaults place [] rows = refl
words_defaults place (name ∷ names) rows =
    none_either (has_row name rows) _ _
    (words_defaults (min (place + 1) usize_max) names (with_default rows (word_rule name place)))

option_defaults : (name : Text) (takes : Bool) (rest : List Rule) → ((rows : List Row) → defaults_fault rows rest ≡ [])
    → (rows : List Row) → defaults_fault rows (option_rule name takes ∷ rest) ≡ []
unfolding defaults_fault
option_defaults name true rest later rows = none_either (has_row name rows) _ _ (later (with_default rows (option_rule name true)))
option_defaults name false rest later rows = none_else (has_row name rows) _ (later (with_default rows (option_rule name false)))

options_defaults : (known : KnownOptions) (words : List Rule) → ((rows : List Row) → defaults_fault rows words ≡ [])
    → (rows : List Row) → defaults_fault rows (options_in known ++ words) ≡ []
options_defaults [] words none rows = none rows
options_defaults (one ∷ known) words none rows =
    option_defaults one.0 one.1 (options_in known ++ words) (options_defaults known words none) rows

defaults_easy : (verb : Verb) (rows : List Row) → defaults_fault rows (table verb) ≡ []
defaults_easy verb = options_defaults (known_options verb) (words_from 1 (positional_names verb)) (words_defaults 1 (positional_names verb))

pub table_easy : (verb : Verb) → IsEasy (table verb)
table_easy Run = record { defaults = defaults_easy Run; free = λ rows. refl }
table_easy Step = record { defaults = defaults_easy Step; free = λ rows. refl }
table_easy Check = record { defaults = defaults_easy Check; free = λ rows. refl }
table_easy Project = record { defaults = defaults_easy Project; free = λ rows. refl }
table_easy Replay = record { defaults = defaults_easy Replay; free = λ rows. refl }
table_easy Gen = record { defaults = defaults_easy Gen; free = λ rows. refl }
table_easy Upgrade = record { defaults = defaults_easy Upgrade; free = λ rows. refl }
table_easy Mend = record { defaults = defaults_easy Mend; free = λ rows. refl }
table_easy Drive = record { defaults = defaults_easy Drive; free = λ rows. refl }
table_easy Resume = record { defaults = defaults_easy Resume; free = λ rows. refl }
table_easy Monitor = record { defaults = defaults_easy Monitor; free = λ rows. refl }
table_easy Sessions = record { defaults = defaults_easy Sessions; free = λ rows. refl }
