-- What the matches of a command line show, by the definition of its words.
use Rattle.std.specs.Prelude.{◌≡◌, List, map, Bool, true, false, not, ◌&&◌, Option, Some, None, if◌then◌else◌, codes, MatchOption}
use Rattle.std.specs.List.{list_any}
use Rattle.std.specs.Str.{bytes_eq}
use Rattle.clap.specs.Words.{Rule, new_rule, first_value, found_of}
use Rattle.clap.specs.declared.builder.action.ArgAction.TheVariants.{Set, SetTrue}
use Rattle.clap.specs.declared.parser.matches.ArgMatches.{ArgMatches}
use Rattle.command_words.specs.Words.{Text, KnownOptions, GivenTexts, is_given, text_of, given_by}
use Rattle.command_words.specs.Commands.{known_options, positional_names}
use Rattle.command_words.specs.declared.commands.Verb.{Verb}
use Rattle.command_words.specs.declared.tables.KnownOption.{KnownOption}

-- the table of the program as one of the definition
abbrev pub known_in : List KnownOption → KnownOptions
known_in table = map (λ option. (option.name.now, option.takes_value)) table

-- an option of the table, as `clap` takes it
abbrev pub given_rule : Text × Bool → Rule
given_rule (name, true) = record (new_rule name) { long = Some name; action = Some Set }
given_rule (name, false) = record (new_rule name) { long = Some name; action = Some SetTrue }

-- a flag of this name
abbrev pub is_flag : KnownOptions → Text → Bool
is_flag known name = list_any (λ option. bytes_eq option.0 name && not option.1) known

-- the text of a name, where a flag that isn't given shows `false`
abbrev pub shown_text : KnownOptions → GivenTexts → Text → Option Text
shown_text known given name =
    if is_given given name then text_of given name
    else (if is_flag known name then Some (codes "false") else None)

-- the matches show what is given
abbrev pub MatchesShow : Verb → GivenTexts → ArgMatches → Type 0
MatchesShow verb given matches =
    (name : Text) → first_value (found_of matches) name ≡ shown_text (known_options verb) given name

abbrev pub given_for : Verb → List Text → Option GivenTexts
given_for verb words = given_by (known_options verb) (positional_names verb) words

-- there are matches exactly where the words give something, and they show it
abbrev pub Splits : Verb → List Text → Option ArgMatches → Type 0
Splits verb words matches = MatchOption matches (given_for verb words ≡ None)
    (λ found. (given : GivenTexts) × (given_for verb words ≡ Some given)
    × MatchesShow verb given found)
