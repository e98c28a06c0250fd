-- The twelve commands: what each takes, and which command words spell.
use Rattle.std.specs.Prelude.{ℕ, List, [], ◌∷◌, map, Vec, Bool, true, false, ◌&&◌, length, nat_le, nat_lt, Option, Some, None, option_map, option_and_then, unwrap_or, if◌then◌else◌, codes}
use Rattle.std.specs.List.{find, list_all}
use Rattle.std.specs.Option.{option_map_or}
use Rattle.std.specs.Str.{bytes_eq, is_utf8}
use Rattle.std.specs.Str.Parse.{digits_value}
use Rattle.std.specs.declared.alloc.Global.{Global}
use Rattle.dioc_terms.specs.Names.{is_digit}
use Rattle.dioc_terms.specs.Bundles.{is_identifier}
use Rattle.command_words.specs.Words.{Text, KnownOptions, text_of, given_by}
use Rattle.command_words.specs.declared.commands.Options.{Options}
use Rattle.command_words.specs.declared.commands.Command.{Command}
use Rattle.command_words.specs.declared.commands.Command.TheVariants as command
use Rattle.command_words.specs.declared.commands.Verb.{Verb}
use Rattle.command_words.specs.declared.commands.Verb.TheVariants.{Run, Step, Check, Project, Replay, Gen, Upgrade, Mend, Drive, Resume, Monitor, Sessions}

-- ---- what each command takes

abbrev pub name_of : Verb → Text
name_of Run = codes "run"
name_of Step = codes "step"
name_of Check = codes "check"
name_of Project = codes "project"
name_of Replay = codes "replay"
name_of Gen = codes "gen"
name_of Upgrade = codes "upgrade"
name_of Mend = codes "mend"
name_of Drive = codes "drive"
name_of Resume = codes "resume"
name_of Monitor = codes "monitor"
name_of Sessions = codes "sessions"

abbrev pub verbs : List Verb
verbs =
    Run ∷ Step ∷ Check ∷ Project ∷ Replay ∷ Gen ∷ Upgrade ∷ Mend ∷ Drive ∷ Resume ∷ Monitor
    ∷ Sessions ∷ []

unfoldable pub verb_of : Text → Option Verb
verb_of name = find (λ verb. bytes_eq name (name_of verb)) verbs

abbrev pub valued : Text → Text × Bool
valued name = (name, true)

abbrev pub flag : Text → Text × Bool
flag name = (name, false)

-- its options
abbrev pub known_options : Verb → KnownOptions
known_options Run = valued (codes "steps") ∷ flag (codes "aux") ∷ flag (codes "json") ∷ []
known_options Step =
    valued (codes "seed") ∷ valued (codes "steps") ∷ flag (codes "aux") ∷ flag (codes "json") ∷ []
known_options Drive = valued (codes "steps") ∷ []
known_options Resume =
    valued (codes "seed") ∷ valued (codes "steps") ∷ flag (codes "aux") ∷ flag (codes "json") ∷ []
known_options Sessions =
    valued (codes "workers") ∷ valued (codes "seed") ∷ valued (codes "steps") ∷ []
known_options _ = []

-- the names of its positional words, each of which it wants
abbrev pub positional_names : Verb → List Text
positional_names Gen = codes "number" ∷ codes "size" ∷ []
positional_names Monitor = codes "role" ∷ []
positional_names _ = []

-- the most entries that may be asked for, and how many they are where `--steps` is left out
abbrev pub most_steps : Verb → ℕ
most_steps Sessions = 2000
most_steps _ = 100000

abbrev pub usual_steps : Verb → ℕ
usual_steps Sessions = 2000
usual_steps _ = 20000

abbrev pub most_seed : ℕ
most_seed = 18446744073709551615

-- ---- numbers

abbrev pub are_digits : Text → Bool
are_digits text = nat_lt 0 (length text) && list_all is_digit text

-- a number in decimal digits, of any length, that lies in the bounds
abbrev pub number_within : ℕ → ℕ → Text → Option ℕ
number_within least most text =
    let number = digits_value 10 text in
    if are_digits text && (nat_le least number && nat_le number most) then Some number else None

-- the number of an option that may be left out: none where the text is no number in the bounds
abbrev pub optional_number : ℕ → ℕ → Option Text → Option (Option ℕ)
optional_number least most None = Some None
optional_number least most (Some text) = option_map Some (number_within least most text)

abbrev pub number_or : ℕ → ℕ → ℕ → Option Text → Option ℕ
number_or usual least most text =
    option_map (λ number. unwrap_or number usual) (optional_number least most text)

-- ---- commands

abbrev pub says_true : Text → Bool
says_true text = bytes_eq text (codes "true")

-- a flag is set where it is given, with the text `true`
abbrev pub is_set : Option Text → Bool
is_set text = option_map_or says_true text false

-- the text of each name, where it has one
abbrev pub Texts : Type 0
Texts = Text → Option Text

-- the options, where each number lies in its bounds; an option that a command doesn't have has no
-- text, and so is as if it were left out
abbrev pub options_of : Verb → Texts → Option Options
options_of verb texts =
    option_and_then (λ seed. option_and_then (λ steps. option_map (λ workers. record {
      seed = seed;
      steps = steps;
      workers = workers;
      aux = is_set (texts (codes "aux"));
      json = is_set (texts (codes "json"));
    }) (number_or 4 1 16 (texts (codes "workers"))))
    (number_or (usual_steps verb) 1 (most_steps verb) (texts (codes "steps"))))
    (optional_number 0 most_seed (texts (codes "seed")))

abbrev pub gen_of : Texts → Option Command
gen_of texts =
    option_and_then (λ number. option_map (λ size. command.Gen number size)
    (option_and_then (number_within 1 400) (texts (codes "size"))))
    (option_and_then (number_within 0 most_seed) (texts (codes "number")))

-- the role is a name of the grammar: at most 64 letters, digits and `_`, with a letter first, and
-- not reserved
abbrev pub monitor_by : Text → Option Command
monitor_by role =
    if is_identifier role then Some (command.Monitor (record { 0 = role })) else None

abbrev pub command_with : Verb → Texts → Option Command
command_with Run texts = option_map command.Run (options_of Run texts)
command_with Step texts = option_map command.Step (options_of Step texts)
command_with Check texts = Some command.Check
command_with Project texts = Some command.Project
command_with Replay texts = Some command.Replay
command_with Gen texts = gen_of texts
command_with Upgrade texts = Some command.Upgrade
command_with Mend texts = Some command.Mend
command_with Drive texts = option_map command.Drive (options_of Drive texts)
command_with Resume texts = option_map command.Resume (options_of Resume texts)
command_with Monitor texts = option_and_then monitor_by (texts (codes "role"))
command_with Sessions texts = option_map command.Sessions (options_of Sessions texts)

-- the words behind the command's name
abbrev pub command_by : List Text → Verb → Option Command
command_by words verb =
    option_and_then (λ given. command_with verb (text_of given))
    (given_by (known_options verb) (positional_names verb) words)

-- the first word is the command's name
abbrev pub named_first : List Text → Option Command
named_first [] = None
named_first (name ∷ words) = option_and_then (command_by words) (verb_of name)

-- the command that the words spell, all of them in UTF-8
abbrev pub command_of : List Text → Option Command
command_of words = if list_all is_utf8 words then named_first words else None

-- the bytes of the words
abbrev pub word_texts : List (Vec ℕ Global) → List Text
word_texts words = map (λ word. word.items) words
