-- Which command words ask for, whether threads do it, and what holds of it.
use Rattle.std.specs.Prelude.{◌≤◌, ℕ, List, [], ◌∷◌, Bool, true, false, ◌||◌, Option, codes}
use Rattle.std.specs.Str.{bytes_eq}
use Rattle.command_words.specs.Commands.{command_of, most_steps}
use Rattle.command_words.specs.declared.commands.Command.{Command}
use Rattle.command_words.specs.declared.commands.Command.TheVariants as command
use Rattle.command_words.specs.declared.commands.Verb.TheVariants.{Drive, Resume, Run, Sessions, Step}

-- the command that the words ask for
abbrev pub asked : List (List ℕ) → Option Command
asked words = command_of words

-- whether the words ask for what is done by threads, as the first of them says
abbrev pub is_threaded : List (List ℕ) → Bool
is_threaded [] = false
is_threaded (name ∷ words) = bytes_eq name (codes "run") || bytes_eq name (codes "sessions")

-- whether a command is done by threads
abbrev pub needs_threads : Command → Bool
needs_threads (command.Run options) = true
needs_threads (command.Sessions options) = true
needs_threads _ = false

-- A run is to have no more entries than words can ask for, and what is made is no larger.
abbrev pub IsShort : Command → Type 0
IsShort (command.Run options) = options.steps ≤ most_steps Run
IsShort (command.Step options) = options.steps ≤ most_steps Step
IsShort (command.Drive options) = options.steps ≤ most_steps Drive
IsShort (command.Resume options) = options.steps ≤ most_steps Resume
IsShort (command.Sessions options) =
    (options.steps ≤ most_steps Sessions) × (1 ≤ options.workers) × (options.workers ≤ 16)
IsShort (command.Gen number size) = (1 ≤ size) × (size ≤ 400)
IsShort _ = Unit {0}
