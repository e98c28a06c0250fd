-- Words and the commands that they spell, worked out by hand.
use Rattle.std.proofs.Common.{◌≡◌, List, [], ◌∷◌, Some, None, refl, codes, true, false}
use Rattle.command_words.specs.Words.{Text}
use Rattle.command_words.specs.Commands.{command_of}
use Rattle.command_words.specs.declared.commands.Options.{Options}
use Rattle.command_words.specs.declared.commands.Command.{Command}
use Rattle.command_words.specs.declared.commands.Command.TheVariants.{Step, Check, Gen, Resume, Monitor, Sessions}
use Rattle.command_words.proofs.OnLiterals.{words_on_literals}

-- as they are where nothing is given
abbrev usual : Options
usual = record { seed = None; steps = 20000; workers = 4; aux = false; json = false }

-- the words spell this command
abbrev Asks : List Text → Command → Type 0
Asks words command = command_of words ≡ Some command

-- they spell none
abbrev AsksNothing : List Text → Type 0
AsksNothing words = command_of words ≡ None

seeded : Asks (codes "step" ∷ codes "--seed" ∷ codes "007" ∷ codes "--steps=41" ∷ codes "--aux" ∷ [])
    (Step (record usual { seed = Some 7; steps = 41; aux = true }))
unfolding words_on_literals
seeded = refl

any_order : Asks (codes "resume" ∷ codes "--json" ∷ codes "--steps" ∷ codes "100000" ∷ codes "--seed=18446744073709551615" ∷ [])
    (Resume (record usual { seed = Some 18446744073709551615; steps = 100000; json = true }))
unfolding words_on_literals
any_order = refl

ended_options : Asks (codes "check" ∷ codes "--" ∷ []) Check
unfolding words_on_literals
ended_options = refl

made : Asks (codes "gen" ∷ codes "--" ∷ codes "01" ∷ codes "003" ∷ []) (Gen 1 3)
unfolding words_on_literals
made = refl

of_role : Asks (codes "monitor" ∷ codes "trace" ∷ []) (Monitor (record { 0 = codes "trace" }))
unfolding words_on_literals
of_role = refl

pool : Asks (codes "sessions" ∷ codes "--workers=16" ∷ []) (Sessions (record usual { steps = 2000; workers = 16 }))
unfolding words_on_literals
pool = refl

no_word : AsksNothing []
no_word = refl

no_command : AsksNothing (codes "help" ∷ [])
unfolding words_on_literals
no_command = refl

no_value : AsksNothing (codes "step" ∷ codes "--seed" ∷ [])
unfolding words_on_literals
no_value = refl

ended_value : AsksNothing (codes "step" ∷ codes "--seed" ∷ codes "--" ∷ [])
unfolding words_on_literals
ended_value = refl

twice : AsksNothing (codes "step" ∷ codes "--seed" ∷ codes "1" ∷ codes "--seed" ∷ codes "1" ∷ [])
unfolding words_on_literals
twice = refl

none_at_all : AsksNothing (codes "run" ∷ codes "--steps" ∷ codes "0" ∷ [])
unfolding words_on_literals
none_at_all = refl

too_many : AsksNothing (codes "run" ∷ codes "--steps" ∷ codes "100001" ∷ [])
unfolding words_on_literals
too_many = refl

too_many_of_each : AsksNothing (codes "sessions" ∷ codes "--steps" ∷ codes "2001" ∷ [])
unfolding words_on_literals
too_many_of_each = refl

no_size : AsksNothing (codes "gen" ∷ codes "1" ∷ [])
unfolding words_on_literals
no_size = refl

too_large : AsksNothing (codes "gen" ∷ codes "1" ∷ codes "401" ∷ [])
unfolding words_on_literals
too_large = refl

other_option : AsksNothing (codes "check" ∷ codes "--aux" ∷ [])
unfolding words_on_literals
other_option = refl

valued_flag : AsksNothing (codes "run" ∷ codes "--aux=true" ∷ [])
unfolding words_on_literals
valued_flag = refl

lone_hyphen : AsksNothing (codes "step" ∷ codes "--steps" ∷ codes "-" ∷ [])
unfolding words_on_literals
lone_hyphen = refl

signed : AsksNothing (codes "step" ∷ codes "--seed" ∷ codes "+5" ∷ [])
unfolding words_on_literals
signed = refl

reserved_role : AsksNothing (codes "monitor" ∷ codes "scope" ∷ [])
unfolding words_on_literals
reserved_role = refl

no_text : AsksNothing ((255 ∷ []) ∷ [])
unfolding words_on_literals
no_text = refl

second_end : AsksNothing (codes "check" ∷ codes "--" ∷ codes "--" ∷ [])
unfolding words_on_literals
second_end = refl
