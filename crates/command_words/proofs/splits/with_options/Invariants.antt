use Rattle.std.proofs.Common.{◌≡◌, map, fold, take}
use Rattle.clap.specs.Words.{app_of, with_rule}
use Rattle.command_words.specs.Splits.{known_in, given_rule}
use Rattle.command_words.proofs.splits.with_options.Given as goal

abbrev pub invariant-loop-option : goal.invariant-loop-option
invariant-loop-option l =
    app_of l.parser ≡ fold with_rule (app_of l.initial.parser) (map given_rule (known_in (take l.option-index l.options)))
